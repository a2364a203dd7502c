use Rattle.std.proofs.Common.{◌≡◌, take}
use Rattle.fixedbitset.specs.Bits.{of_words, add_all}
use Rattle.fixedbitset.specs.Stored.{IsClean}
use Rattle.fixedbitset.proofs.views.BitsMut.insert_all.Given as goal

-- the positions that came are set
abbrev pub invariant-loop-position : goal.invariant-loop-position
invariant-loop-position l = record {
  value : of_words l.length l.words
      ≡ add_all (of_words l.length l.fn.self.words.now) (take l.position-index l.positions);
  clean : IsClean l.length l.words;
}
