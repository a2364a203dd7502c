use Rattle.std.proofs.Common.{◌≡◌, take}
use Rattle.fixedbitset.specs.Bits.{of_words, remove_all}
use Rattle.fixedbitset.specs.Stored.{IsClean}
use Rattle.fixedbitset.proofs.views.BitsMut.remove_all.Given as goal

-- the positions that came are clear
abbrev pub invariant-loop-position : goal.invariant-loop-position
invariant-loop-position l = record {
  value : of_words l.length l.words
      ≡ remove_all (of_words l.length l.fn.self.words.now) (take l.position-index l.positions);
  clean : IsClean l.length l.words;
}
