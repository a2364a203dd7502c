use Rattle.std.proofs.Common.{◌≡◌, ◌-◌, ◌*◌}
use Rattle.std.specs.Fmt.{IsFlush, HasWrittenStyled}
use Rattle.fixedbitset.proofs.Texts.{characters}
use Rattle.fixedbitset.proofs.set.FixedBitSet.write_digits.Given as goal

-- the characters of the words so far are written, and so many positions are left
abbrev pub invariant-loop-word : goal.invariant-loop-word
invariant-loop-word g l = record {
  left : l.left ≡ l.fn.self.length - 64 * l.word-index;
  written : IsFlush l.initial.f
      → HasWrittenStyled g.W.Write.write_str_gives l.initial.f (characters l.fn.self 0 (l.fn.self.length - l.left)) l.f;
}
