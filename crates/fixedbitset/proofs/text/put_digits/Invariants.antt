use Rattle.std.proofs.Common.{◌≡◌, ℕ, ◌+◌, ◌<◌, get_or}
use Rattle.std.specs.Int.{bit_at}
use Rattle.fixedbitset.proofs.text.put_digits.Given as goal

-- the bits so far stand there as characters
abbrev pub invariant-loop-index : goal.invariant-loop-index
invariant-loop-index l = (i : ℕ) → i < l.index → get_or l.digits i 0 ≡ 48 + bit_at l.word i
