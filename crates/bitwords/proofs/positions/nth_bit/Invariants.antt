use Rattle.std.proofs.Common.{ℕ, ◌≡◌, ◌-◌, ◌≤◌}
use Rattle.bitlanes.specs.Bits.{bit}
use Rattle.bitwords.specs.Rows.{count_below}
use Rattle.bitwords.proofs.positions.nth_bit.Given as goal

abbrev pub invariant-loop : goal.invariant-loop
invariant-loop l = (n : ℕ) → n ≤ 64 → count_below (bit l.rest) n ≡ count_below (bit l.word) n - l.counter
