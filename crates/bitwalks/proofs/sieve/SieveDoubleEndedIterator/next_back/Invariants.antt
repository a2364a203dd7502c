use Rattle.std.proofs.Common.{◌≡◌, ◌+◌, ℕ, filter, length}
use Rattle.bitwords.specs.Walk.{TakesFromBack}
use Rattle.bitwords.specs.Rows.{has_bit}
use Rattle.bitwalks.proofs.sieve.SieveDoubleEndedIterator.next_back.Given as goal

-- the items that came did not pass, and each was looked up
abbrev pub invariant-loop-position : goal.invariant-loop-position
invariant-loop-position g l = record {
  same : filter (λ p. g.C.Choice.passes (has_bit l.self-inside.other.now p)) l.self-inside.source.items
      ≡ l.fn.self.items;
  asked : l.self-inside.asked + length l.self-inside.source.items ≡ l.fn.self.asked + length l.fn.self.source.items;
  calls : ℕ;
  each : calls + length l.self-inside.source.items ≡ length l.fn.self.source.items;
  takes : TakesFromBack calls l.fn.self.source l.self-inside.source;
}

abbrev pub decreases-loop-position : goal.decreases-loop-position
decreases-loop-position g l = length l.self-inside.source.items
