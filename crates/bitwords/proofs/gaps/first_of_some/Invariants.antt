use Rattle.std.proofs.Common.{◌≡◌, ℕ, ◌+◌, ◌-◌, ◌*◌, ◌/◌, ◌<◌, ◌≤◌, nat_lt}
use Rattle.bitlanes.specs.Bits.{bit}
use Rattle.bitlanes.specs.Words.{lane_steps}
use Rattle.bitwords.specs.Rows.{has_bit}
use Rattle.bitwords.proofs.Rooms.{free, IsOpen}
use Rattle.bitwords.proofs.gaps.first_of_some.Given as goal

-- no number before `begin` has room, those from there up to the word are free, and the room ends in it or behind
abbrev pub invariant-loop-begin : goal.invariant-loop-begin
invariant-loop-begin l = record {
  masked : (i : ℕ) → bit l.mask i ≡ nat_lt (64 * l.index + i) l.from;
  after : l.from ≤ l.begin;
  within : l.begin + l.count ≤ l.end;
  near : 64 * l.index < l.begin → l.begin ≡ l.from;
  first : l.from / 64 ≤ l.index;
  opened : IsOpen (free (has_bit l.words) l.from) l.count (64 * l.index) l.begin;
  needed : 64 * l.index < l.begin + l.count;
  cost : l.steps ≡ l.fn.steps + lane_steps (l.index - l.from / 64);
}

abbrev pub decreases-loop-begin : goal.decreases-loop-begin
decreases-loop-begin l = l.end - 64 * l.index
