use Rattle.std.proofs.Common.{◌≡◌, ◌≤◌, ◌++◌, length, drop, vec_len}
use Rattle.std.specs.Vec.{vec_capacity}
use Rattle.bitcommands.specs.Calls.{calls}
use Rattle.bitcommands.proofs.commands.calling.call_each.Given as goal

-- the answers so far, and those of the ends that are left, for which there is room
abbrev pub invariant-loop-end : goal.invariant-loop-end
invariant-loop-end g l = record {
  so_far : calls l.ends (g.W.TwoEnds.items_left l.fn.walk)
      ≡ l.items.items ++ calls (drop l.end-index l.ends) (g.W.TwoEnds.items_left l.walk);
  len : vec_len l.items ≡ l.end-index;
  room : length l.ends ≤ vec_capacity l.items;
}
