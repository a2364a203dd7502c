use Rattle.std.proofs.Common.{◌≡◌, ◌+◌, ◌*◌}
use Rattle.bitlanes.specs.Ones.{ones_up_to}
use Rattle.bitlanes.proofs.carries.count_eights.Given as goal

abbrev pub invariant-loop-block : goal.invariant-loop-block
invariant-loop-block g l = record {
  ones : l.sums + 8 * l.eights ≡ ones_up_to (32 * l.block) g.O.WordOp.joined l.a l.b;
  cost : l.steps ≡ l.fn.steps + 8 * l.block;
}
