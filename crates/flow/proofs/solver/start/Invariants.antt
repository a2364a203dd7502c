use Rattle.std.proofs.Common.{◌≡◌, replicate, take}
use Rattle.fixedbitset.specs.Bits.{empty}
use Rattle.flow.proofs.solver.start.Given as goal

abbrev pub invariant-loop-out : goal.invariant-loop-out
invariant-loop-out l = record {
  ins : l.ins.items ≡ replicate l.out-index (empty l.facts);
  outs : l.outs.items ≡ take l.out-index l.gens;
}
