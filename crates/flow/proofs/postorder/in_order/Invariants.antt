use Rattle.std.proofs.Common.{ℕ, ◌<◌, IsTrue}
use Rattle.fixedbitset.specs.Bits.{contains}
use Rattle.flow.specs.Parts.{IsPart}
use Rattle.flow.proofs.postorder.in_order.Given as goal

abbrev pub invariant-loop-index : goal.invariant-loop-index
invariant-loop-index l = record {
  part : IsPart l.edges l.part.taken l.part.list.items;
  all : (k : ℕ) → k < l.index → IsTrue (contains l.part.taken k);
}
