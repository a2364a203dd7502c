use Rattle.flow.specs.Parts.{IsPart}
use Rattle.flow.proofs.postorder.Lists.take_all.Given as goal

abbrev pub invariant-loop-node : goal.invariant-loop-node
invariant-loop-node l = IsPart l.edges l.part.taken l.part.list.items
