use Rattle.flow.specs.Parts.{IsPart}
use Rattle.flow.proofs.postorder.Lists.take_from.Given as goal

abbrev pub invariant-loop : goal.invariant-loop
invariant-loop l = IsPart l.edges l.part.taken l.part.list.items
