use Rattle.std.proofs.Common.{take}
use Rattle.uses.specs.Subsets.{IsStep}
use Rattle.uses.proofs.subsets.construction.step.Given as goal

abbrev pub invariant-loop-from : goal.invariant-loop-from
invariant-loop-from l = IsStep l.nfa.states (take l.from-index l.nfa.edges.items) l.set l.by l.new
