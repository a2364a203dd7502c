use Rattle.std.proofs.Common.{rules}
use Rattle.uses.proofs.Granted.{none_at_first, sized_at_first}
use Rattle.uses.proofs.access.policies.Policy.new.Goals as goal

pub invariant_of-result : goal.invariant_of-result
invariant_of-result c = sized_at_first c.args.rights c.loop.sets.items c.loop.invariant.blank

pub returns-clause-none : goal.returns-clause-none
returns-clause-none c = none_at_first c.args.rights c.loop.sets.items c.loop.invariant.blank

pub loop-preserved : goal.loop-preserved
loop-preserved c = search rules steps 2000000
