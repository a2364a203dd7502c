use Rattle.uses.proofs.Pools.{two_taken}
use Rattle.std.proofs.Common.{rules}
use Rattle.uses.proofs.slots.take_two.Goals as goal

pub returns-clause-first : goal.returns-clause-first
returns-clause-first c = search rules steps 300000

pub returns-clause-second : goal.returns-clause-second
returns-clause-second c = search rules steps 300000

pub returns-clause-are_taken : goal.returns-clause-are_taken
returns-clause-are_taken c = search (rules, two_taken) steps 300000
