use Rattle.std.proofs.Common.{arith, rules}
use Rattle.std.proofs.lemmas.Grind.{common_steps}
use Rattle.fixedbitset.proofs.Words.{of_length}
use Rattle.fixedbitset.specs.Order.{compare, key}
use Rattle.fixedbitset.proofs.views.Bits.compare.Goals as goal

pub returns-in-Equal-clause-value : goal.returns-in-Equal-clause-value
unfolding compare key
returns-in-Equal-clause-value c = grind (arith, common_steps, of_length) steps 100000

pub returns-in_default : goal.returns-in_default
unfolding compare key
returns-in_default c = grind (arith, common_steps, of_length)

pub returns-in-Equal-clause-unlike : goal.returns-in-Equal-clause-unlike
returns-in-Equal-clause-unlike c = grind arith

pub returns-in-Equal-clause-like : goal.returns-in-Equal-clause-like
returns-in-Equal-clause-like c = search (rules, of_length) steps 300000
