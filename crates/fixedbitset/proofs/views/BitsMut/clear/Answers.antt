use Rattle.std.proofs.Common.{refl, rules}
use Rattle.fixedbitset.proofs.Blocks.{zeroed}
use Rattle.fixedbitset.proofs.views.BitsMut.clear.Goals as goal

pub invariant_of-self : goal.invariant_of-self
invariant_of-self c = record { clean = (zeroed _ _ _ c.args.self.now.clean c.zero_row.ensures.words).clean }

pub returns-clause-value : goal.returns-clause-value
returns-clause-value c =
    record { value = (zeroed _ _ _ c.args.self.now.clean c.zero_row.ensures.words).value; length = refl; same = refl }

pub returns-clause-cost : goal.returns-clause-cost
returns-clause-cost c = search rules steps 100000
