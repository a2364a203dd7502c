use Rattle.std.proofs.Common.{◌∙◌, rules}
use Rattle.std.proofs.lemmas.Option.{IfSome_then}
use Rattle.fixedbitset.proofs.Gaps.{same_gap, equal_le}
use Rattle.fixedbitset.proofs.views.Bits.first_gap.Goals as goal

pub returns-clause-gap : goal.returns-clause-gap
returns-clause-gap c = c.first.ensures.gap ∙ same_gap c.args.self.length c.args.self.words.now c.args.count c.args.from

pub returns-clause-least : goal.returns-clause-least
returns-clause-least c = IfSome_then _ c.first.ensures.cost (λ p is. equal_le is)

pub returns-clause-found : goal.returns-clause-found
returns-clause-found c = search rules steps 100000

pub returns-clause-cost : goal.returns-clause-cost
returns-clause-cost c = search rules steps 100000
