use Rattle.std.proofs.Common.{rules}
use Rattle.fixedbitset.proofs.NextPositions.{nth_one_of}
use Rattle.fixedbitset.proofs.views.Bits.nth_one.Goals as goal

pub returns-clause-nth : goal.returns-clause-nth
returns-clause-nth c =
    nth_one_of _ c.as_slice-words.result.now _ c.args.index c.as_slice-words.ensures.value (search rules) c.nth.result
    c.nth.ensures.found c.nth.ensures.below c.nth.ensures.none

pub returns-clause-cost : goal.returns-clause-cost
returns-clause-cost c = search rules steps 300000
