use Rattle.std.proofs.Common.{rules}
use Rattle.fixedbitset.proofs.NextPositions.{previous_zero_of}
use Rattle.fixedbitset.proofs.views.Bits.previous_zero.Goals as goal

pub returns-clause-previous : goal.returns-clause-previous
returns-clause-previous c =
    previous_zero_of c.args.self.length c.args.self.words.now c.args.self.clean c.args.below c.previous.result
    (rw c.min.ensures at c.previous.ensures.found) (rw c.min.ensures at c.previous.ensures.none)

pub returns-clause-empty : goal.returns-clause-empty
returns-clause-empty c = search rules steps 300000
