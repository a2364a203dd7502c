use Rattle.std.proofs.Common.{rules}
use Rattle.fixedbitset.proofs.NextPositions.{next_zero_of}
use Rattle.fixedbitset.proofs.views.Bits.next_zero.Goals as goal

pub returns-clause-next : goal.returns-clause-next
returns-clause-next c =
    next_zero_of c.args.self.length c.args.self.words.now c.args.self.clean c.args.from c.next.result
    c.next.ensures.found c.next.ensures.none

pub returns-clause-empty : goal.returns-clause-empty
returns-clause-empty c = search rules steps 300000
