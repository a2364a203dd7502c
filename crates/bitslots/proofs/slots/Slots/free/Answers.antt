use Rattle.std.proofs.Common.{ap, arith}
use Rattle.fixedbitset.specs.SizeFacts.{range_counts_add_up}
use Rattle.bitslots.specs.Slots.{free_count}
use Rattle.bitslots.proofs.slots.Slots.free.Goals as goal

pub returns-clause-all : goal.returns-clause-all
returns-clause-all c =
    let free = ap free_count c.self.view_is in
    omega (arith, free, c.count_zeroes.ensures, range_counts_add_up c.args.self.now 0 c.args.self.now.length)
