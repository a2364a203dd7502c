use Rattle.std.proofs.Common.{◌≤◌, arith}
use Rattle.bitslots.proofs.Taken.{lowered}
use Rattle.bitslots.proofs.slots.Slots.lower.Goals as goal

pub returns-clause-within : goal.returns-clause-within
returns-clause-within c =
    let h : c.unwrap_or.result ≤ c.args.slot =
    rw c.unwrap_or.ensures (lowered c.args.self.now c.args.slot c.take.result c.requires
    (rw c.give_back.ensures.after at c.take.ensures.slot)) in
    omega arith
