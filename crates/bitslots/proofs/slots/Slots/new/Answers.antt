use Rattle.std.proofs.Common.{rules}
use Rattle.bitslots.proofs.slots.Slots.new.Goals as goal

pub returns : goal.returns
returns c = search rules steps 300000
