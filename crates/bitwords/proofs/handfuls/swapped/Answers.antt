use Rattle.bitwords.proofs.Reversed.{swapped_bits}
use Rattle.bitwords.proofs.handfuls.swapped.Goals as goal

pub returns : goal.returns
returns c = swapped_bits c.args.word c.args.by c.args.low c.requires.pairs
