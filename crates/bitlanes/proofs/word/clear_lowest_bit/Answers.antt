use Rattle.bitlanes.proofs.Lowest.{clears_lowest}
use Rattle.bitlanes.proofs.word.clear_lowest_bit.Goals as goal

pub returns : goal.returns
returns c = λ bit is. clears_lowest c.args.word bit is
