use Rattle.bits_c.proofs.Words.{lowest_first}
use Rattle.bits_c.proofs.handfuls.ZeroesGiver.take_first.Goals as goal

pub returns : goal.returns
returns c = lowest_first _ _ _ _ _ c.take_lowest_bit-lowest.ensures.lowest c.take_lowest_bit-lowest.ensures.clears
