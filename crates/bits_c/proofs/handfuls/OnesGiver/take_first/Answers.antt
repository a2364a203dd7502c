use Rattle.bits_c.proofs.Words.{lowest_first}
use Rattle.bits_c.proofs.handfuls.OnesGiver.take_first.Goals as goal

pub returns-then-self-ne0 : goal.returns-then-self-ne0
returns-then-self-ne0 c = lowest_first _ _ _ _ _ c.take_lowest_bit.ensures.lowest c.take_lowest_bit.ensures.clears
