use Rattle.std.proofs.Common.{◌∙◌}
use Rattle.bitwords.proofs.Giving.{positions-placed}
use Rattle.bitwords.proofs.handfuls.give_word.Goals as goal

pub returns-clause-written : goal.returns-clause-written
returns-clause-written c = c.give_in_order.ensures.written ∙ positions-placed c.args.base c.args.word
