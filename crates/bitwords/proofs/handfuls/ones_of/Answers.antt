use Rattle.std.proofs.Common.{sym}
use Rattle.bitwords.proofs.Giving.{length-positions}
use Rattle.bitwords.proofs.handfuls.ones_of.Goals as goal

pub returns-clause-ones : goal.returns-clause-ones
returns-clause-ones c = sym (length-positions 0 c.args.word c.ranges.word.fits)
