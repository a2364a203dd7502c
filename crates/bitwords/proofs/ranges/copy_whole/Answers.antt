use Rattle.bitwords.proofs.Copied.{IsCopied-words}
use Rattle.bitwords.proofs.ranges.copy_whole.Goals as goal

pub returns-clause-bits : goal.returns-clause-bits
returns-clause-bits c =
    IsCopied-words c.args.other.now c.args.words.now _ c.args.from c.args.first c.args.last c.requires.order
    c.requires.within c.join_down.ensures.bits
