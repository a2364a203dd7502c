use Rattle.std.proofs.Common.{rules, arith}
use Rattle.bitwords.proofs.Copied.{IsCopied-word}
use Rattle.bitwords.proofs.ranges.copy_part.Goals as goal

pub returns-then-start-end-clause-bits : goal.returns-then-start-end-clause-bits
returns-then-start-end-clause-bits c =
    rw c.word_from.ensures
    (IsCopied-word c.args.other.now c.args.words.now (λ k. search rules) (λ k. search rules) c.args.from c.args.start
    c.args.end c.mask-mask.result (omega arith) c.requires.one_word c.mask-mask.type_inv c.mask-mask.ensures)
