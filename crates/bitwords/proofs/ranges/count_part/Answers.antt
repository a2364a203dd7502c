use Rattle.std.proofs.Common.{◌/◌, rules, arith}
use Rattle.bitwords.proofs.Counted.{count-word}
use Rattle.bitwords.proofs.ranges.count_part.Goals as goal

pub returns-then-start-end-clause-count : goal.returns-then-start-end-clause-count
returns-then-start-end-clause-count g c =
    rw c.word.ensures
    (count-word g.met.O.WordOp.laws c.requires.drops c.args.words.now (λ k. search rules) (c.args.start / 64)
    c.mask.result c.args.start c.args.end
    c.mask.type_inv (omega arith) (omega arith) (omega arith) c.mask.ensures)
