use Rattle.std.proofs.Common.{◌/◌, ◌==◌, rules, ap, ◌∙◌, arith}
use Rattle.bitwords.proofs.Counted.{count-word, ones-zero, sum_is_start}
use Rattle.bitwords.proofs.ranges.none_part.Goals as goal

pub returns-then-start-end-clause-none : goal.returns-then-start-end-clause-none
returns-then-start-end-clause-none g c =
    ap (λ n. n == 0) c.word.ensures ∙ ones-zero _
    ∙ sum_is_start _ _ _
    (count-word g.met.O.WordOp.laws c.requires.drops c.args.words.now (λ k. search rules) (c.args.start / 64)
    c.mask.result c.args.start c.args.end c.mask.type_inv (omega arith) (omega arith) (omega arith) c.mask.ensures)
