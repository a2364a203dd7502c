use Rattle.std.proofs.Common.{◌≡◌, ◌+◌, ◌*◌, ◌/◌, rules, arith, true, ap, ◌∙◌}
use Rattle.bitwords.specs.Rows.{count_below, bit_test}
use Rattle.bitwords.proofs.Counted.{count-word}
use Rattle.bitwords.proofs.ranges.count_head.Goals as goal

pub returns-clause-count : goal.returns-clause-count
returns-clause-count g c =
    let start = c.args.start in
    let end : 64 * (start / 64) + 64 ≡ 64 * (start / 64 + 1) = omega arith in
    rw c.word.ensures
    (count-word g.met.O.WordOp.laws c.requires.drops c.args.words.now (λ k. search rules) (start / 64)
    c.head_mask.result start (64 * (start / 64) + 64)
    c.head_mask.type_inv (omega arith) (omega arith) (omega arith) c.head_mask.ensures
    ∙ ap (count_below (bit_test (g.O.WordOp.truth true) c.args.words.now)) end)
