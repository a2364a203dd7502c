use Rattle.std.proofs.Common.{◌-◌, ◌*◌, ◌/◌, rules, arith}
use Rattle.bitwords.proofs.Counted.{count-word}
use Rattle.bitwords.proofs.ranges.count_tail.Goals as goal

pub returns-clause-count : goal.returns-clause-count
returns-clause-count g c =
    let end = c.args.end in
    rw c.word.ensures
    (count-word g.met.O.WordOp.laws c.requires.drops c.args.words.now (λ k. search rules) ((end - 1) / 64)
    c.tail_mask.result (64 * ((end - 1) / 64)) end
    c.tail_mask.type_inv (omega arith) (omega (arith, c.requires.some)) (omega (arith, c.requires.some))
    c.tail_mask.ensures)
