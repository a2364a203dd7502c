use Rattle.std.proofs.Common.{◌/◌, ◌*◌, ◌+◌, ◌-◌, rules, arith}
use Rattle.bitwords.proofs.Joined.{IsJoined-word}
use Rattle.bitwords.proofs.ranges.change_tail.Goals as goal

pub returns-clause-bits : goal.returns-clause-bits
returns-clause-bits g c =
    let at = (c.args.end - 1) / 64 in
    rw c.word.ensures
    (IsJoined-word g.met.O.WordOp.laws c.requires.keeps c.args.words.now (λ k. search rules) at
    c.tail_mask.result (64 * at) c.args.end
    (omega (arith, c.requires)) c.tail_mask.type_inv (omega arith) (omega (arith, c.requires)) c.tail_mask.ensures)
