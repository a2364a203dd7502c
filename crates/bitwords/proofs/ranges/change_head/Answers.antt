use Rattle.std.proofs.Common.{◌/◌, ◌*◌, ◌+◌, rules, arith}
use Rattle.bitwords.proofs.Joined.{IsJoined-word}
use Rattle.bitwords.proofs.ranges.change_head.Goals as goal

pub returns-clause-bits : goal.returns-clause-bits
returns-clause-bits g c =
    let start = c.args.start in
    rw c.word.ensures
    (IsJoined-word g.met.O.WordOp.laws c.requires.keeps c.args.words.now (λ k. search rules) (start / 64)
    c.head_mask.result start (64 * (start / 64) + 64)
    (omega (arith, c.requires.within)) c.head_mask.type_inv (omega arith) (omega arith) c.head_mask.ensures)
