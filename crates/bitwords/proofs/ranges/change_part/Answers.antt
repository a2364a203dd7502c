use Rattle.std.proofs.Common.{◌/◌, rules, arith}
use Rattle.bitwords.proofs.Joined.{IsJoined-word}
use Rattle.bitwords.proofs.ranges.change_part.Goals as goal

pub returns-then-start-end-clause-bits : goal.returns-then-start-end-clause-bits
returns-then-start-end-clause-bits g c =
    rw c.word.ensures
    (IsJoined-word g.met.O.WordOp.laws c.requires.keeps c.args.words.now (λ k. search rules) (c.args.start / 64)
    c.mask.result c.args.start c.args.end
    (omega arith) c.mask.type_inv (omega arith) (omega arith) c.mask.ensures)
