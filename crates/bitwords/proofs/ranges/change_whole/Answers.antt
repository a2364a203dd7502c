use Rattle.std.proofs.Common.{◌≡◌, ◌*◌, ◌^◌, ◌+◌, ◌-◌, rules, arith}
use Rattle.bitwords.proofs.Joined.{IsJoined-append, IsJoined-word}
use Rattle.bitwords.proofs.Parts.{masked_whole}
use Rattle.bitwords.proofs.ranges.change_whole.Goals as goal

pub loop-k-preserved : goal.loop-k-preserved
loop-k-preserved g c =
    let k = c.loop-k.k in
    let word = IsJoined-word g.met.O.WordOp.laws c.requires.keeps c.loop-k.words (λ j. search rules) k (2 ^ 64 - 1)
    (64 * k) (64 * (k + 1)) (omega arith) (omega arith) (omega arith) (omega arith) (masked_whole k) in
    record {
      bits = IsJoined-append g.met.O.WordOp.laws c.requires.keeps _ _ _ (64 * c.args.first) (64 * k) (64 * (k + 1))
          (omega arith) (omega arith) c.loop-k.invariant.bits (rw c.word-in-loop-k.ensures word);
      cost = omega arith;
    }

pub returns-then-last-first-eq1-clause-bits : goal.returns-then-last-first-eq1-clause-bits
returns-then-last-first-eq1-clause-bits g c =
    let k = c.args.first in
    let after : c.args.last ≡ k + 1 = omega arith in
    let word = IsJoined-word g.met.O.WordOp.laws c.requires.keeps c.args.words.now (λ j. search rules) k (2 ^ 64 - 1)
    (64 * k) (64 * (k + 1)) (omega arith) (omega arith) (omega arith) (omega arith) (masked_whole k) in
    rw (after, c.word.ensures) word
