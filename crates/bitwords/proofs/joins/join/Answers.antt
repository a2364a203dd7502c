use Rattle.std.proofs.Common.{◌∙◌, ap, rules, length, replicate, arith, length-take, length-drop, ℕ}
use Rattle.bitwords.proofs.Cleared.{IsJoined-kept, IsJoined-zeroed}
use Rattle.bitwords.proofs.Written.{length-kept}
use Rattle.bitwords.proofs.joins.join.Goals as goal

pub returns-then-common-words-clause-bits : goal.returns-then-common-words-clause-bits
returns-then-common-words-clause-bits g c =
    rw c.apply.ensures.words
    (IsJoined-zeroed g.met.O.WordOp.laws c.args.words.now c.args.other.now (λ k. search rules) (λ k. search rules)
    c.zero.new.dst (cc) (rw c.apply.ensures.words at c.if-common-words.true)
    (c.zero.ensures.words
    ∙ ap (λ n. replicate n 0) (let e = length-kept g.O.WordOp.joined c.args.words.now c.args.other.now in
    let f = ap length c.apply.ensures.words in simp (length-take, length-drop) (omega arith))))

pub returns-else-not-KEEP-clause-bits : goal.returns-else-not-KEEP-clause-bits
returns-else-not-KEEP-clause-bits g c =
    rw c.apply.ensures.words
    (IsJoined-kept g.met.O.WordOp.laws c.args.words.now c.args.other.now (λ k. search rules) (λ k. search rules)
    (rw (c.apply.ensures.words, c.KEEP.ensures) at c.else-not-KEEP.either))

pub returns-then-common-words-clause-cost : goal.returns-then-common-words-clause-cost
returns-then-common-words-clause-cost g c =
    rw (← c.KEEP.ensures, c.if-not-KEEP.true) (omega (arith, length-take {A = ℕ}, length-drop {A = ℕ}))

pub returns-else-not-KEEP-clause-cost : goal.returns-else-not-KEEP-clause-cost
returns-else-not-KEEP-clause-cost g c = grind arith
