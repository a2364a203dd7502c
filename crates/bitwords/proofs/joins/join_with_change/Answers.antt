use Rattle.std.proofs.Common.{◌∙◌, true, ap, sym, rules, length, replicate}
use Rattle.std.proofs.Common.{arith, if◌then◌else◌, length-take, length-drop, ℕ}
use Rattle.bitwords.proofs.TwoRows.{changed-zeroed, changed-kept}
use Rattle.bitwords.proofs.Cleared.{IsJoined-kept, IsJoined-zeroed}
use Rattle.bitwords.proofs.Written.{length-kept}
use Rattle.bitwords.proofs.joins.join_with_change.Goals.{then-joined, else-joined}
use Rattle.bitwords.proofs.joins.join_with_change.Goals as goal

pub returns-then-common-words-clause-bits : goal.returns-then-common-words-clause-bits
returns-then-common-words-clause-bits g c =
    rw c.apply-joined.ensures.words
    (IsJoined-zeroed g.met.O.WordOp.laws c.args.words.now c.args.other.now (λ k. search rules) (λ k. search rules)
    c.zero-cleared.new.dst (cc) (rw c.apply-joined.ensures.words at c.if-common-words.true)
    (c.zero-cleared.ensures.words
    ∙ ap (λ n. replicate n 0) (let e = length-kept g.O.WordOp.joined c.args.words.now c.args.other.now in
    let f = ap length c.apply-joined.ensures.words in simp (length-take, length-drop) (omega arith))))

pub returns-then-common-words-clause-changed : goal.returns-then-common-words-clause-changed
returns-then-common-words-clause-changed g c =
    let told =
    changed-zeroed g.met.O.WordOp.laws c.args.words.now c.args.other.now (λ k. search rules) (λ k. search rules)
    c.requires.shorter
    c.apply-joined.result c.zero-cleared.result c.apply-joined.new.dst (cc) c.apply-joined.ensures.changed
    c.apply-joined.ensures.words c.zero-cleared.ensures.changed in
    elim c.if-joined.branch [
      | then-joined w ↦ w.result-is ∙ w.if-joined.true
          ∙ sym (ap (λ b. if b then true else c.zero-cleared.result) w.if-joined.true) ∙ told
      | else-joined w ↦ w.result-is ∙ sym (ap (λ b. if b then true else c.zero-cleared.result) w.if-joined.false) ∙ told
    ]

pub returns-clause-bits : goal.returns-clause-bits
returns-clause-bits g c =
    rw c.apply-joined.ensures.words
    (IsJoined-kept g.met.O.WordOp.laws c.args.words.now c.args.other.now (λ k. search rules) (λ k. search rules)
    (rw (c.apply-joined.ensures.words, c.KEEP.ensures) at c.else-not-KEEP.either))

pub returns-clause-changed : goal.returns-clause-changed
returns-clause-changed g c =
    c.apply-joined.ensures.changed
    ∙ changed-kept g.met.O.WordOp.laws c.args.words.now c.args.other.now (λ k. search rules) (λ k. search rules)
    c.requires.shorter (rw (c.apply-joined.ensures.words, c.KEEP.ensures) at c.else-not-KEEP.either)

pub returns-then-common-words-clause-cost : goal.returns-then-common-words-clause-cost
returns-then-common-words-clause-cost g c =
    rw (← c.KEEP.ensures, c.if-not-KEEP.true) (omega (arith, length-take {A = ℕ}, length-drop {A = ℕ}))
