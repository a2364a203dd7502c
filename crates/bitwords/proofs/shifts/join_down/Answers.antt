use Rattle.std.proofs.Common.{◌≡◌, ◌≤◌, ◌-◌, ◌∙◌, ℕ, List, ap, rules, length, replicate}
use Rattle.std.proofs.Common.{true, arith, inl, inr, ⊎_elim, length-take, length-drop}
use Rattle.bitwords.proofs.Cleared.{length-cut_row, get_or-cut_row_below, get_or-cut_row_from}
use Rattle.bitwords.proofs.Shifted.{IsJoined_down}
use Rattle.bitwords.proofs.shifts.join_down.Goals as goal

pub returns-then-common-words-clause-bits : goal.returns-then-common-words-clause-bits
returns-then-common-words-clause-bits g c =
    let row : List ℕ = c.join_down.new.dst in
    let kept : ℕ = c.saturating_sub-common.result in
    let inside : kept ≤ length row = omega arith in
    let are : c.zero.new.dst ≡ replicate (length row - kept) 0 = c.zero.ensures.words
    ∙ ap (λ n. replicate n 0) (simp (length-take, length-drop) (omega arith)) in
    IsJoined_down g.met.O.WordOp.laws c.args.other.now c.args.words.now (λ k. search rules) (λ k. search rules) _
    (length-cut_row row c.zero.new.dst kept inside are ∙ omega arith) c.args.from
    (λ k within some. get_or-cut_row_below row c.zero.new.dst kept inside are k (omega arith)
    ∙ c.join_down.ensures.words k within some)
    (λ k within past. inr ((cc), get_or-cut_row_from row c.zero.new.dst kept inside are k (omega arith) (omega arith)))

pub returns-else-not-KEEP-clause-bits : goal.returns-else-not-KEEP-clause-bits
returns-else-not-KEEP-clause-bits g c =
    IsJoined_down g.met.O.WordOp.laws c.args.other.now c.args.words.now (λ k. search rules) (λ k. search rules) _
    (omega arith) c.args.from c.join_down.ensures.words
    (λ k within past. ⊎_elim
    (λ all. let few : length c.join_down.new.dst ≤ c.saturating_sub-common.result = all.1 in absurd (omega arith))
    (λ (kept : c.KEEP.result ≡ true). inl ((cc), c.join_down.ensures.rest k past))
    c.else-not-KEEP.either)

pub returns-then-common-words-clause-cost : goal.returns-then-common-words-clause-cost
returns-then-common-words-clause-cost g c =
    rw (← c.KEEP.ensures, c.if-not-KEEP.true) (omega (arith, length-take {A = ℕ}, length-drop {A = ℕ}))
