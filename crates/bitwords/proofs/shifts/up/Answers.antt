use Rattle.std.proofs.Common.{◌≡◌, ◌<◌, ◌≤◌, ◌/◌, ◌∙◌, ℕ, List, ◌++◌, get_or, ap}
use Rattle.std.proofs.Common.{rules, length, drop, replicate, arith, inl, inr}
use Rattle.std.proofs.lemmas.List.{length-take, length-drop, length-append, get_or_append_left}
use Rattle.std.proofs.lemmas.List.{get_or-append_right, get_or-drop, length-replicate, get_or-replicate}
use Rattle.bitwords.proofs.Shifted.{IsJoined_moved_up}
use Rattle.bitwords.proofs.shifts.up.Goals as goal

pub returns-then-not-KEEP-clause-bits : goal.returns-then-not-KEEP-clause-bits
returns-then-not-KEEP-clause-bits g c =
    let row : List ℕ = c.up.new.words in
    let below : ℕ = c.min-below.result in
    let zeros : List ℕ = c.zero.new.dst in
    let are : zeros ≡ replicate below 0 = c.zero.ensures.words
    ∙ ap (λ n. replicate n 0) (simp length-take (omega arith)) in
    let long : length zeros ≡ below = ap length are ∙ length-replicate below 0 in
    let from : (k : ℕ) → below ≤ k → get_or (zeros ++ drop below row) k 0 ≡ get_or row k 0 = λ k h.
    grind (arith, get_or-append_right, get_or-drop) in
    let cleared : (k : ℕ) → k < below
    → get_or (zeros ++ drop below row) k 0 ≡ 0 = λ k h. grind (arith, get_or_append_left, get_or-replicate) in
    IsJoined_moved_up g.met.O.WordOp.laws c.args.words.now (λ k. search rules) _
    (omega (arith, length-append zeros (drop below row), length-drop below row)) c.args.by
    (λ k within le. from k (omega arith) ∙ c.up.ensures.words k within le)
    (λ within some. from (c.args.by / 64) (omega arith) ∙ c.up.ensures.first within some)
    (λ k within le. inr ((cc), cleared k (omega arith)))

pub returns-else-not-KEEP-clause-bits : goal.returns-else-not-KEEP-clause-bits
returns-else-not-KEEP-clause-bits g c =
    IsJoined_moved_up g.met.O.WordOp.laws c.args.words.now (λ k. search rules) _ (omega arith) c.args.by
    c.up.ensures.words c.up.ensures.first (λ k _ below. inl ((cc), c.up.ensures.rest k below))

pub returns-then-not-KEEP-clause-cost : goal.returns-then-not-KEEP-clause-cost
returns-then-not-KEEP-clause-cost g c =
    rw (← c.KEEP.ensures, c.if-not-KEEP.true) (omega (arith, length-take {A = ℕ}, length-drop {A = ℕ}))
