use Rattle.std.proofs.Common.{◌≡◌, ◌≢◌, ◌≤◌, ◌+◌, ◌-◌, ◌/◌, ◌%◌, ◌∙◌, ℕ, List, set, rules, length, arith, refl, inl}
use Rattle.std.proofs.Common.{inr, ⊎_elim, length-take, length-drop, get_or-set_same, get_or-set_other, length-set}
use Rattle.std.proofs.lemmas.Bool.{cases_eq, and_left, and_right, lt-leb}
use Rattle.bitwords.specs.RowFacts.{has_bit-past}
use Rattle.bitwords.proofs.Joined.{IsJoined-none}
use Rattle.bitwords.proofs.Shifted.{IsJoined_up, takes_first, leaves_up}
use Rattle.bitwords.proofs.shifts.join_up.Goals as goal
use Rattle.bitwords.proofs.shifts.join_up.Goals.{then-at-words-via-then-at-words}
use Rattle.bitwords.proofs.shifts.join_up.Goals.{then-at-words-via-else-at-words+then-is_empty}

pub returns-then-at-words-clause-bits : goal.returns-then-at-words-clause-bits
returns-then-at-words-clause-bits g c =
    IsJoined-none g.met.O.WordOp.laws c.requires.keeps _ _ (λ p within. elim c.then-at-words.branch [
      | then-at-words-via-then-at-words w ↦ and_left _ _ (lt-leb _ p (let past = w.if-at-words.true in omega arith))
      | then-at-words-via-else-at-words+then-is_empty w ↦ and_right _ _
          (has_bit-past c.args.other.now _ (let empty : length c.args.other.now ≡ 0 = search rules in omega arith))
    ])

pub returns-then-shift-eq0-clause-bits : goal.returns-then-shift-eq0-clause-bits
returns-then-shift-eq0-clause-bits g c =
    let old : List ℕ = c.args.words.now in
    let by : ℕ = c.args.by in
    let inside : by / 64 ≤ length old = omega arith in
    let long : length c.join_down.new.dst ≡ length old - by / 64 =
    omega (arith, length-take {A = ℕ}, length-drop {A = ℕ}) in
    IsJoined_up g.met.O.WordOp.laws c.requires.keeps c.args.other.now old (λ k. search rules) (λ k. search rules) old
    c.join_down.new.dst by (by / 64) 0 (omega arith) (omega arith) refl inside long
    c.join_down.ensures.words c.join_down.ensures.rest (λ k _. refl)
    (λ k lt kept. inr (leaves_up c.args.other.now _ _ _ by k (omega arith) (inl (c.requires.keeps, kept))))

pub returns-clause-bits : goal.returns-clause-bits
returns-clause-bits g c =
    let old : List ℕ = c.args.words.now in
    let by : ℕ = c.args.by in
    let at : ℕ = by / 64 in
    let row : List ℕ = set old at c.word.result in
    let same : length row ≡ length old = length-set old at c.word.result in
    let inside : at + 1 ≤ length row = omega arith in
    let long : length c.join_down-2.new.dst ≡ length row - (at + 1) =
    omega (arith, length-take {A = ℕ}, length-drop {A = ℕ}) in
    IsJoined_up g.met.O.WordOp.laws c.requires.keeps c.args.other.now old (λ k. search rules) (λ k. search rules) row
    c.join_down-2.new.dst by (at + 1) (64 - by % 64) (omega arith) (omega arith) same inside long
    c.join_down-2.ensures.words c.join_down-2.ensures.rest
    (λ k after. get_or-set_other old at k c.word.result 0 (omega arith))
    (λ k lt kept. ⊎_elim
    (λ (here : k ≡ at).
    rw here (inl (takes_first c.args.other.now (λ k. search rules) _ _ _ by
    (rw here at kept ∙ get_or-set_same old at c.word.result 0 (omega arith) ∙ c.word.ensures))))
    (λ (other : k ≢ at).
    inr (leaves_up c.args.other.now _ _ _ by k (omega arith)
    (inl (c.requires.keeps, kept ∙ get_or-set_other old at k c.word.result 0 other))))
    (cases_eq k at))

pub returns-clause-cost : goal.returns-clause-cost
returns-clause-cost g c = search rules steps 2000000
