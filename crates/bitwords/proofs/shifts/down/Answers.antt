use Rattle.std.proofs.Common.{◌≡◌, ◌≤◌, ◌-◌, ◌∙◌, List, ℕ, ap, rules, length}
use Rattle.std.proofs.Common.{replicate, arith, refl, inr, length-take, length-drop}
use Rattle.bitlanes.specs.BitLaws.{laws_of_second}
use Rattle.bitwords.proofs.Cleared.{length-cut_row, get_or-cut_row_below, get_or-cut_row_from}
use Rattle.bitwords.proofs.Shifted.{IsJoined_down}
use Rattle.bitwords.proofs.shifts.down.Goals as goal

pub returns-clause-bits : goal.returns-clause-bits
returns-clause-bits c =
    let old : List ℕ = c.args.words.now in
    let row : List ℕ = c.down.new.words in
    let kept : ℕ = c.saturating_sub-kept.result in
    let inside : kept ≤ length row = omega arith in
    let are : c.zero.new.dst ≡ replicate (length row - kept) 0 = c.zero.ensures.words
    ∙ ap (λ n. replicate n 0) (simp (length-take, length-drop) (omega arith)) in
    IsJoined_down laws_of_second old old (λ k. search rules) (λ k. search rules) _
    (length-cut_row row c.zero.new.dst kept inside are ∙ omega arith) c.args.by
    (λ k within some. get_or-cut_row_below row c.zero.new.dst kept inside are k (omega arith)
    ∙ c.down.ensures.words k some)
    (λ k within past. inr (refl, get_or-cut_row_from row c.zero.new.dst kept inside are k (omega arith) (omega arith)))

pub returns-clause-cost : goal.returns-clause-cost
returns-clause-cost c = omega (arith, length-take {A = ℕ}, length-drop {A = ℕ})
