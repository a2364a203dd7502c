use Rattle.std.proofs.Common.{◌≡◌, ◌+◌, ◌*◌, ◌/◌, ◌∙◌, ℕ, sym, subst, rules, arith}
use Rattle.bitlanes.specs.Word.{IsLowestBit}
use Rattle.bitwords.proofs.Lacking.{first_lacked, none_lacked}
use Rattle.bitwords.proofs.joins.first_of_difference.Goals as goal

pub returns-in_err-at-clause-first : goal.returns-in_err-at-clause-first
returns-in_err-at-clause-first c =
    c.from_residual.ensures
    ∙ sym (none_lacked c.args.a.now c.args.b.now (λ k. search rules) (λ k. search rules) c.in_err-at.ensures.none)

pub returns-clause-first : goal.returns-clause-first
returns-clause-first c =
    sym (first_lacked c.args.a.now c.args.b.now (λ k. search rules) (λ k. search rules) c.in_ok-at.at
    c.lowest_bit.result c.in_ok-at.ensures.found
    (subst (λ (word : ℕ). IsLowestBit word c.lowest_bit.result) c.word_without.ensures c.lowest_bit.ensures))

pub returns-clause-cost : goal.returns-clause-cost
returns-clause-cost c =
    let word : (64 * c.in_ok-at.at + c.lowest_bit.result) / 64 ≡ c.in_ok-at.at =
    omega (arith, c.lowest_bit.ensures.within) in
    rw word c.in_ok-at.ensures.cost
