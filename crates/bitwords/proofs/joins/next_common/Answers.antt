use Rattle.bitwords.proofs.Shared.{length_behind, shared_bit, own_shared, later_shared, none_shared, one_behind}
use Rattle.std.proofs.Common.{◌+◌, ◌∙◌, ◌/◌, sym, rules, arith}
use Rattle.bitwords.proofs.joins.next_common.Goals as goal

pub overflow_add-result : goal.overflow_add-result
overflow_add-result c =
    omega (
      arith,
      c.requires.within,
      shared_bit c.args.a.now c.args.b.now (λ k. search rules) (λ k. search rules) c.args.from c.word.result
          c.requires.within c.word.ensures c.lowest_bit.result c.lowest_bit.ensures,
    )

pub returns-then-rest-ne0-clause-found : goal.returns-then-rest-ne0-clause-found
returns-then-rest-ne0-clause-found c =
    own_shared c.args.a.now c.args.b.now (λ k. search rules) (λ k. search rules) c.args.from c.word.result
    c.requires.within c.word.ensures c.lowest_bit.result c.lowest_bit.ensures

pub returns-then-rest-ne0-clause-cost : goal.returns-then-rest-ne0-clause-cost
returns-then-rest-ne0-clause-cost c =
    omega (
      arith,
      shared_bit c.args.a.now c.args.b.now (λ k. search rules) (λ k. search rules) c.args.from c.word.result
          c.requires.within c.word.ensures c.lowest_bit.result c.lowest_bit.ensures,
    )

pub returns-in_err-place-clause-none : goal.returns-in_err-place-clause-none
returns-in_err-place-clause-none c =
    rw c.from_residual.ensures
    (none_shared c.args.a.now c.args.b.now (λ k. search rules) (λ k. search rules) c.args.from c.word.result
    c.requires.within c.word.ensures c.if-rest-ne0.false c.in_err-place.ensures.none)

pub returns-clause-found : goal.returns-clause-found
returns-clause-found c =
    later_shared c.args.a.now c.args.b.now (λ k. search rules) (λ k. search rules) c.args.from c.word.result
    c.requires.within c.word.ensures c.if-rest-ne0.false
    c.in_ok-place.place c.word-2.result c.lowest_bit-2.result c.in_ok-place.ensures.found c.word-2.ensures
    c.lowest_bit-2.ensures

pub lowest_bit-requires-2 : goal.lowest_bit-requires-2
lowest_bit-requires-2 c =
    λ zero. one_behind c.args.a.now c.args.b.now (λ k. search rules) (λ k. search rules) (c.args.from / 64 + 1)
    c.in_ok-place.place c.in_ok-place.ensures.found (sym c.word-2.ensures ∙ zero)

pub returns-in_err-place-clause-exact_if_none : goal.returns-in_err-place-clause-exact_if_none
returns-in_err-place-clause-exact_if_none c = search (rules, length_behind) steps 800000

pub returns-clause-cost : goal.returns-clause-cost
returns-clause-cost c = search (rules, length_behind) steps 800000
