use Rattle.std.proofs.Common.{rules, arith, ◌-◌, ◌^◌}
use Rattle.std.proofs.lemmas.List.{length-map}
use Rattle.bitwords.proofs.Neighbouring.{own_bit, own_next, later_next, none_later}
use Rattle.bitwords.proofs.positions.next_in_row.Goals as goal

pub returns-then-rest-ne0-clause-found : goal.returns-then-rest-ne0-clause-found
returns-then-rest-ne0-clause-found g c =
    own_next g.met.O.WordOp.laws c.requires.drops c.args.words.now (λ k. search rules) c.args.from c.word.result
    c.word.ensures c.lowest_bit.result c.lowest_bit.ensures c.requires.within

pub returns-in_err-at-clause-none : goal.returns-in_err-at-clause-none
returns-in_err-at-clause-none g c =
    rw c.from_residual.ensures
    (none_later g.met.O.WordOp.laws c.requires.drops c.args.words.now (λ k. search rules) c.args.from c.word.result
    c.word.ensures
    c.if-rest-ne0.false c.in_err-at.ensures.none)

pub returns-clause-found : goal.returns-clause-found
returns-clause-found g c =
    later_next g.met.O.WordOp.laws c.requires.drops c.args.words.now (λ k. search rules) c.args.from c.word.result
    c.word.ensures
    c.if-rest-ne0.false c.in_ok-at.at c.word-2.result c.word-2.ensures c.lowest_bit-2.result c.in_ok-at.ensures.found
    c.lowest_bit-2.ensures

pub returns-in_err-at-clause-bound : goal.returns-in_err-at-clause-bound
returns-in_err-at-clause-bound g c = omega (arith, c.in_err-at.ensures.exact_if_none)

pub returns-clause-cost : goal.returns-clause-cost
returns-clause-cost g c =
    omega (arith, c.in_ok-at.ensures.cost, c.in_ok-at.ensures.found.after, c.lowest_bit-2.ensures.within)

pub returns-clause-bound : goal.returns-clause-bound
returns-clause-bound g c =
    omega (
      arith,
      c.in_ok-at.ensures.cost,
      c.in_ok-at.ensures.found.within,
      length-map c.args.words.now (g.O.WordOp.joined (2 ^ 64 - 1)),
    )

pub overflow_mul-result : goal.overflow_mul-result
overflow_mul-result g c =
    omega (arith, c.in_ok-at.ensures.found.within, length-map c.args.words.now (g.O.WordOp.joined (2 ^ 64 - 1)))

pub overflow_add-result : goal.overflow_add-result
overflow_add-result g c =
    omega (
      arith,
      own_bit g.met.O.WordOp.laws c.requires.drops c.args.words.now (λ k. search rules) c.args.from c.word.result
          c.word.ensures c.lowest_bit.result c.lowest_bit.ensures,
    )

pub overflow_add-result-2 : goal.overflow_add-result-2
overflow_add-result-2 g c =
    let long = length-map c.args.words.now (g.O.WordOp.joined (2 ^ 64 - 1)) in
    omega (arith, c.in_ok-at.ensures.found.within, long, c.lowest_bit-2.ensures.within)

pub bounds-words-at-2 : goal.bounds-words-at-2
bounds-words-at-2 g c =
    omega (arith, c.in_ok-at.ensures.found.within, length-map c.args.words.now (g.O.WordOp.joined (2 ^ 64 - 1)))

pub returns-then-rest-ne0-clause-cost : goal.returns-then-rest-ne0-clause-cost
returns-then-rest-ne0-clause-cost g c =
    omega (
      arith,
      own_bit g.met.O.WordOp.laws c.requires.drops c.args.words.now (λ k. search rules) c.args.from c.word.result
          c.word.ensures c.lowest_bit.result c.lowest_bit.ensures,
    )

pub returns-then-rest-ne0-clause-bound : goal.returns-then-rest-ne0-clause-bound
returns-then-rest-ne0-clause-bound g c = omega arith

pub returns-in_err-at-clause-missed : goal.returns-in_err-at-clause-missed
returns-in_err-at-clause-missed g c = search rules steps 300000
