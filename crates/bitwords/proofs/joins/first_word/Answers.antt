use Rattle.std.proofs.Common.{arith}
use Rattle.bitlanes.specs.Bits.{bit_without}
use Rattle.bitwords.proofs.Lacking.{first_of_both, found_behind, unfound_behind, steps_behind}
use Rattle.bitwords.proofs.Written.{length-both}
use Rattle.bitwords.proofs.joins.first_word.Goals as goal

pub returns-in-Some-clause-found : goal.returns-in-Some-clause-found
returns-in-Some-clause-found c =
    first_of_both bit_without c.args.a.now c.args.b.now c.in-Some.at c.in-Some.ensures.found

pub returns-in-Some-clause-bound : goal.returns-in-Some-clause-bound
returns-in-Some-clause-bound c =
    omega (
      arith,
      c.in-Some.ensures.cost,
      c.in-Some.ensures.found.within,
      length-both bit_without c.args.a.now c.args.b.now,
    )

pub returns-in-Some-clause-cost : goal.returns-in-Some-clause-cost
returns-in-Some-clause-cost c =
    omega (
      arith,
      c.in-Some.ensures.cost,
      c.in-Some.ensures.found.within,
      length-both bit_without c.args.a.now c.args.b.now,
    )

pub returns-in-None-clause-cost : goal.returns-in-None-clause-cost
returns-in-None-clause-cost c =
    steps_behind c.args.a.now c.args.b.now c.next_one.result c.min-common.result _ _ _ c.min-common.ensures
    (c.in-None.ensures.exact_if_none) c.next_one.ensures.found c.next_one.ensures.cost

pub returns-in-None-clause-found : goal.returns-in-None-clause-found
returns-in-None-clause-found c =
    found_behind bit_without c.args.a.now c.args.b.now c.in-None.ensures.none c.min-common.result c.min-common.ensures
    c.next_one.result c.next_one.ensures.found

pub returns-in-None-clause-none : goal.returns-in-None-clause-none
returns-in-None-clause-none c =
    unfound_behind bit_without c.args.a.now c.args.b.now c.in-None.ensures.none c.min-common.result c.min-common.ensures
    c.next_one.result c.next_one.ensures.none
