use Rattle.std.proofs.Common.{rules, arith, ap, length}
use Rattle.bitwords.proofs.CountedLeft.{count-held}
use Rattle.bitwords.proofs.cursors.Cursor.count_left.Goals as goal

pub returns-clause-value : goal.returns-clause-value
returns-clause-value g c =
    let held = c.into_held-held.result in
    omega (
      arith,
      c.count_positions.ensures.count,
      c.count_one.ensures.ones,
      count-held held.front_at held.front (g.M.Middle.words held.middle) held.back (search rules) (search rules),
      ap length c.into_held-held.ensures.items,
    )

pub overflow_add-result : goal.overflow_add-result
overflow_add-result g c =
    let held = c.into_held-held.result in
    omega (
      arith,
      c.requires,
      c.count_positions.ensures.count,
      c.count_one.ensures.ones,
      count-held held.front_at held.front (g.M.Middle.words held.middle) held.back (search rules) (search rules),
      ap length c.into_held-held.ensures.items,
    )

pub returns-clause-cost : goal.returns-clause-cost
returns-clause-cost g c =
    omega (
      arith,
      c.count_positions.ensures.cost,
      c.count_one.ensures.cost,
      ap length c.into_held-held.ensures.words,
    )

pub returns-clause-exact : goal.returns-clause-exact
returns-clause-exact g c = (
  c.into_held-held.result.middle,
  c.into_held-held.ensures.words,
  omega (arith, c.count_positions.ensures.exact, c.count_one.ensures.cost),
)
