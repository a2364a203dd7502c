use Rattle.std.proofs.Common.{◌≡◌, ◌+◌, ◌-◌, ◌*◌, ◌%◌, true, false, sym, ap, ◌∙◌, rules, arith}
use Rattle.bitwords.specs.Rows.{bit_test, count_below}
use Rattle.bitwords.proofs.CountedLeft.{count-kept, keeps_ones, drops_ones, ones-between-le}
use Rattle.bitwords.proofs.ranges.count_lanes.Goals as goal
use Rattle.bitwords.proofs.ranges.count_lanes.Goals.{then-word-eq1, else-word-eq1, then-KEEP, else-KEEP}

pub count_one-ones-requires : goal.count_one-ones-requires
count_one-ones-requires g c = record {
  fits = omega (
    arith,
    c.requires,
    ones-between-le c.args.words.now (λ k. search rules) (c.args.last - c.args.first) c.args.first (omega arith),
  );
}

pub loop-init : goal.loop-init
loop-init g c = record { cost = omega arith }

pub loop-preserved : goal.loop-preserved
loop-preserved g c = record { cost = omega (arith, c.loop.invariant.cost) }

pub overflow_sub-clear : goal.overflow_sub-clear
overflow_sub-clear g c =
    omega (
      arith,
      c.count_one-ones.ensures.ones,
      ones-between-le c.args.words.now (λ k. search rules) (c.args.last - c.args.first) c.args.first (omega arith),
    )

pub returns-clause-count : goal.returns-clause-count
returns-clause-count g c =
    let law = g.met.O.WordOp.laws in
    let ws = c.args.words.now in
    let upto : c.args.first + (c.args.last - c.args.first) ≡ c.args.last = omega arith in
    let end = ap (λ k. count_below (bit_test (g.O.WordOp.truth true) ws) (64 * k)) upto in
    let kept = count-kept law ws (λ k. search rules) c.args.first (c.args.last - c.args.first)
    c.count_one-ones.result (omega arith) c.count_one-ones.ensures.ones in
    elim c.if-word-eq1.branch [
      | then-word-eq1 w ↦
          let ones = keeps_ones law ws (λ k. search rules) c.word.result c.word.ensures w.if-word-eq1.true in
          elim c.if-KEEP.branch [
            | then-KEEP v ↦
                omega (arith, w.set-is, v.clear-is, end, kept true true ones (sym c.KEEP.ensures ∙ v.if-KEEP.true))
            | else-KEEP v ↦
                omega (arith, w.set-is, v.clear-is, end, kept true false ones (sym c.KEEP.ensures ∙ v.if-KEEP.false))
          ]
      | else-word-eq1 w ↦
          let even : c.word.result % 2 ≡ 0 = omega (arith, w.if-word-eq1.false) in
          let none = drops_ones law ws (λ k. search rules) c.word.result c.word.ensures even in
          elim c.if-KEEP.branch [
            | then-KEEP v ↦
                omega (arith, w.set-is, v.clear-is, end, kept false true none (sym c.KEEP.ensures ∙ v.if-KEEP.true))
            | else-KEEP v ↦
                omega (arith, w.set-is, v.clear-is, end, kept false false none (sym c.KEEP.ensures ∙ v.if-KEEP.false))
          ]
    ]

pub returns-clause-cost : goal.returns-clause-cost
returns-clause-cost g c = grind (arith, c.loop.invariant.cost)
