use Rattle.std.proofs.Common.{◌∙◌, sym, arith, true≢false}
use Rattle.bitwords.proofs.TwoRows.{all_longest}
use Rattle.bitwords.proofs.Stopping.{stops_in_common, stops_in_kept, stops_in_taken}
use Rattle.bitwords.proofs.joins.none_unlike.Goals as goal
use Rattle.bitwords.proofs.joins.none_unlike.Goals.{then-none, else-none}

pub returns-then-none_rest-clause-zero : goal.returns-then-none_rest-clause-zero
returns-then-none_rest-clause-zero g c = grind (arith, all_longest)

pub returns-then-none_rest-clause-exact_if_true : goal.returns-then-none_rest-clause-exact_if_true
returns-then-none_rest-clause-exact_if_true g c =
    λ told. grind (arith, c.none_rest-then-none_rest.ensures.exact_if_true told)

pub returns-then-none_rest-clause-exact_if_stopped : goal.returns-then-none_rest-clause-exact_if_stopped
returns-then-none_rest-clause-exact_if_stopped g c at first =
    elim c.if-none.branch [
      | then-none w ↦
          let kept = sym w.value-is ∙ c.if-none_rest.true in
          stops_in_taken g.O.WordOp.joined g.O.WordOp.KEEP g.O.WordOp.TAKE c.args.a.now c.args.b.now at first
          (sym c.none.ensures.zero ∙ w.if-none.true)
          (rw w.KEEP.ensures at (sym w.none_rest.ensures.zero ∙ kept)) _ _ _ _
          (c.none.ensures.exact_if_true w.if-none.true)
          (rw w.KEEP.ensures at (w.steps-is ∙ w.none_rest.ensures.exact_if_true kept))
          (rw c.TAKE.ensures at c.none_rest-then-none_rest.ensures.exact_if_stopped)
      | else-none w ↦ absurd (true≢false (sym c.if-none_rest.true ∙ w.value-is ∙ w.if-none.false))
    ]

pub returns-else-none_rest-clause-exact_if_stopped : goal.returns-else-none_rest-clause-exact_if_stopped
returns-else-none_rest-clause-exact_if_stopped g c at first =
    elim c.if-none.branch [
      | then-none w ↦ w.steps-is
          ∙ stops_in_kept g.O.WordOp.joined g.O.WordOp.KEEP g.O.WordOp.TAKE c.args.a.now c.args.b.now at first
          (sym c.none.ensures.zero ∙ w.if-none.true)
          (rw w.KEEP.ensures at (sym w.none_rest.ensures.zero ∙ sym w.value-is ∙ c.if-none_rest.false)) _ _ _
          (c.none.ensures.exact_if_true w.if-none.true) (rw w.KEEP.ensures at w.none_rest.ensures.exact_if_stopped)
      | else-none w ↦ w.steps-is
          ∙ stops_in_common g.O.WordOp.joined g.O.WordOp.KEEP g.O.WordOp.TAKE c.args.a.now c.args.b.now at first
          (sym c.none.ensures.zero ∙ w.if-none.false) _ _ c.none.ensures.exact_if_stopped
    ]
