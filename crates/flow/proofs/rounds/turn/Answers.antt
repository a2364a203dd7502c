use Rattle.std.proofs.Common.{ℕ, ◌<◌, length, arith, refl, rules}
use Rattle.fixedbitset.specs.BitsFacts.{length-empty}
use Rattle.flow.proofs.Turning.{turned_kept, turned_passed, turned_next, turned_end}
use Rattle.flow.proofs.rounds.turn.Goals as goal
use Rattle.flow.proofs.rounds.turn.Goals.{then-pass, else-pass}

pub loop-from-init : goal.loop-from-init
loop-from-init c = search (rules, arith, length-empty)

pub loop-from-preserved : goal.loop-from-preserved
loop-from-preserved c =
    let i : ℕ = c.loop-from.from-index in
    let before = c.loop-from.invariant in
    let within : i < length c.args.edges.now = omega arith in
    elim c.if-pass.branch [
      | then-pass w ↦
          rw (
            w.if-pass.ensures.ins,
            w.if-pass.ensures.outs,
            w.room-is,
            w.insert.ensures,
            w.insert-then-pass.ensures,
            w.changed-is,
          )
          (turned_passed _ _ _ _ _ i _ _ _ _ c.loop-from.changed (0, 0) within before c.requires.below
          (w.if-pass.ensures.more refl))
      | else-pass w ↦
          rw (w.if-pass.ensures.ins, w.if-pass.ensures.outs, w.room-is, w.changed-is)
          (turned_kept _ _ _ _ _ i _ _ _ _ c.loop-from.changed (0, 0) within before (w.if-pass.ensures.none refl))
    ]

pub returns-clause-next : goal.returns-clause-next
returns-clause-next c =
    turned_next _ _ _ _ _ c.loop-from.from-index _ _ _ _ c.loop-from.changed (omega arith) c.loop-from.invariant

pub returns-clause-settled : goal.returns-clause-settled
returns-clause-settled c =
    turned_end _ _ _ _ _ c.loop-from.from-index _ _ _ _ c.loop-from.changed (omega arith) c.loop-from.invariant
