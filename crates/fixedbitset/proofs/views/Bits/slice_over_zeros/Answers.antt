use Rattle.std.proofs.Common.{◌≡◌, ◌<◌, ◌≤◌, ◌+◌, ◌-◌, ◌/◌, ◌∙◌, length, arith}
use Rattle.std.proofs.lemmas.List.{length-take-le}
use Rattle.fixedbitset.proofs.Moves.{keeps_over_zeros, having_slice, slice_cost}
use Rattle.fixedbitset.proofs.views.Bits.slice_over_zeros.Goals as goal
use Rattle.fixedbitset.proofs.views.Bits.slice_over_zeros.Goals.{then-saturating_sub-to, else-saturating_sub-to}

pub returns-clause-value : goal.returns-clause-value
returns-clause-value c =
    (keeps_over_zeros (c.args.end - c.args.start) (omega (arith, c.ranges.end.fits)) _ _ _ _ _ c.requires.count
    c.div_ceil-used.ensures c.requires.zeros c.join_down.ensures.bits c.clear_from.ensures).value
    ∙ having_slice _ _ c.args.self.clean c.args.start c.args.end

pub returns-clause-clean : goal.returns-clause-clean
returns-clause-clean c =
    (keeps_over_zeros (c.args.end - c.args.start) (omega (arith, c.ranges.end.fits)) _ _ _ _ _ c.requires.count
    c.div_ceil-used.ensures c.requires.zeros c.join_down.ensures.bits c.clear_from.ensures).clean

pub returns-clause-cost : goal.returns-clause-cost
returns-clause-cost c =
    let to = c.args.to.now in
    let left = length c.args.self.words.now - c.args.start / 64 in
    let more : left < length to → c.if-saturating_sub-to.steps ≡ c.args.steps.now + 1 =
    λ lt. elim c.if-saturating_sub-to.branch [
      | then-saturating_sub-to w ↦ w.steps-is ∙ w.tick.ensures
      | else-saturating_sub-to w ↦ absurd (omega (arith, lt, w.if-saturating_sub-to.false, c.saturating_sub.ensures))
    ] in
    let none : length to ≤ left → c.if-saturating_sub-to.steps ≡ c.args.steps.now =
    λ ge. elim c.if-saturating_sub-to.branch [
      | then-saturating_sub-to w ↦ absurd (omega (arith, ge, w.if-saturating_sub-to.true, c.saturating_sub.ensures))
      | else-saturating_sub-to w ↦ w.steps-is
    ] in
    slice_cost c.args.self.length (c.args.end - c.args.start) c.args.start c.div_ceil-used.result _ (length to) _ _ _ _
    (omega (arith, c.requires)) c.div_ceil-used.ensures
    (length-take-le c.div_ceil-used.result to (omega (arith, c.div_ceil-used.ensures, c.requires.count)))
    c.requires.count c.args.self.clean.count more none c.join_down.ensures.cost
