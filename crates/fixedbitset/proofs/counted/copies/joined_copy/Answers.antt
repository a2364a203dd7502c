use Rattle.std.proofs.Common.{length, ap, ◌∙◌}
use Rattle.fixedbitset.proofs.Words.{keeps_pair, viewed_count, viewed_length}
use Rattle.fixedbitset.proofs.counted.copies.joined_copy.Goals as goal

pub invariant_of-result : goal.invariant_of-result
invariant_of-result g c =
    let done = rw (c.as_slice.ensures.value, c.as_slice-2.ensures.value) at c.in_ok-words.ensures.bits in
    let shorter = rw (← viewed_length _ _ _ c.set.view_is, ← viewed_length _ _ _ c.other.view_is) at c.requires in
    (keeps_pair _ _ _ _ _ c.set.view_is c.set.invariant _ _ c.other.view_is c.other.invariant done g.met.O.WordOp.laws
    shorter).clean

pub returns-clause-value : goal.returns-clause-value
returns-clause-value g c =
    let done = rw (c.as_slice.ensures.value, c.as_slice-2.ensures.value) at c.in_ok-words.ensures.bits in
    let shorter = rw (← viewed_length _ _ _ c.set.view_is, ← viewed_length _ _ _ c.other.view_is) at c.requires in
    (keeps_pair _ _ _ _ _ c.set.view_is c.set.invariant _ _ c.other.view_is c.other.invariant done g.met.O.WordOp.laws
    shorter).value

pub returns-clause-cost : goal.returns-clause-cost
returns-clause-cost g c =
    let first = ap length c.as_slice.ensures.value ∙ viewed_count _ _ _ c.set.view_is c.set.invariant in
    let second = ap length c.as_slice-2.ensures.value ∙ viewed_count _ _ _ c.other.view_is c.other.invariant in
    rw (← first, ← second) c.joined.ensures.cost

pub returns-clause-exact_if_ok : goal.returns-clause-exact_if_ok
returns-clause-exact_if_ok g c =
    cc (
      c.in_ok-words.ensures.exact_if_ok,
      viewed_count _ _ _ c.set.view_is c.set.invariant,
      viewed_count _ _ _ c.other.view_is c.other.invariant,
    )

pub returns-in_err-words-clause-cost : goal.returns-in_err-words-clause-cost
returns-in_err-words-clause-cost g c =
    let first = ap length c.as_slice.ensures.value ∙ viewed_count _ _ _ c.set.view_is c.set.invariant in
    let second = ap length c.as_slice-2.ensures.value ∙ viewed_count _ _ _ c.other.view_is c.other.invariant in
    rw (← first, ← second) c.joined.ensures.cost
