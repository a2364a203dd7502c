use Rattle.std.proofs.Common.{◌≡◌, ◌∙◌, ℕ, ◌+◌, Some, None, sym, ap, subst, arith}
use Rattle.std.proofs.lemmas.Bool.{false_from_ne_true}
use Rattle.fixedbitset.specs.Bits.{insert}
use Rattle.fixedbitset.specs.SizeFacts.{count_zeroes-insert}
use Rattle.bitslots.specs.Slots.{AreAllTaken, IsLeastFree, free_count}
use Rattle.bitslots.proofs.Taken.{least_free, all_taken, none_free, below_taken}
use Rattle.bitslots.proofs.slots.Slots.take.Goals as goal

pub returns-in_err-slot-clause-slot : goal.returns-in_err-slot-clause-slot
returns-in_err-slot-clause-slot c =
    let all = all_taken c.self.inside.taken c.self.inside.low c.self.invariant
    (sym c.next_zero.ensures ∙ c.in_err-slot.was) in
    rw c.from_residual.ensures (subst AreAllTaken c.self.view_is all)

pub returns-in_err-slot-clause-left : goal.returns-in_err-slot-clause-left
returns-in_err-slot-clause-left c =
    let all = all_taken c.self.inside.taken c.self.inside.low c.self.invariant
    (sym c.next_zero.ensures ∙ c.in_err-slot.was) in
    rw c.from_residual.ensures (none_free c.args.self.now (subst AreAllTaken c.self.view_is all))

pub insert-requires : goal.insert-requires
insert-requires c =
    (least_free c.self.inside.taken c.self.inside.low c.self.invariant c.in_ok-slot.slot
    (sym c.next_zero.ensures ∙ c.in_ok-slot.was)).0.0

pub overflow_add-self : goal.overflow_add-self
overflow_add-self c =
    let least =
    least_free c.self.inside.taken c.self.inside.low c.self.invariant c.in_ok-slot.slot
    (sym c.next_zero.ensures ∙ c.in_ok-slot.was) in
    omega (arith, least.0.0)

pub invariant_of-self : goal.invariant_of-self
invariant_of-self c =
    rw c.insert.ensures (below_taken c.self.inside.taken c.self.inside.low c.self.invariant c.in_ok-slot.slot
    (sym c.next_zero.ensures ∙ c.in_ok-slot.was))

pub returns-clause-slot : goal.returns-clause-slot
returns-clause-slot c =
    subst (λ v. IsLeastFree v c.in_ok-slot.slot) c.self.view_is
    (least_free c.self.inside.taken c.self.inside.low c.self.invariant c.in_ok-slot.slot
    (sym c.next_zero.ensures ∙ c.in_ok-slot.was))

pub returns-clause-left : goal.returns-clause-left
returns-clause-left c =
    let slot : ℕ = c.in_ok-slot.slot in
    let free : IsLeastFree c.args.self.now slot =
    subst (λ v. IsLeastFree v slot) c.self.view_is
    (least_free c.self.inside.taken c.self.inside.low c.self.invariant slot
    (sym c.next_zero.ensures ∙ c.in_ok-slot.was)) in
    ap (λ v. free_count v + 1) (c.insert.ensures ∙ ap (λ v. insert v slot) c.self.view_is)
    ∙ count_zeroes-insert c.args.self.now slot free.0.0 (false_from_ne_true _ free.0.1)
