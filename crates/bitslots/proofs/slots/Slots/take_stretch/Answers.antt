use Rattle.std.proofs.Common.{◌≡◌, ◌∙◌, ℕ, ◌+◌, Some, None, sym, ap, arith}
use Rattle.fixedbitset.specs.Ranges.{insert_range}
use Rattle.fixedbitset.specs.Runs.{first_gap}
use Rattle.bitslots.proofs.Taken.{least_stretch, no_stretch, stretch_taken, below_stretch, valid}
use Rattle.bitslots.proofs.slots.Slots.take_stretch.Goals as goal

pub returns-in_err-start-clause-stretch : goal.returns-in_err-start-clause-stretch
returns-in_err-start-clause-stretch c =
    rw c.from_residual.ensures (no_stretch c.args.self.now c.args.count c.args.from
    (sym c.in_err-start.was ∙ c.first_gap.ensures ∙ ap (λ v. first_gap v c.args.count c.args.from) c.self.view_is))

pub overflow_add-start : goal.overflow_add-start
overflow_add-start c =
    let found =
    least_stretch c.args.self.now c.args.count c.args.from c.in_ok-start.start
    (sym c.in_ok-start.was ∙ c.first_gap.ensures ∙ ap (λ v. first_gap v c.args.count c.args.from) c.self.view_is) in
    let long = ap (λ v. v.length) c.self.view_is in
    omega (arith, found.1.0)

pub insert_range-requires : goal.insert_range-requires
insert_range-requires c =
    let found =
    least_stretch c.args.self.now c.args.count c.args.from c.in_ok-start.start
    (sym c.in_ok-start.was ∙ c.first_gap.ensures ∙ ap (λ v. first_gap v c.args.count c.args.from) c.self.view_is) in
    let long = ap (λ v. v.length) c.self.view_is in
    valid c.self.inside.taken c.in_ok-start.start c.args.count (omega (arith, found.1.0))

pub invariant_of-self : goal.invariant_of-self
invariant_of-self c =
    let found =
    least_stretch c.args.self.now c.args.count c.args.from c.in_ok-start.start
    (sym c.in_ok-start.was ∙ c.first_gap.ensures ∙ ap (λ v. first_gap v c.args.count c.args.from) c.self.view_is) in
    let long = ap (λ v. v.length) c.self.view_is in
    rw c.insert_range.ensures (below_stretch c.self.inside.taken c.self.inside.low c.self.invariant c.in_ok-start.start
    (c.in_ok-start.start + c.args.count) (omega (arith, found.1.0)))

pub returns-clause-stretch : goal.returns-clause-stretch
returns-clause-stretch c =
    least_stretch c.args.self.now c.args.count c.args.from c.in_ok-start.start
    (sym c.in_ok-start.was ∙ c.first_gap.ensures ∙ ap (λ v. first_gap v c.args.count c.args.from) c.self.view_is)

pub returns-clause-taken : goal.returns-clause-taken
returns-clause-taken c =
    let found =
    least_stretch c.args.self.now c.args.count c.args.from c.in_ok-start.start
    (sym c.in_ok-start.was ∙ c.first_gap.ensures ∙ ap (λ v. first_gap v c.args.count c.args.from) c.self.view_is) in
    let start : ℕ = c.in_ok-start.start in
    stretch_taken c.args.self.now _ c.args.count start found.1
    (c.insert_range.ensures ∙ ap (λ v. insert_range v start (start + c.args.count)) c.self.view_is)
