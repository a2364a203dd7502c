use Rattle.std.proofs.Common.{◌+◌, ◌-◌, ◌/◌, ◌<◌, ◌≤◌, inl, inr, None, refl, sym, ap, ◌∙◌, arith}
use Rattle.std.proofs.lemmas.Bool.{cases_eq}
use Rattle.bitlanes.specs.Words.{lane_steps}
use Rattle.bitwords.specs.CallFacts.{progress_last}
use Rattle.bitwords.specs.Neighbours.{NonePasses}
use Rattle.bitwords.specs.Runs.{is_like, Passes}
use Rattle.bitwalks.proofs.Running.{unlike, nothing, nothing_there, IsLast, is_last, last_after, last_stretch}
use Rattle.bitwalks.proofs.Running.{between_start, steps_back, steps_behind, steps_none, low_is_zero, low_is_behind}
use Rattle.bitwalks.proofs.runs.RunsDoubleEndedIterator.next_back.Goals as goal
use Rattle.bitwalks.proofs.runs.RunsDoubleEndedIterator.next_back.Goals.{in-Some-gap, in-None}
use Rattle.bitwalks.proofs.runs.RunsDoubleEndedIterator.next_back.Goals.{in_default-via-in-Some+else-last-self}
use Rattle.bitwalks.proofs.runs.RunsDoubleEndedIterator.next_back.Goals.{in_default-via-in_default}

-- the last stretch, and what the call that looked for its start took
last : (c : goal.After-way_told-in-Some-2)
    → IsLast (is_like c.self.inside.are_set c.self.inside.words.now) c.self.inside.low c.match-gap.self c.in-Some.last
    × (c.previous_like-gap.new.steps ≤ c.previous_like-found.new.steps + 1
    + lane_steps ((c.in-Some.last - 1) / 64 - (c.match-gap.self - 1) / 64))
    × (0 < c.in-Some.last
    → c.previous_like-found.new.steps + 1 + lane_steps ((c.in-Some.last - 1) / 64 - (c.match-gap.self - 1) / 64)
    ≤ c.previous_like-gap.new.steps)
    × (c.previous_like-found.new.steps ≤ c.previous_like-gap.new.steps)
last c =
    let found = c.in-Some.ensures.found in
    elim c.match-gap.branch [
      | in-Some-gap w ↦
          let gap = w.in-Some-gap.ensures in
          rw w.self-is (
            last_after (unlike _ _) c.self.invariant.0 c.if-self.false found c.if-last-self.true gap.found,
            omega (arith, gap.cost),
            (λ some. omega (arith, gap.cost)),
            omega (arith, gap.cost),
          )
      | in-None w ↦
          let whole = is_last (unlike _ _) c.self.invariant.0 c.if-self.false found c.if-last-self.true 0 (omega arith)
          (inl refl) w.in-None.ensures.none in
          let missed = w.in-None.ensures.missed in
          let none = c.previous_like-gap.ensures.empty in
          rw w.self-is (
            whole,
            elim (cases_eq c.in-Some.last 0) [
              | inl zero ↦ omega (arith, none zero)
              | inr more ↦ omega (arith, missed (omega (arith, more)))
            ],
            (λ some. omega (arith, missed some)),
            elim (cases_eq c.in-Some.last 0) [
              | inl zero ↦ omega (arith, none zero)
              | inr more ↦ omega (arith, missed (omega (arith, more)))
            ],
          )
    ]

pub invariant_of-self : goal.invariant_of-self
invariant_of-self c =
    let left = between_start (unlike _ _) c.self.invariant.0 c.if-self.false c.in-Some.ensures.found c.if-last-self.true
    (last c).0 in
    (left, c.self.invariant.1, c.self.invariant.2)

pub returns-after-gap-clause-steps : goal.returns-after-gap-clause-steps
returns-after-gap-clause-steps c =
    let view = c.self.view_is in
    let found = c.in-Some.ensures.found in
    let items = last_stretch (unlike _ _) c.self.invariant.0 c.if-self.false found c.if-last-self.true (last c).0 in
    let steps = steps_back _ _ _ _ _ _ _ found.below (last c).0.some c.in-Some.ensures.cost (last c).1 (last c).2
    (last c).3 in
    (sym (ap (λ walk. walk.items) view) ∙ items, ap (λ walk. walk.low) view, rw (sym view) steps)

pub returns-after-gap-clause-goes : goal.returns-after-gap-clause-goes
returns-after-gap-clause-goes c =
    progress_last (λ walk. walk.items) c.args.self.now _ _ (returns-after-gap-clause-steps c).0

-- where none is left, none passes, and what the call took
no_last : (c : goal.After-self-in_default-1)
    → NonePasses (is_like c.self.inside.are_set c.self.inside.words.now) c.self.inside.low c.self.inside.high
    × Passes (c.self.inside.high / 64 - c.self.inside.low / 64) None c.self.inside.steps c.previous_like-found.new.steps
no_last c =
    elim c.in_default.branch [
      | in_default-via-in-Some+else-last-self w ↦
          let found = w.in-Some.ensures.found in
          let before : w.in-Some.last < c.self.inside.low = omega (arith, w.if-last-self.false) in
          let behind = low_is_behind (unlike _ _) c.self.invariant.0 c.if-self.false found before in (
            λ i above below. found.none i (omega (arith, above, w.if-last-self.false)) below,
            steps_behind _ _ _ _ _ before behind c.self.invariant.0.order w.in-Some.ensures.cost,
          )
      | in_default-via-in_default w ↦
          let zero = low_is_zero (unlike _ _) c.self.invariant.0 c.if-self.false w.in_default.ensures.none in (
            λ i above below. w.in_default.ensures.none i (omega arith) below,
            steps_none _ _ _ _ c.self.invariant.0.order c.if-self.false
                (λ some. omega (arith, zero, w.in_default.ensures.missed (omega (arith, some)))),
          )
    ]

pub returns-in_default-clause-steps : goal.returns-in_default-clause-steps
returns-in_default-clause-steps c =
    let view = c.self.view_is in
    let inside = c.self.inside in
    let none = sym (ap (λ walk. walk.items) view)
    ∙ nothing (unlike _ _) c.self.invariant.0 c.if-self.false (no_last c).0 in (
      (none, nothing_there (is_like inside.are_set inside.words.now) inside.end inside.low),
      ap (λ walk. walk.low) view,
      rw (sym view) (no_last c).1,
    )
