use Rattle.std.proofs.Common.{sym, ◌∙◌, true≢false, arith, rules}
use Rattle.bitwords.proofs.positions.next.Goals as goal

pub returns-in_err-position-clause-none : goal.returns-in_err-position-clause-none
returns-in_err-position-clause-none g c =
    rw c.from_residual.ensures (λ i after below. c.in_err-position.ensures.none i after (omega arith))

pub returns-then-position-end-clause-found : goal.returns-then-position-end-clause-found
returns-then-position-end-clause-found g c =
    let found = c.in_ok-position.ensures.found in
    record { after = found.after; below = c.if-position-end.true; passes = found.passes; none = found.none }

pub returns-then-position-end-clause-cost : goal.returns-then-position-end-clause-cost
returns-then-position-end-clause-cost g c = c.in_ok-position.ensures.cost

pub returns-else-position-end-clause-none : goal.returns-else-position-end-clause-none
returns-else-position-end-clause-none g c = λ i after below. c.in_ok-position.ensures.found.none i after (omega arith)

pub returns-in_err-position-clause-missed : goal.returns-in_err-position-clause-missed
returns-in_err-position-clause-missed g c =
    rw c.from_residual.ensures (λ some. omega (arith, c.in_err-position.ensures.missed))

pub returns-in_err-position-clause-row : goal.returns-in_err-position-clause-row
returns-in_err-position-clause-row g c = λ some none. c.in_err-position.ensures.missed

pub returns-then-position-end-clause-row : goal.returns-then-position-end-clause-row
returns-then-position-end-clause-row g c =
    let found = c.in_ok-position.ensures.found in
    λ some none. absurd (true≢false (sym found.passes ∙ none _ found.after found.below))

pub returns-else-position-end-clause-row : goal.returns-else-position-end-clause-row
returns-else-position-end-clause-row g c =
    let found = c.in_ok-position.ensures.found in
    λ some none. absurd (true≢false (sym found.passes ∙ none _ found.after found.below))

pub returns-else-position-end-clause-missed : goal.returns-else-position-end-clause-missed
returns-else-position-end-clause-missed g c = λ some. omega (arith, c.in_ok-position.ensures.cost)

pub returns-then-from-end-clause-empty : goal.returns-then-from-end-clause-empty
returns-then-from-end-clause-empty g c = search rules steps 100000
