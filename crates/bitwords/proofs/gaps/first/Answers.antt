use Rattle.std.proofs.Common.{arith, ap}
use Rattle.bitwords.specs.Rows.{has_bit}
use Rattle.bitwords.specs.Gaps.{all_pass}
use Rattle.bitwords.proofs.Rooms.{free, room_found, room_none}
use Rattle.bitwords.proofs.gaps.first.Goals as goal
use Rattle.bitwords.proofs.gaps.first.Goals.{then-end-count-via-then-end-count}
use Rattle.bitwords.proofs.gaps.first.Goals.{then-end-count-via-else-end-count+then-end-count-2}

pub returns-then-end-count-clause-gap : goal.returns-then-end-count-clause-gap
returns-then-end-count-clause-gap c =
    room_none (has_bit c.args.words.now) c.args.end c.args.count c.args.from (λ q above within.
    let none : ⊥ = elim c.then-end-count.branch [
      | then-end-count-via-then-end-count w ↦ omega (arith, w.if-end-count.true)
      | then-end-count-via-else-end-count+then-end-count-2 w ↦ omega (arith, w.if-end-count-2.true)
    ] in absurd none)

pub returns-then-count-eq0-clause-gap : goal.returns-then-count-eq0-clause-gap
returns-then-count-eq0-clause-gap c =
    let f = free (has_bit c.args.words.now) c.args.from in
    room_found (has_bit c.args.words.now) c.args.end c.args.count c.args.from c.args.from (omega arith)
    (omega (arith, c.if-end-count.false, c.if-end-count-2.false, c.if-count-eq0.true))
    (ap (λ k. all_pass f k c.args.from) c.if-count-eq0.true) (λ q above below. absurd (omega arith))
