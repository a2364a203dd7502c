use Rattle.std.proofs.Common.{◌^◌, ◌+◌, sym, ap, ◌∙◌, arith}
use Rattle.bitwords.specs.Gaps.{is_multiple, has_room_in}
use Rattle.bitwords.specs.Rows.{has_bit}
use Rattle.bitwords.proofs.AlignedRooms.{none_multiple, none_with_room, none_joined, no_aligned_room}
use Rattle.bitwords.proofs.AlignedRooms.{aligned_room, told_none, told_next, room_tells, none_spent}
use Rattle.bitwords.proofs.AlignedRooms.{more_spent, spent_last, spent_in_all}
use Rattle.bitwords.proofs.gaps.first_aligned.Goals as goal

pub returns-in_err-at-clause-gap : goal.returns-in_err-at-clause-gap
returns-in_err-at-clause-gap c =
    let taken = has_bit c.args.words.now in
    let none = told_none (is_multiple c.args.align) c.args.from (2 ^ 64) c.multiple_from.result c.multiple_from.ensures
    c.in_err-at.was in
    rw c.from_residual.ensures
    (no_aligned_room taken c.args.end c.args.count c.args.align c.args.from
    (none_multiple taken c.args.end c.args.count c.args.align c.args.from c.args.from (c.args.end + 1)
    (λ i above below. none i above (omega (arith, below, c.ranges.end.fits)))))

pub returns-in_err-found-clause-gap : goal.returns-in_err-found-clause-gap
returns-in_err-found-clause-gap c =
    let taken = has_bit c.args.words.now in
    let at = c.loop-found.at in
    let none = told_none (has_room_in taken c.args.end c.args.count) at (c.args.end + 1) c.first.result
    (room_tells taken c.args.end c.args.count at c.first.result c.first.ensures.gap) c.in_err-found.was in
    rw c.from_residual-in_err-found.ensures
    (no_aligned_room taken c.args.end c.args.count c.args.align c.args.from
    (none_joined taken c.args.end c.args.count c.args.align c.args.from c.args.from at (c.args.end + 1)
    c.loop-found.invariant.none
    (none_with_room taken c.args.end c.args.count c.args.align c.args.from at (c.args.end + 1) none)))

pub returns-in_err-next-clause-gap : goal.returns-in_err-next-clause-gap
returns-in_err-next-clause-gap c =
    let taken = has_bit c.args.words.now in
    let at = c.loop-found.at in
    let p = c.in_ok-found.found in
    let found = told_next (has_room_in taken c.args.end c.args.count) at (c.args.end + 1) c.first.result p
    (room_tells taken c.args.end c.args.count at c.first.result c.first.ensures.gap) c.in_ok-found.was in
    let none = told_none (is_multiple c.args.align) p (2 ^ 64) c.multiple_from-in-loop-found.result
    c.multiple_from-in-loop-found.ensures c.in_err-next.was in
    rw c.from_residual-in_err-next.ensures
    (no_aligned_room taken c.args.end c.args.count c.args.align c.args.from
    (none_joined taken c.args.end c.args.count c.args.align c.args.from c.args.from at (c.args.end + 1)
    c.loop-found.invariant.none
    (none_joined taken c.args.end c.args.count c.args.align c.args.from at p (c.args.end + 1)
    (none_with_room taken c.args.end c.args.count c.args.align c.args.from at p found.none)
    (none_multiple taken c.args.end c.args.count c.args.align c.args.from p (c.args.end + 1)
    (λ i above below. none i above (omega (arith, below, c.ranges.end.fits)))))))

pub returns-then-next-found-clause-gap : goal.returns-then-next-found-clause-gap
returns-then-next-found-clause-gap c =
    let taken = has_bit c.args.words.now in
    let at = c.loop-found.at in
    let p = c.in_ok-found.found in
    let found = told_next (has_room_in taken c.args.end c.args.count) at (c.args.end + 1) c.first.result p
    (room_tells taken c.args.end c.args.count at c.first.result c.first.ensures.gap) c.in_ok-found.was in
    let next = told_next (is_multiple c.args.align) p (2 ^ 64) c.multiple_from-in-loop-found.result c.in_ok-next.next
    c.multiple_from-in-loop-found.ensures c.in_ok-next.was in
    let spent = c.loop-found.invariant.spent.2 in
    aligned_room taken c.args.end c.args.count c.args.align c.args.from p (omega (arith, spent.behind, found.after))
    (sym (ap (is_multiple c.args.align) c.if-next-found.true) ∙ next.passes) found.passes
    (none_joined taken c.args.end c.args.count c.args.align c.args.from c.args.from at p c.loop-found.invariant.none
    (none_with_room taken c.args.end c.args.count c.args.align c.args.from at p found.none))

pub loop-found-init : goal.loop-found-init
loop-found-init c =
    let at = c.in_ok-at.at in
    let next = told_next (is_multiple c.args.align) c.args.from (2 ^ 64)
    c.multiple_from.result at c.multiple_from.ensures c.in_ok-at.was in
    let taken = has_bit c.args.words.now in
    record {
      none = none_multiple taken c.args.end c.args.count c.args.align c.args.from c.args.from at next.none;
      spent = (
        0,
        c.args.from,
        none_spent taken c.args.end c.args.count c.args.align c.args.from c.args.steps.now at next.passes next.after,
      );
    }

pub loop-found-smaller : goal.loop-found-smaller
loop-found-smaller c =
    let taken = has_bit c.args.words.now in
    let at = c.loop-found.at in
    let p = c.in_ok-found.found in
    let found = told_next (has_room_in taken c.args.end c.args.count) at (c.args.end + 1) c.first.result p
    (room_tells taken c.args.end c.args.count at c.first.result c.first.ensures.gap) c.in_ok-found.was in
    let next = told_next (is_multiple c.args.align) p (2 ^ 64) c.multiple_from-in-loop-found.result c.in_ok-next.next
    c.multiple_from-in-loop-found.ensures c.in_ok-next.was in
    omega (arith, found.after, found.below, next.after, c.if-next-found.false)

pub loop-found-preserved : goal.loop-found-preserved
loop-found-preserved c =
    let taken = has_bit c.args.words.now in
    let at = c.loop-found.at in
    let p = c.in_ok-found.found in
    let found = told_next (has_room_in taken c.args.end c.args.count) at (c.args.end + 1) c.first.result p
    (room_tells taken c.args.end c.args.count at c.first.result c.first.ensures.gap) c.in_ok-found.was in
    let next = told_next (is_multiple c.args.align) p (2 ^ 64) c.multiple_from-in-loop-found.result c.in_ok-next.next
    c.multiple_from-in-loop-found.ensures c.in_ok-next.was in
    let turns = c.loop-found.invariant.spent.0 in
    let reach = c.loop-found.invariant.spent.1 in
    record {
      none =
          none_joined taken c.args.end c.args.count c.args.align c.args.from c.args.from at c.in_ok-next.next
          c.loop-found.invariant.none
          (none_joined taken c.args.end c.args.count c.args.align c.args.from at p c.in_ok-next.next
          (none_with_room taken c.args.end c.args.count c.args.align c.args.from at p found.none)
          (none_multiple taken c.args.end c.args.count c.args.align c.args.from p c.in_ok-next.next next.none));
      spent = (
        turns + 1,
        p + c.args.count,
        more_spent taken c.args.end c.args.count c.args.align c.args.from c.args.steps.now at c.loop-found.steps turns
            reach p c.loop-found.invariant.spent.2 found c.in_ok-next.next c.first.new.steps next c.if-next-found.false
            c.in_ok-found.ensures.cost,
      );
    }

pub returns-in_err-found-clause-cost : goal.returns-in_err-found-clause-cost
returns-in_err-found-clause-cost c =
    let spent = c.loop-found.invariant.spent in
    spent_in_all (has_bit c.args.words.now) c.args.end c.args.count c.args.align c.args.from c.args.steps.now
    c.loop-found.at c.loop-found.steps spent.0 spent.1 spent.2 c.first.new.steps c.first.ensures.bound

pub returns-in_err-next-clause-cost : goal.returns-in_err-next-clause-cost
returns-in_err-next-clause-cost c =
    let spent = c.loop-found.invariant.spent in
    spent_in_all (has_bit c.args.words.now) c.args.end c.args.count c.args.align c.args.from c.args.steps.now
    c.loop-found.at c.loop-found.steps spent.0 spent.1 spent.2 c.first.new.steps c.first.ensures.bound

pub returns-then-next-found-clause-cost : goal.returns-then-next-found-clause-cost
returns-then-next-found-clause-cost c =
    let spent = c.loop-found.invariant.spent in
    spent_in_all (has_bit c.args.words.now) c.args.end c.args.count c.args.align c.args.from c.args.steps.now
    c.loop-found.at c.loop-found.steps spent.0 spent.1 spent.2 c.first.new.steps c.first.ensures.bound

pub returns-then-next-found-clause-least : goal.returns-then-next-found-clause-least
returns-then-next-found-clause-least c =
    let taken = has_bit c.args.words.now in
    let at = c.loop-found.at in
    let p = c.in_ok-found.found in
    let found = told_next (has_room_in taken c.args.end c.args.count) at (c.args.end + 1) c.first.result p
    (room_tells taken c.args.end c.args.count at c.first.result c.first.ensures.gap) c.in_ok-found.was in
    let spent = c.loop-found.invariant.spent in
    spent_last taken c.args.end c.args.count c.args.align c.args.from c.args.steps.now at c.loop-found.steps spent.0
    spent.1 p spent.2 found c.first.new.steps c.in_ok-found.ensures.cost
