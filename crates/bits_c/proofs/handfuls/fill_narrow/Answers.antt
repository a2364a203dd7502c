use Rattle.std.proofs.Common.{drop, length-take, inl, arith}
use Rattle.bits_c.proofs.Takes.{narrow_all, narrow_more, narrow_last}
use Rattle.bits_c.proofs.handfuls.fill_narrow.Goals as goal

pub loop-count-preserved : goal.loop-count-preserved
loop-count-preserved g c =
    let long = length-take c.min-room.result c.loop-count.wide in
    record {
      some =
          narrow_more (drop c.min-room.result c.loop-count.wide) c.loop-count.invariant.some
          c.fill_by_words-given.ensures c.narrow.ensures
          (omega (arith, long, c.min-room.ensures, c.loop-count.auto.positions));
    }

pub returns-then-given-room : goal.returns-then-given-room
returns-then-given-room g c =
    let long = length-take c.min-room.result c.loop-count.wide in
    narrow_last (drop c.min-room.result c.loop-count.wide) c.loop-count.invariant.some c.fill_by_words-given.ensures
    c.narrow.ensures
    (omega (arith, long, c.min-room.ensures, c.loop-count.auto.positions))
    (omega (arith, long, c.min-room.ensures, c.if-given-room.true))

pub returns-after-loop-count : goal.returns-after-loop-count
returns-after-loop-count g c =
    let some = c.loop-count.invariant.some in
    narrow_all some (inl (omega (arith, some.room, c.loop-count.auto.positions, c.loop-count-test.false)))
