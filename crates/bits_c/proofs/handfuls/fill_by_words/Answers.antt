use Rattle.std.proofs.Common.{◌-◌, length, inl, arith}
use borrow.Rule.Slice.PartMut.{same_len_mid}
use Rattle.bitwords.proofs.Places.{gives-none}
use Rattle.bits_c.proofs.Takes.{some_are_all, words_and_few, words_and_last}
use Rattle.bits_c.proofs.handfuls.fill_by_words.Goals as goal

pub loop-count-init : goal.loop-count-init
loop-count-init g c = record { gives = gives-none _ c.args.positions.now }

pub loop-count-preserved : goal.loop-count-preserved
loop-count-preserved g c =
    let left = g.G.Giver.left in
    let few = c.fill-count.ensures in
    record {
      gives =
          words_and_few _ c.args.positions.now c.loop-count.positions c.take_words-count.new.positions
          c.fill-count.new.positions (left c.loop-count.giver) (left c.take_words-count.new.self)
          (left c.fill-count.new.giver)
          c.loop-count.count (length c.loop-count.positions - c.loop-count.count) c.take_words-count.result _
          c.fill-count.result
          c.loop-count.auto.positions c.take_words-count.auto.positions c.fill-count.auto.positions
          c.loop-count.invariant.gives c.take_words-count.ensures
          (record { answer = few.answer; written = few.written; rest = few.rest });
    }

pub returns-after-loop-count : goal.returns-after-loop-count
returns-after-loop-count g c =
    let all = some_are_all _ c.args.positions.now c.loop-count.positions _ c.loop-count.count
    c.loop-count.invariant.gives c.loop-count.auto.positions
    (inl (omega (arith, c.loop-count.invariant.gives.room, c.loop-count.auto.positions, c.loop-count-test.false))) in
    record { answer = all.answer; written = all.written; rest = all.rest }

pub returns-then-count-end : goal.returns-then-count-end
returns-then-count-end g c =
    let left = g.G.Giver.left in
    let few = c.fill-count.ensures in
    let long = same_len_mid c.loop-count.count (length c.loop-count.positions - c.loop-count.count)
    c.loop-count.positions c.take_words-count.new.positions c.take_words-count.auto.positions in
    let last = words_and_last _ c.args.positions.now c.loop-count.positions c.take_words-count.new.positions
    c.fill-count.new.positions (left c.loop-count.giver) (left c.take_words-count.new.self)
    (left c.fill-count.new.giver)
    c.loop-count.count (length c.loop-count.positions - c.loop-count.count) c.take_words-count.result _
    c.fill-count.result
    c.loop-count.auto.positions c.take_words-count.auto.positions c.fill-count.auto.positions
    c.loop-count.invariant.gives c.take_words-count.ensures
    (record { answer = few.answer; written = few.written; rest = few.rest })
    (omega (arith, c.if-count-end.true)) (omega (arith, c.min.ensures, c.loop-count.auto.positions, long)) in
    record { answer = last.answer; written = last.written; rest = last.rest }
