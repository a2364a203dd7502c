use Rattle.std.proofs.Common.{take, arith}
use Rattle.std.proofs.lemmas.List.{length-take-le}
use Rattle.bitlanes.proofs.Kept.{kept_next, kept_none, kept_word, kept_whole}
use Rattle.bitlanes.proofs.lanes.apply.Goals as goal

pub loop-k-preserved : goal.loop-k-preserved
loop-k-preserved g c =
    let m = c.min-words.result in
    let long = length-take-le m c.args.dst.now (omega (arith, c.min-words.ensures)) in
    let long_other = length-take-le m c.args.src.now (omega (arith, c.min-words.ensures)) in
    record {
      words =
          rw (c.word.ensures, c.loop-k.invariant.words)
          (kept_word g.O.WordOp.joined c.loop-k.k (take m c.args.dst.now) (take m c.args.src.now)
          (omega (arith, long, c.loop-k-test.true)) (omega (arith, long_other, c.loop-k-test.true)));
      cost = grind arith;
    }

pub returns-clause-words : goal.returns-clause-words
returns-clause-words g c =
    rw c.loop-k.invariant.words (kept_whole g.O.WordOp.joined c.min-words.result c.loop-k.k c.args.dst.now
    c.args.src.now c.min-words.ensures (omega (arith, c.loop-k-test.false)))

pub returns-then-words-eq-LANE-clause-words : goal.returns-then-words-eq-LANE-clause-words
returns-then-words-eq-LANE-clause-words g c =
    let f = g.O.WordOp.joined in
    let m = c.min-words.result in
    let long = length-take-le m c.args.dst.now (omega (arith, c.min-words.ensures)) in
    let long_other = length-take-le m c.args.src.now (omega (arith, c.min-words.ensures)) in
    let next = kept_next f 4 0 (take m c.args.dst.now) (take m c.args.src.now) (omega (arith, long))
    (omega (arith, long_other)) in
    let lane = rw (kept_none f (take m c.args.dst.now)) at next in
    rw (c.join_lane.ensures, lane)
    (kept_whole f m 4 c.args.dst.now c.args.src.now c.min-words.ensures (omega arith))
