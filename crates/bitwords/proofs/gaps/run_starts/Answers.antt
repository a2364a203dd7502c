use Rattle.std.proofs.Common.{arith}
use Rattle.bitwords.proofs.RunStarts.{run-doubled, run-too-long}
use Rattle.bitwords.proofs.gaps.run_starts.Goals as goal

pub loop-have-preserved : goal.loop-have-preserved
loop-have-preserved c = record {
  some = omega arith;
  within = omega (arith, c.min-more.ensures);
  runs = λ i. run-doubled c.args.word c.loop-have.starts c.loop-have.have c.min-more.result i
      (omega (arith, c.min-more.ensures)) c.loop-have.invariant.runs;
}

pub returns-then-count-gt-BITS : goal.returns-then-count-gt-BITS
returns-then-count-gt-BITS c = λ i. run-too-long c.args.word c.args.count i c.ranges.word.fits (omega arith)
