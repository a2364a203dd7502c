use Rattle.std.proofs.Common.{◌≡◌, ◌/◌, arith}
use Rattle.bitcommands.proofs.Digits.{one_more, all_written}
use Rattle.bitcommands.proofs.commands.printing.write_digits.Goals as goal

pub loop-rest-preserved : goal.loop-rest-preserved
loop-rest-preserved c =
    let hundredth : c.loop-rest.rest / 10 / 10 ≡ c.loop-rest.rest / 100 = omega arith in
    rw (← hundredth) (one_more _ _ _ _ (omega arith) (omega arith)
    (one_more _ _ _ _ (omega arith) (omega arith) c.loop-rest.invariant (omega arith)) (omega arith))

pub returns-then-rest-gt9-clause-written : goal.returns-then-rest-gt9-clause-written
returns-then-rest-gt9-clause-written c =
    all_written _ _ _ _ (omega arith) (omega arith)
    (one_more _ _ _ _ (omega arith) (omega arith) c.loop-rest.invariant (omega arith)) (omega arith)

pub returns-clause-written : goal.returns-clause-written
returns-clause-written c = all_written _ _ _ _ (omega arith) (omega arith) c.loop-rest.invariant (omega arith)
