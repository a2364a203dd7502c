use Rattle.bitcommands.proofs.Digits.{IsWritten}
use Rattle.bitcommands.proofs.commands.printing.write_digits.Given as goal

abbrev pub invariant-loop-rest : goal.invariant-loop-rest
invariant-loop-rest l = IsWritten l.number l.rest l.start l.digits

abbrev pub decreases-loop-rest : goal.decreases-loop-rest
decreases-loop-rest l = l.rest
