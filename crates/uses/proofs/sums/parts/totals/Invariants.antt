use Rattle.std.proofs.Common.{take}
use Rattle.uses.proofs.Totals.{AreTotals}
use Rattle.uses.proofs.sums.parts.totals.Given as goal

abbrev pub invariant-loop-number : goal.invariant-loop-number
invariant-loop-number l = AreTotals l.limit (take l.number-index l.numbers) l.set
