use Rattle.std.proofs.Common.{◌≡◌, length}
use Rattle.bitlines.specs.Arguments.{numbers_of}
use Rattle.bitlines.proofs.Lists.{onto}
use Rattle.bitlines.proofs.arguments.numbers.Given as goal

-- the numbers so far, before those of the words that are left
abbrev pub invariant-loop-args : goal.invariant-loop-args
invariant-loop-args l = numbers_of l.fn.args ≡ onto l.list.items (numbers_of l.args)

abbrev pub decreases-loop-args : goal.decreases-loop-args
decreases-loop-args l = length l.args
