use Rattle.std.proofs.Common.{ℕ, List, ◌++◌, length, replicate}
use Rattle.fixedbitset.specs.Bits.{empty}
use Rattle.bitlines.specs.Output.{IsOutputFrom, lines_of}
use Rattle.bitlines.proofs.program.output_of.Given as goal

-- the output so far, before what the lines left put out, is what all lines put out
abbrev pub invariant-loop-sets : goal.invariant-loop-sets
invariant-loop-sets l = (output : List ℕ) → IsOutputFrom l.sets (lines_of l.rest) output
    → IsOutputFrom (replicate 16 (empty 0)) (lines_of l.input) (l.output.items ++ output)

abbrev pub decreases-loop-sets : goal.decreases-loop-sets
decreases-loop-sets l = length l.rest
