use Rattle.std.proofs.Common.{◌≡◌, [], ◌++◌, length, append_assoc, append-nil, arith}
use Rattle.std.proofs.lemmas.Bool.Decides.{nat_tests}
use Rattle.bitlines.proofs.Outputs.{lines_of_empty, no_lines}
use Rattle.bitlines.proofs.program.output_of.Goals as goal

pub loop-sets-preserved : goal.loop-sets-preserved
loop-sets-preserved c output rest =
    let line = c.in_ok-answer_line.ensures in
    rw (
      line.1,
      append_assoc,
    ) (c.loop-sets.invariant (line.0 ++ output) (rw c.first_line.ensures.lines (line.2 _ output rest)))

pub returns : goal.returns
returns c =
    let empty : length c.loop-sets.rest.now ≡ 0 = grind (arith, nat_tests) in
    rw append-nil at (c.loop-sets.invariant [] (no_lines _ _ (lines_of_empty c.loop-sets.rest.now empty)))
