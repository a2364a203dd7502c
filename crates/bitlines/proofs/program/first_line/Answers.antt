use Rattle.std.proofs.lemmas.List.{take_rest}
use Rattle.bitlines.proofs.Outputs.{lines_of_found}
use Rattle.bitlines.proofs.program.first_line.Goals as goal

pub returns-in-Some-clause-lines : goal.returns-in-Some-clause-lines
returns-in-Some-clause-lines c = rw (take_rest c.args.text.now _) (lines_of_found c.args.text.now c.in-Some.end (cc))
