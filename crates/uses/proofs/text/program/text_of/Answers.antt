use Rattle.std.proofs.lemmas.Str.{utf8_valid_len_le}
use Rattle.std.proofs.Common.{rules}
use Rattle.uses.proofs.text.program.text_of.Goals as goal

pub returns-in-Err-clause-line : goal.returns-in-Err-clause-line
returns-in-Err-clause-line c = search (rules, utf8_valid_len_le) steps 300000
