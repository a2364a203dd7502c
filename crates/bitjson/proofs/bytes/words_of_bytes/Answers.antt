use Rattle.std.proofs.Common.{arith}
use Rattle.std.proofs.lemmas.Grind.{common_steps}
use Rattle.bitjson.proofs.bytes.words_of_bytes.Goals as goal

pub returns-clause-words : goal.returns-clause-words
returns-clause-words c = grind (arith, common_steps)
