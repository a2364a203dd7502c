use Rattle.std.proofs.Common.{rules}
use Rattle.bitlines.proofs.words.Words.number.Goals as goal

pub returns : goal.returns
returns c = search rules steps 300000
