use Rattle.std.proofs.Common.{arith}
use Rattle.bitlines.proofs.EndLetters.{ends_end}
use Rattle.bitlines.proofs.arguments.ends.Goals as goal

pub returns : goal.returns
returns c =
    ends_end _ c.loop-letter.ends.items c.args.word.now c.loop-letter.letter-index c.loop-letter.invariant (omega arith)
