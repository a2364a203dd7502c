use Rattle.std.proofs.Common.{◌≡◌, drop}
use Rattle.bitlines.specs.Arguments.{ends_of, ends_from}
use Rattle.bitlines.proofs.Lists.{onto}
use Rattle.bitlines.proofs.arguments.ends.Given as goal

-- the ends so far, before those of the letters that are left
abbrev pub invariant-loop-letter : goal.invariant-loop-letter
invariant-loop-letter l = ends_of l.word ≡ onto l.ends.items (ends_from (drop l.letter-index l.word))
