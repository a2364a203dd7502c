use Rattle.std.proofs.Common.{rules}
use Rattle.std.specs.Slice.Iter.{iter_rest}
use Rattle.bitwords.specs.BesideFacts.{length-beside}
use Rattle.bits_c.proofs.structs.Sieve.cursor.Goals as goal

pub of_held-requires : goal.of_held-requires
of_held-requires g c =
    rw (length-beside g.O.WordOp.joined (iter_rest c.of.result.plain.words) c.of.result.other.now, c.of.ensures.words)
    (search rules)

pub returns : goal.returns
returns g c = search rules steps 300000
