use Rattle.std.proofs.Common.{refl}
use Rattle.bitlanes.specs.Words.{filled}
use Rattle.bitlanes.proofs.Changing.{against_joined}
use Rattle.bitlanes.proofs.Filling.{take_filled}
use Rattle.bitlanes.proofs.Zipping.{take-zip2}
use Rattle.bitlanes.proofs.changes.change_by_part.Goals as goal

pub returns-clause-words : goal.returns-clause-words
returns-clause-words g c =
    let taken = take_filled c.args.at c.args.rest c.args.dst.now c.requires.within in
    rw (c.put_part.ensures, c.lane-joined.ensures, c.part_at-old.ensures, take-zip2, taken) refl

pub returns-clause-changed : goal.returns-clause-changed
returns-clause-changed g c =
    rw (c.lane-joined.ensures, c.part_at-old.ensures)
    (against_joined g.O.WordOp.joined (filled c.args.at c.args.rest c.args.dst.now) c.args.lane)
