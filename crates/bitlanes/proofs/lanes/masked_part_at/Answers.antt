use Rattle.std.proofs.Common.{arith}
use Rattle.bitlanes.proofs.Filling.{filled_masked, nothing_joined}
use Rattle.bitlanes.proofs.lanes.masked_part_at.Goals as goal

pub returns : goal.returns
returns g c =
    let nothing = nothing_joined g.met.O.WordOp.laws in
    rw (c.lane.ensures, c.part_at.ensures, c.part_at-2.ensures)
    (filled_masked g.O.WordOp.joined nothing c.args.mask c.args.at c.args.rest c.args.words.now (omega arith)
    c.requires.within)
