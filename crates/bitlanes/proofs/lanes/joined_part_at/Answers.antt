use Rattle.bitlanes.proofs.Filling.{filled_joined, nothing_joined}
use Rattle.bitlanes.proofs.lanes.joined_part_at.Goals as goal

pub returns : goal.returns
returns g c =
    let nothing = nothing_joined g.met.O.WordOp.laws in
    rw (c.lane.ensures, c.part_at.ensures, c.part_at-2.ensures)
    (filled_joined g.O.WordOp.joined nothing c.args.at c.args.rest c.args.a.now c.args.b.now c.requires.in_a
    c.requires.in_b)
