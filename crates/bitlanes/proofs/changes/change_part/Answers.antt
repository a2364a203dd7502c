use Rattle.std.proofs.Common.{◌∙◌}
use Rattle.bitlanes.specs.Changes.{changed_bits}
use Rattle.bitlanes.specs.ChangeFacts.{laws_of_changes}
use Rattle.bitlanes.proofs.Filling.{filled_joined, nothing_joined}
use Rattle.bitlanes.proofs.changes.change_part.Goals as goal

pub returns-clause-changed : goal.returns-clause-changed
returns-clause-changed g c =
    let f = changed_bits g.O.WordOp.joined in
    (rw c.part_at.ensures at c.change_by_part.ensures.changed)
    ∙ filled_joined f (nothing_joined (laws_of_changes g.met.O.WordOp.laws)) c.args.at c.args.rest c.args.dst.now
    c.args.src.now c.requires.in_dst c.requires.in_src
