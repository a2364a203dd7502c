use Rattle.fixedbitset.proofs.Changes.{insert_of, place_within, insert_clean}
use Rattle.std.proofs.Common.{rules}
use Rattle.fixedbitset.proofs.views.BitsMut.insert.Goals as goal

pub invariant_of-self : goal.invariant_of-self
invariant_of-self c = record { clean = insert_clean _ _ _ c.args.self.now.clean c.requires }

pub returns : goal.returns
returns c = search (rules, place_within, insert_of) steps 300000
