use Rattle.fixedbitset.proofs.Changes.{remove_of, place_within, remove_clean}
use Rattle.std.proofs.Common.{rules}
use Rattle.fixedbitset.proofs.views.BitsMut.remove.Goals as goal

pub invariant_of-self : goal.invariant_of-self
invariant_of-self c = record { clean = remove_clean _ _ _ c.args.self.now.clean c.requires }

pub returns : goal.returns
returns c = search (rules, place_within, remove_of) steps 300000
