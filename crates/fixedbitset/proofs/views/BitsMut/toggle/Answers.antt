use Rattle.fixedbitset.proofs.Changes.{toggle_of, place_within, toggle_clean}
use Rattle.std.proofs.Common.{rules}
use Rattle.fixedbitset.proofs.views.BitsMut.toggle.Goals as goal

pub invariant_of-self : goal.invariant_of-self
invariant_of-self c = record { clean = toggle_clean _ _ _ c.args.self.now.clean c.requires }

pub returns : goal.returns
returns c = search (rules, place_within, toggle_of) steps 300000
