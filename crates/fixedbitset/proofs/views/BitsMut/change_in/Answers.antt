use Rattle.std.proofs.Common.{refl, rules}
use Rattle.fixedbitset.specs.Views.{held}
use Rattle.fixedbitset.proofs.Words.{keeps_range, reaches, valid_range}
use Rattle.fixedbitset.proofs.views.BitsMut.change_in.Goals as goal

pub change-requires-clause-order : goal.change-requires-clause-order
change-requires-clause-order g c = (valid_range (held c.args.self.now) _ _ c.requires.valid).0

pub change-requires-clause-within : goal.change-requires-clause-within
change-requires-clause-within g c = reaches _ _ _ refl c.args.self.now.clean _ _ c.requires.valid

pub invariant_of-self : goal.invariant_of-self
invariant_of-self g c =
    record {
      clean =
          (keeps_range _ _ _ c.args.self.now.clean _ _ c.requires.valid c.change.ensures.bits
          g.met.O.WordOp.laws).clean;
    }

pub returns-clause-value : goal.returns-clause-value
returns-clause-value g c =
    record {
      value =
          (keeps_range _ _ _ c.args.self.now.clean _ _ c.requires.valid c.change.ensures.bits
          g.met.O.WordOp.laws).value;
      length = refl;
      same = refl;
    }

pub returns-clause-cost : goal.returns-clause-cost
returns-clause-cost g c = search rules steps 100000
