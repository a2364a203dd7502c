use Rattle.std.proofs.Common.{refl}
use Rattle.fixedbitset.proofs.Moves.{keeps_copied}
use Rattle.fixedbitset.proofs.views.BitsMut.copy_range.Goals as goal

pub invariant_of-self : goal.invariant_of-self
invariant_of-self c =
    record {
      clean =
          (keeps_copied _ _ _ _ _ c.args.self.now.clean c.args.other.clean _ _ _ c.requires.room
          c.copy.ensures.bits).clean;
    }

pub returns-clause-value : goal.returns-clause-value
returns-clause-value c =
    record {
      value =
          (keeps_copied _ _ _ _ _ c.args.self.now.clean c.args.other.clean _ _ _ c.requires.room
          c.copy.ensures.bits).value;
      length = refl;
      same = refl;
    }

pub returns-clause-cost : goal.returns-clause-cost
returns-clause-cost c = c.copy.ensures.cost
