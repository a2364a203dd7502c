use Rattle.std.proofs.Common.{refl, rules}
use Rattle.fixedbitset.proofs.Words.{keeps_pair}
use Rattle.fixedbitset.proofs.views.BitsMut.join.Goals as goal

pub invariant_of-self : goal.invariant_of-self
invariant_of-self g c =
    record {
      clean =
          (keeps_pair _ _ _ _ _ refl c.args.self.now.clean _ _ refl c.args.other.clean c.join.ensures.bits
          g.met.O.WordOp.laws c.requires.shorter).clean;
    }

pub returns-clause-value : goal.returns-clause-value
returns-clause-value g c =
    record {
      value =
          (keeps_pair _ _ _ _ _ refl c.args.self.now.clean _ _ refl c.args.other.clean c.join.ensures.bits
          g.met.O.WordOp.laws c.requires.shorter).value;
      length = refl;
      same = refl;
    }

pub returns-clause-cost : goal.returns-clause-cost
returns-clause-cost g c = search rules steps 300000
