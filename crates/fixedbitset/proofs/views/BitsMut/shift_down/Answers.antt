use Rattle.std.proofs.Common.{◌/◌, refl}
use Rattle.fixedbitset.proofs.Moves.{down_cost, keeps_down_used, length-used}
use Rattle.fixedbitset.proofs.views.BitsMut.shift_down.Goals as goal

pub invariant_of-self : goal.invariant_of-self
invariant_of-self c =
    record {
      clean =
          (keeps_down_used _ _ c.args.self.now.clean _ c.div_ceil-used.ensures _ _ c.down.ensures.bits).clean;
    }

pub returns-clause-value : goal.returns-clause-value
returns-clause-value c =
    record {
      value = (keeps_down_used _ _ c.args.self.now.clean _ c.div_ceil-used.ensures _ _ c.down.ensures.bits).value;
      length = refl;
      same = refl;
    }

pub returns-clause-cost : goal.returns-clause-cost
returns-clause-cost c =
    let used = c.div_ceil-used.ensures in
    down_cost _ (c.args.by / 64) _ _ _ _ _ _ used (length-used _ _ c.args.self.now.clean _ used)
    c.args.self.now.clean.count c.tick_unmoved.ensures c.down.ensures.cost
