use Rattle.std.proofs.Common.{◌-◌, ◌&&◌, ◌∙◌, nat_le, refl}
use Rattle.bitwords.specs.Rows.{has_bit}
use Rattle.fixedbitset.proofs.Moves.{having_with_shifted, join_up_cost, keeps_used_moved, length-used}
use Rattle.fixedbitset.proofs.views.BitsMut.union_with_shifted.Goals as goal

pub invariant_of-self : goal.invariant_of-self
invariant_of-self c =
    record {
      clean =
          (keeps_used_moved _ _ c.args.self.now.clean _ c.div_ceil-used.ensures _ _ _ _
          (λ p. nat_le c.args.by p && has_bit c.args.other.words.now (p - c.args.by)) c.join_up.ensures.bits
          c.clear_from.ensures (λ p. refl)).clean;
    }

pub returns-clause-value : goal.returns-clause-value
returns-clause-value c = record {
  value =
      (keeps_used_moved _ _ c.args.self.now.clean _ c.div_ceil-used.ensures _ _ _ _
      (λ p. nat_le c.args.by p && has_bit c.args.other.words.now (p - c.args.by)) c.join_up.ensures.bits
      c.clear_from.ensures (λ p. refl)).value
      ∙ having_with_shifted _ _ c.args.self.now.clean _ _ c.args.other.clean c.args.by;
  length = refl;
  same = refl;
}

pub returns-clause-cost : goal.returns-clause-cost
returns-clause-cost c =
    let used = c.div_ceil-used.ensures in
    join_up_cost _ _ c.args.by _ _ _ _ _ _ _ used (length-used _ _ c.args.self.now.clean _ used)
    c.args.self.now.clean.count c.args.other.clean.count c.tick_unjoined.ensures c.join_up.ensures.cost
