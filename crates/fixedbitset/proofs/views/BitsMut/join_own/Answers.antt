use Rattle.std.proofs.Common.{◌-◌, ◌&&◌, nat_le, refl, ap}
use Rattle.bitwords.specs.Rows.{has_bit}
use Rattle.fixedbitset.proofs.Moves.{has_bit-used, keeps_used_moved, length-used, up_cost}
use Rattle.fixedbitset.proofs.views.BitsMut.join_own.Goals as goal

pub invariant_of-self : goal.invariant_of-self
invariant_of-self g c =
    let used = c.div_ceil-used.ensures in
    record {
      clean =
          (keeps_used_moved _ _ c.args.self.now.clean _ used _ _ _ _
          (λ p. nat_le c.args.by p && has_bit c.args.self.now.words.now (p - c.args.by)) c.up.ensures.bits
          c.clear_from.ensures
          (λ p.
          ap (λ b. nat_le c.args.by p && b) (has_bit-used _ _ c.args.self.now.clean _ used (p - c.args.by)))).clean;
    }

pub returns-clause-value : goal.returns-clause-value
returns-clause-value g c =
    let used = c.div_ceil-used.ensures in
    record {
      value =
          (keeps_used_moved _ _ c.args.self.now.clean _ used _ _ _ _
          (λ p. nat_le c.args.by p && has_bit c.args.self.now.words.now (p - c.args.by)) c.up.ensures.bits
          c.clear_from.ensures
          (λ p.
          ap (λ b. nat_le c.args.by p && b) (has_bit-used _ _ c.args.self.now.clean _ used (p - c.args.by)))).value;
      length = refl;
      same = refl;
    }

pub returns-clause-cost : goal.returns-clause-cost
returns-clause-cost g c =
    let used = c.div_ceil-used.ensures in
    up_cost _ _ _ _ _ _ _ _ _ used (length-used _ _ c.args.self.now.clean _ used) c.args.self.now.clean.count
    c.tick_unmoved_up.ensures c.up.ensures.cost
