use Rattle.std.proofs.Common.{nat_lt, refl, ap, ◌∙◌}
use Rattle.fixedbitset.proofs.Blocks.{keeps_block}
use Rattle.fixedbitset.proofs.views.BitsMut.set_block.Goals as goal

pub invariant_of-self : goal.invariant_of-self
invariant_of-self c =
    record {
      clean =
          (keeps_block _ _ c.args.index c.args.value _ c.args.self.now.clean c.requires
          (λ i. c.ones_below.ensures i ∙ ap (nat_lt i) c.used_bits-used.ensures)).clean;
    }

pub returns : goal.returns
returns c =
    record {
      value =
          (keeps_block _ _ c.args.index c.args.value _ c.args.self.now.clean c.requires
          (λ i. c.ones_below.ensures i ∙ ap (nat_lt i) c.used_bits-used.ensures)).value;
      length = refl;
      same = refl;
    }
