use Rattle.std.proofs.Common.{◌∙◌, ◌==◌, not, refl, sym, ap}
use Rattle.fixedbitset.proofs.Lacking.{keeps_taken, gained_left}
use Rattle.fixedbitset.proofs.views.BitsMut.join_difference.Goals as goal

pub invariant_of-self : goal.invariant_of-self
invariant_of-self c =
    record {
      clean =
          (keeps_taken _ _ _ _ c.args.gens.clean c.args.kills.clean _ _ _ c.args.self.now.clean c.requires.shorter
          c.union_with_difference.ensures.bits).clean;
    }

pub returns-clause-value : goal.returns-clause-value
returns-clause-value c =
    record {
      value =
          (keeps_taken _ _ _ _ c.args.gens.clean c.args.kills.clean _ _ _ c.args.self.now.clean c.requires.shorter
          c.union_with_difference.ensures.bits).value;
      length = refl;
      same = refl;
    }

pub returns-clause-changed : goal.returns-clause-changed
returns-clause-changed c =
    c.union_with_difference.ensures.changed
    ∙ ap (λ n. not (n == 0))
    (sym (gained_left _ _ _ _ c.args.gens.clean c.args.kills.clean _ _ c.args.self.now.clean c.requires.shorter))
