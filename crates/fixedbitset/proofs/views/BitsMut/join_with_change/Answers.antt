use Rattle.std.proofs.Common.{◌∙◌, ◌==◌, not, sym, ap, refl, rules}
use Rattle.bitlanes.specs.Changes.{changes}
use Rattle.fixedbitset.proofs.JoinedCounts.{shows, count_rows}
use Rattle.fixedbitset.proofs.Words.{keeps_pair}
use Rattle.fixedbitset.proofs.views.BitsMut.join_with_change.Goals as goal

pub invariant_of-self : goal.invariant_of-self
invariant_of-self g c =
    record {
      clean =
          (keeps_pair _ _ _ _ _ refl c.args.self.now.clean _ _ refl c.args.other.clean c.join_with_change.ensures.bits
          g.met.O.WordOp.laws c.requires.shorter).clean;
    }

pub returns-clause-value : goal.returns-clause-value
returns-clause-value g c =
    record {
      value =
          (keeps_pair _ _ _ _ _ refl c.args.self.now.clean _ _ refl c.args.other.clean c.join_with_change.ensures.bits
          g.met.O.WordOp.laws c.requires.shorter).value;
      length = refl;
      same = refl;
    }

pub returns-clause-changed : goal.returns-clause-changed
returns-clause-changed g c =
    c.join_with_change.ensures.changed
    ∙ ap (λ n.
    not (n == 0)) (sym (count_rows (changes g.O.WordOp.truth) g.met.O.WordOp.laws.of_neither _ _ _ _
    (shows _ _ c.args.self.now.clean) (shows _ _ c.args.other.clean)))

pub returns-clause-cost : goal.returns-clause-cost
returns-clause-cost g c = search rules steps 300000
