use Rattle.std.proofs.Common.{◌∙◌, ◌==◌, sym, ap}
use Rattle.fixedbitset.proofs.JoinedCounts.{shows, count_rows}
use Rattle.fixedbitset.proofs.views.Bits.none.Goals as goal

pub returns-clause-none : goal.returns-clause-none
returns-clause-none g c =
    c.none.ensures.none
    ∙ ap (λ n.
    n == 0) (sym (count_rows g.O.WordOp.truth g.met.O.WordOp.laws.of_neither _ _ _ _ (shows _ _ c.args.self.clean)
    (shows _ _ c.args.other.clean)))
