use Rattle.std.proofs.Common.{arith, ap, length}
use Rattle.bitwords.proofs.Left.{hint, length-left}
use Rattle.bitwords.proofs.cursors.CursorIterator.size_hint.Goals as goal

pub returns-clause-upper : goal.returns-clause-upper
returns-clause-upper g c =
    let s = c.self.inside in
    hint c.checked_mul.result _ _ c.checked_mul.ensures
    (omega (
      arith,
      length-left s.front_at s.front (g.M.Middle.words s.middle) s.back,
      ap (λ walk. length walk.items) c.self.view_is,
    ))
