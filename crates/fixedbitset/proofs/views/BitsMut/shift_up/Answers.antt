use Rattle.std.proofs.Common.{◌∙◌}
use Rattle.fixedbitset.proofs.Moves.{having_up}
use Rattle.fixedbitset.proofs.views.BitsMut.shift_up.Goals as goal

pub returns-then-by-gt0-clause-value : goal.returns-then-by-gt0-clause-value
returns-then-by-gt0-clause-value c =
    let became = c.join_own.ensures.value in
    record {
      value = became.value ∙ having_up _ _ c.args.self.now.clean c.args.by;
      length = became.length;
      same = became.same;
    }
