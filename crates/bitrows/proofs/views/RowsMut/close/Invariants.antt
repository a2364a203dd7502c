use Rattle.std.proofs.Common.{◌≡◌, ◌+◌}
use Rattle.bitrows.specs.Tables.{has}
use Rattle.bitrows.specs.Views.{held, Becomes}
use Rattle.bitrows.proofs.Closing.{IsPassed, IsThrough, joins_in, joins_before}
use Rattle.bitrows.proofs.views.RowsMut.close.Given as goal

abbrev pub invariant-loop-through : goal.invariant-loop-through
invariant-loop-through l = record {
  same : Becomes l.fn.self l.self (held l.self);
  bits : IsThrough (has (held l.fn.self)) l.through (held l.self);
  joins : l.joins ≡ l.fn.joins + joins_before (has (held l.fn.self)) l.fn.self.rows l.through;
}

abbrev pub invariant-loop-row : goal.invariant-loop-row
invariant-loop-row l = record {
  same : Becomes l.fn.self l.self (held l.self);
  bits : IsPassed (has (held l.fn.self)) l.through l.row (held l.self);
  joins : l.joins
      ≡ l.fn.joins
      + (joins_before (has (held l.fn.self)) l.fn.self.rows l.through + joins_in (has (held l.fn.self))
      l.through l.row);
}
