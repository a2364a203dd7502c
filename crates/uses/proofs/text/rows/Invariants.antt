use Rattle.std.proofs.Common.{map, take}
use Rattle.uses.specs.Rows.{AreRowsOf}
use Rattle.uses.proofs.text.rows.Given as goal

abbrev pub invariant-loop-line : goal.invariant-loop-line
invariant-loop-line l = AreRowsOf (take l.line-index (map (λ x. x.now) l.line-items)) l.rows.items
