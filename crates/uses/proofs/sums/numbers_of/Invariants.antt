use Rattle.std.proofs.Common.{◌≡◌, take}
use Rattle.std.specs.List.{flat_map}
use Rattle.uses.specs.declared.text.Row.{Row}
use Rattle.uses.proofs.sums.numbers_of.Given as goal

abbrev pub invariant-loop-row : goal.invariant-loop-row
invariant-loop-row l = l.numbers.items ≡ flat_map (λ (row : Row). row.numbers.items) (take l.row-index l.rows)
