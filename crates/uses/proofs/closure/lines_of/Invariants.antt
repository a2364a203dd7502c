use Rattle.std.proofs.Common.{◌≡◌, take, string_bytes}
use Rattle.uses.specs.Edges.{pair_lines}
use Rattle.uses.proofs.closure.lines_of.Given as goal

abbrev pub invariant-loop-from : goal.invariant-loop-from
invariant-loop-from l = string_bytes l.lines ≡ pair_lines (take l.from-index l.from-items)
