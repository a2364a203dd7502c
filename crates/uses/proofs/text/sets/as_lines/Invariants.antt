use Rattle.std.proofs.Common.{◌≡◌, ◌++◌, string_bytes}
use Rattle.fixedbitset.specs.Bits.{asc}
use Rattle.uses.specs.Texts.{one_a_line}
use Rattle.uses.proofs.text.sets.as_lines.Given as goal

abbrev pub invariant-loop-position : goal.invariant-loop-position
invariant-loop-position l =
    string_bytes l.lines ++ one_a_line l.position-iterator.items ≡ one_a_line (asc l.set)
