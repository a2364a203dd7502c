use Rattle.std.proofs.Common.{[], ◌∷◌, ◌++◌}
use Rattle.std.specs.Fmt.{IsPlainFormatter}
use Rattle.std.specs.List.{flat_map}
use Rattle.std.specs.Str.Iter.{chars_rest}
use Rattle.bitcommands.specs.Quoting.{escaped}
use Rattle.bitcommands.proofs.Writing.{HasBegun}
use Rattle.bitcommands.proofs.commands.values.write_quoted.Given as goal

-- what stands in quotes for the characters left is yet to be written, and the quote behind it
abbrev pub invariant-loop-character : goal.invariant-loop-character
invariant-loop-character g l = IsPlainFormatter l.initial.f
    → HasBegun g.W.Write.write_str_gives l.initial.f (flat_map escaped (chars_rest l.character-iterator) ++ 34 ∷ [])
    (flat_map escaped l.text ++ 34 ∷ []) l.f
