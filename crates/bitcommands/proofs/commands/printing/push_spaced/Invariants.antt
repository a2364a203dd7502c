use Rattle.std.proofs.Common.{◌≡◌, ◌++◌, take}
use Rattle.std.specs.List.{flat_map}
use Rattle.bitcommands.proofs.Items.{spaced}
use Rattle.bitcommands.proofs.commands.printing.push_spaced.Given as goal

-- behind the first text those so far stand, each with the space before it
abbrev pub invariant-loop-part : goal.invariant-loop-part
invariant-loop-part g l =
    l.output.items ≡ l.initial.output.items ++ flat_map (spaced g.P.Part.text_of) (take l.part-index l.rest)
