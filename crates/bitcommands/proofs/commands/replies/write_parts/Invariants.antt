use Rattle.std.proofs.Common.{take}
use Rattle.std.specs.Fmt.{HasWritten, IsPlainFormatter}
use Rattle.std.specs.List.{flat_map}
use Rattle.bitcommands.proofs.Items.{spaced}
use Rattle.bitcommands.proofs.commands.replies.write_parts.Given as goal

-- behind the first text those so far are written, each with the space before it
abbrev pub invariant-loop-part : goal.invariant-loop-part
invariant-loop-part g l =
    IsPlainFormatter l.initial.f
    → HasWritten g.W.Write.write_str_gives l.initial.f (flat_map (spaced g.P.Part.text_of) (take l.part-index l.rest))
    l.f
