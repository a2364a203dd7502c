use Rattle.std.proofs.Common.{refl, arith}
use Rattle.std.proofs.lemmas.Grind.{put_two, common_steps}
use Rattle.std.proofs.lemmas.List.{take_all}
use Rattle.bitcommands.proofs.Items.{spaced_text-cons}
use Rattle.bitcommands.proofs.commands.replies.write_parts.Goals as goal

pub returns : goal.returns
returns g c = λ plain ok.
    let first = c.in_ok-write_to.ensures plain refl in
    put_two _ _ _ _ _ _ _ first (c.loop-part.invariant first.plain)
    (rw (c.in-Some.ensures.cases.0, spaced_text-cons, take_all c.loop-part.part-index c.in-Some.rest.now (omega arith))
    refl)

pub loop-part-preserved : goal.loop-part-preserved
loop-part-preserved g c = grind (arith, common_steps)
