use Rattle.bitcommands.specs.Answers.{answer_of}
use Rattle.bitlines.proofs.Outputs.{command_answered}
use Rattle.bitlines.proofs.program.answer_command.Goals as goal

pub returns : goal.returns
returns c =
    command_answered c.args.output.now.items c.push_text.new.output.items _ _ _ _ (answer_of c.apply.result)
    c.apply.ensures c.in_ok-push_text.ensures.ok c.in_ok-push.ensures.items
