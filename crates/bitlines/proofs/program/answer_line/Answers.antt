use Rattle.bitcommands.specs.Actions.{action_of}
use Rattle.bitlines.specs.Lines.{may_lack, command_of}
use Rattle.bitlines.proofs.Outputs.{not_read, fault_answered}
use Rattle.bitlines.proofs.program.answer_line.Goals as goal

pub returns-in-Err-NotACommand : goal.returns-in-Err-NotACommand
returns-in-Err-NotACommand c =
    let line = c.args.line.now in
    let none = not_read (may_lack line) action_of c.in-Err-NotACommand.field-0 (command_of line)
    (rw c.in-Err-NotACommand.is at c.in-Err-NotACommand.field-0-is)
    (rw c.in-Err-NotACommand.is at c.parse_line.ensures) in
    fault_answered c.extend_from_slice.result line _ _ c.args.sets.now none c.extend_from_slice.ensures.items
