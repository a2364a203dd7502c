use Rattle.std.proofs.Common.{rules}
use Rattle.bitcommands.proofs.commands.changing.copy_bit.Goals as goal

pub returns-in_err-check_position : goal.returns-in_err-check_position
returns-in_err-check_position c = search rules steps 300000
