use Rattle.std.proofs.Common.{ap}
use Rattle.bitcommands.specs.Actions.{action_of}
use Rattle.bitcommands.proofs.Runs.{step_as}
use Rattle.bitcommands.proofs.commands.apply.Goals as goal

pub returns-in-Make : goal.returns-in-Make
returns-in-Make c = step_as c.args.limit _ _ _ _ _ _ (ap action_of c.in-Make.is) c.reply_of.ensures c.apply_make.ensures

pub returns-in-Look : goal.returns-in-Look
returns-in-Look c =
    step_as c.args.limit _ _ _ _ _ _ (ap action_of c.in-Look.is) c.reply_of-in-Look.ensures c.apply_look.ensures

pub returns-in-Change : goal.returns-in-Change
returns-in-Change c =
    step_as c.args.limit _ _ _ _ _ _ (ap action_of c.in-Change.is) c.reply_of-in-Change.ensures c.apply_change.ensures

pub returns-in-Ranged : goal.returns-in-Ranged
returns-in-Ranged c =
    step_as c.args.limit _ _ _ _ _ _ (ap action_of c.in-Ranged.is) c.reply_of-in-Ranged.ensures c.apply_ranged.ensures

pub returns-in-Whole : goal.returns-in-Whole
returns-in-Whole c =
    step_as c.args.limit _ _ _ _ _ _ (ap action_of c.in-Whole.is) c.reply_of-in-Whole.ensures c.apply_whole.ensures

pub returns-in-Compare : goal.returns-in-Compare
returns-in-Compare c =
    step_as c.args.limit _ _ _ _ _ _ (ap action_of c.in-Compare.is) c.reply_of-in-Compare.ensures
    c.apply_compare.ensures

pub returns-in-Walk : goal.returns-in-Walk
returns-in-Walk c =
    step_as c.args.limit _ _ _ _ _ _ (ap action_of c.in-Walk.is) c.reply_of-in-Walk.ensures c.apply_walk.ensures
