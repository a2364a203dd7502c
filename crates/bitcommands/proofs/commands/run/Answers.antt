use Rattle.std.proofs.Common.{arith, rules}
use Rattle.std.proofs.lemmas.Grind.{common_steps}
use Rattle.bitcommands.proofs.Runs.{Run_more}
use Rattle.bitcommands.proofs.commands.run.Goals as goal

pub loop-command-preserved : goal.loop-command-preserved
loop-command-preserved c = record {
  run =
      rw c.in_ok-push.ensures.items (Run_more _ _ _ _ _ _ _ _ _ c.loop-command-test.true c.command-item.is
      c.loop-command.invariant.run c.apply-reply.ensures);
  len = grind (arith, common_steps);
  room = omega arith;
}

pub loop-command-init : goal.loop-command-init
loop-command-init c = search rules steps 300000
