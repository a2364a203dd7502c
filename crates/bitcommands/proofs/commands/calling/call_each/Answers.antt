use Rattle.std.proofs.Common.{arith, refl}
use Rattle.std.proofs.lemmas.Grind.{common_steps}
use Rattle.bitcommands.proofs.Calls.{calls_more, calls_end}
use Rattle.bitcommands.proofs.commands.calling.call_each.Goals as goal

pub loop-end-init : goal.loop-end-init
loop-end-init g c = record {
  so_far = rw c.requires.empty refl;
  len = grind (arith, common_steps);
  room = c.requires.room;
}

pub loop-end-preserved : goal.loop-end-preserved
loop-end-preserved g c = record {
  so_far = rw (
    c.push.ensures.items,
    c.unwrap.ensures,
  ) (calls_more _ _ _ _ _ _ _ _ c.loop-end.invariant.so_far c.loop-end-test.true c.call-item.ensures.item
      c.call-item.ensures.left);
  len = grind (arith, common_steps);
  room = omega arith;
}

pub returns : goal.returns
returns g c = calls_end _ _ _ _ _ c.loop-end.invariant.so_far c.loop-end-test.false
