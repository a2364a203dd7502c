use Rattle.std.proofs.Common.{take}
use Rattle.uses.specs.Sets.{AreBelow, IsSetOf}
use Rattle.uses.proofs.text.sets.set_of.Given as goal

abbrev pub invariant-loop-position : goal.invariant-loop-position
invariant-loop-position l = record {
  below : AreBelow l.length (take l.position-index l.positions);
  set : IsSetOf l.length (take l.position-index l.positions) l.set;
}
