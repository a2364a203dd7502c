use Rattle.std.proofs.Common.{length, take}
use Rattle.uses.specs.Faults.{AreAll}
use Rattle.uses.specs.AccessLines.{IsGrant, IsWithout}
use Rattle.uses.specs.Policies.{HaveSameSize}
use Rattle.uses.proofs.access.deny.Given as goal

abbrev pub invariant-loop-row : goal.invariant-loop-row
invariant-loop-row l = record {
  size : HaveSameSize l.fn.policy l.policy;
  denied : IsWithout (take l.row-index l.rows) l.fn.policy l.policy;
  each : AreAll (IsGrant (length l.fn.policy.roles) l.fn.policy.rights) (take l.row-index l.rows);
}
