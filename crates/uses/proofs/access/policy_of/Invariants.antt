use Rattle.std.proofs.Common.{◌≡◌, length, take}
use Rattle.uses.specs.Faults.{AreAll}
use Rattle.uses.specs.AccessLines.{IsGrant, HasGrants}
use Rattle.uses.proofs.access.policy_of.Given as goal

abbrev pub invariant-loop-row : goal.invariant-loop-row
invariant-loop-row l = record {
  roles : length l.policy.roles ≡ l.roles;
  rights : l.policy.rights ≡ l.rights;
  grants : HasGrants (take l.row-index l.rows) l.policy;
  each : AreAll (IsGrant l.roles l.rights) (take l.row-index l.rows);
}
