use Rattle.std.proofs.Common.{◌≡◌, min, length, All}
use Rattle.uses.proofs.Granted.{AreBoth}
use Rattle.uses.proofs.access.policies.Policy.both.Given as goal

abbrev pub invariant-loop-role : goal.invariant-loop-role
invariant-loop-role l = record {
  many : length l.roles.items ≡ l.role;
  sized : All (λ role. role.length ≡ min l.self-inside.rights l.other-inside.rights) l.roles.items;
  both : AreBoth l.self-inside.roles.items l.other-inside.roles.items l.roles.items;
}
