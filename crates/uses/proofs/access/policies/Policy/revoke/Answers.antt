use Rattle.std.proofs.Common.{◌∙◌, ◌<◌, length, ap, arith}
use Rattle.fixedbitset.specs.Bits.{Bits}
use Rattle.fixedbitset.specs.BitsFacts.{length-remove}
use Rattle.uses.specs.Policies.{Rights}
use Rattle.uses.proofs.Granted.{sized_after, revoked}
use Rattle.uses.proofs.access.policies.Policy.revoke.Goals as goal

pub invariant_of-self : goal.invariant_of-self
invariant_of-self c =
    let roles = ap (λ (p : Rights). length p.roles) c.self.view_is in
    sized_after c.self.inside.rights c.self.inside.roles.items _ c.index_mut.result.now c.remove.new.self
    c.index_mut.ensures.value (omega (arith, c.requires.role))
    (ap (λ (s : Bits). s.length) c.remove.ensures ∙ length-remove _ _) c.self.invariant

pub returns-clause-revoked : goal.returns-clause-revoked
returns-clause-revoked c =
    let same = ap (λ (p : Rights). p.roles) c.self.view_is in
    let roles = ap length same in
    let within : c.args.role < length c.self.inside.roles.items = omega (arith, c.requires.role) in
    rw c.remove.ensures (revoked c.args.self.now c.self.inside.roles.items c.args.role c.args.right
    c.index_mut.result.now same within c.index_mut.ensures.value)
