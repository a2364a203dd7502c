use Rattle.std.proofs.Common.{◌∙◌, ◌<◌, length, ap, arith}
use Rattle.fixedbitset.specs.Bits.{Bits}
use Rattle.fixedbitset.specs.BitsFacts.{length-insert}
use Rattle.uses.specs.Policies.{Rights}
use Rattle.uses.proofs.Granted.{sized_after, granted}
use Rattle.uses.proofs.access.policies.Policy.grant.Goals as goal

pub invariant_of-self : goal.invariant_of-self
invariant_of-self c =
    let roles = ap (λ (p : Rights). length p.roles) c.self.view_is in
    sized_after c.self.inside.rights c.self.inside.roles.items _ c.index_mut.result.now c.insert.new.self
    c.index_mut.ensures.value (omega (arith, c.requires.role))
    (ap (λ (s : Bits). s.length) c.insert.ensures ∙ length-insert _ _) c.self.invariant

pub returns-clause-granted : goal.returns-clause-granted
returns-clause-granted c =
    let same = ap (λ (p : Rights). p.roles) c.self.view_is in
    let roles = ap length same in
    let rights = ap (λ (p : Rights). p.rights) c.self.view_is in
    let within : c.args.role < length c.self.inside.roles.items = omega (arith, c.requires.role) in
    let long =
    ap (λ (s : Bits).
    s.length) c.index_mut.ensures.value ∙ c.self.invariant c.args.role c.index_mut.result.now within in
    let below : c.args.right < c.index_mut.result.now.length = omega (arith, c.requires.right) in
    rw c.insert.ensures (granted c.args.self.now c.self.inside.roles.items c.args.role c.args.right
    c.index_mut.result.now same within c.index_mut.ensures.value below)
