use Rattle.std.proofs.Common.{◌<◌, length, ap, arith}
use Rattle.uses.specs.Policies.{Rights}
use Rattle.uses.proofs.Granted.{missed}
use Rattle.uses.proofs.access.policies.Policy.missing.Goals as goal

pub returns : goal.returns
returns c =
    let same = ap (λ (p : Rights). p.roles) c.self.view_is in
    let roles = ap length same in
    let within : c.args.role < length c.self.inside.roles.items = omega (arith, c.requires) in
    missed c.args.self.now c.self.inside.roles.items c.args.role 0 c.index.result.now same within c.index.ensures
    c.args.asked.now c.first_lacking.result c.first_lacking.ensures
