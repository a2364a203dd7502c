use Rattle.std.proofs.Common.{sym, ap, subst}
use Rattle.std.proofs.Common.{List}
use Rattle.fixedbitset.specs.Bits.{Bits}
use Rattle.uses.specs.Policies.{Rights}
use Rattle.uses.proofs.Granted.{In, right_below}
use Rattle.uses.proofs.access.policies.Policy.rights.Goals as goal

pub returns-clause-all : goal.returns-clause-all
returns-clause-all c role right has =
    right_below c.self.inside.rights c.self.inside.roles.items role right c.self.invariant
    (subst (λ (sets : List Bits). In sets role right) (sym (ap (λ (p : Rights). p.roles) c.self.view_is)) has)
