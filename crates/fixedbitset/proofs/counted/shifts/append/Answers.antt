use Rattle.std.proofs.Common.{◌≡◌, ◌+◌, ◌∙◌, ap, arith}
use Rattle.fixedbitset.specs.BitsFacts.{length-grow}
use Rattle.std.proofs.lemmas.Grind.{common_steps}
use Rattle.fixedbitset.proofs.Moves.{append_grown}
use Rattle.fixedbitset.proofs.counted.shifts.append.Goals as goal

pub returns-clause-cost : goal.returns-clause-cost
returns-clause-cost c =
    let long : c.grow.new.self.length ≡ c.args.set.now.length + c.args.other.now.length =
    ap (λ v. v.length) c.in_ok-grow.ensures.ok ∙ length-grow c.args.set.now _ ∙ omega arith in
    cc (c.union_with_shifted.ensures.cost, long)

pub returns-clause-ok : goal.returns-clause-ok
returns-clause-ok c = grind (arith, common_steps, append_grown)
