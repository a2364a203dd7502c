use Rattle.std.proofs.Common.{◌≡◌, sym, ◌∙◌, ap, arith}
use Rattle.fixedbitset.specs.BitsFacts.{contains_below}
use Rattle.fixedbitset.specs.FirstFacts.{minimum_least}
use Rattle.test_callers.proofs.loops.without_least.Goals as goal

pub remove-requires : goal.remove-requires
remove-requires c =
    let one = (minimum_least c.args.set.now c.in-Some.least (sym c.minimum.ensures ∙ c.in-Some.is)).0 in
    let long = ap (λ v. v.length) c.in_ok-copy.ensures.cases in
    omega (arith, long, contains_below c.args.set.now c.in-Some.least one)
