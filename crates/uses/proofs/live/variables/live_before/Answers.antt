use Rattle.std.proofs.Common.{◌∙◌, sym, subst}
use Rattle.flow.specs.Flow.{IsProblem, ArePaths}
use Rattle.uses.proofs.Backwards.{turned, turned_problem, live_exactly}
use Rattle.uses.proofs.live.variables.live_before.Goals as goal

pub solve_in_order-requires : goal.solve_in_order-requires
solve_in_order-requires c =
    subst (λ edges. IsProblem c.args.variables edges c.args.uses.now c.args.defines.now)
    (sym (c.deref.ensures.value ∙ c.in_ok-back.ensures))
    (turned_problem c.args.variables c.args.next.now c.args.uses.now c.args.defines.now c.requires)

pub returns-clause-live : goal.returns-clause-live
returns-clause-live c s x below =
    let paths : ArePaths (turned c.args.next.now) c.args.uses.now c.args.defines.now c.in_ok-outs.field-0.outs.items =
    subst (λ edges. ArePaths edges c.args.uses.now c.args.defines.now c.in_ok-outs.field-0.outs.items)
    (c.deref.ensures.value ∙ c.in_ok-back.ensures) c.in_ok-outs.ensures.paths
    in
    let out = paths s x below in
    let same = live_exactly c.args.next.now c.args.uses.now c.args.defines.now x s in
    (λ has. same.0 (out.0 has), λ is_live. out.1 (same.1 is_live))
