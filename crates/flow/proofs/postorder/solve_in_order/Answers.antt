use Rattle.std.proofs.lemmas.Result.{IfOk-weaker}
use Rattle.flow.proofs.Ordering.{problem_same, solution_same, least_same, paths_same}
use Rattle.flow.proofs.postorder.solve_in_order.Goals as goal

pub solve-requires : goal.solve-requires
solve-requires c =
    rw c.deref.ensures.value (problem_same _ _ c.in_ok-ordered.ensures.same _ _ c.args.facts c.requires)

pub returns-clause-solves : goal.returns-clause-solves
returns-clause-solves c =
    IfOk-weaker c.solve.result _ _
    (λ answer. solution_same _ c.args.edges.now (rw c.deref.ensures.value c.in_ok-ordered.ensures.same) _ _ _ _)
    c.solve.ensures.solves

pub returns-clause-least : goal.returns-clause-least
returns-clause-least c =
    IfOk-weaker c.solve.result _ _
    (λ answer. least_same _ c.args.edges.now (rw c.deref.ensures.value c.in_ok-ordered.ensures.same) _ _ _ _)
    c.solve.ensures.least

pub returns-clause-paths : goal.returns-clause-paths
returns-clause-paths c =
    IfOk-weaker c.solve.result _ _
    (λ answer.
    paths_same _ c.args.edges.now (rw c.deref.ensures.value c.in_ok-ordered.ensures.same) _ _ answer.ins.items _)
    c.solve.ensures.paths
