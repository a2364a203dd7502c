use Rattle.std.proofs.Common.{◌∙◌, sym, arith, ⊎_elim}
use Rattle.flow.proofs.Ordering.{part_same, part_more, taken_more}
use Rattle.flow.proofs.postorder.Part.take.Goals as goal
use Rattle.flow.proofs.postorder.Part.take.Goals.{then-index-edges-via-then-index-edges}
use Rattle.flow.proofs.postorder.Part.take.Goals.{then-index-edges-via-else-index-edges+then-put}

pub returns-then-index-edges-clause-part : goal.returns-then-index-edges-clause-part
returns-then-index-edges-clause-part c =
    elim c.then-index-edges.branch [
      | then-index-edges-via-then-index-edges w ↦ rw w.self-is c.requires
      | then-index-edges-via-else-index-edges+then-put w ↦
          rw (w.self-is, w.put.ensures.after)
          (part_same _ _ _ c.requires _ (omega arith) (sym w.put.ensures.before ∙ w.if-put.true))
    ]

pub returns-then-index-edges-clause-taken : goal.returns-then-index-edges-clause-taken
returns-then-index-edges-clause-taken c =
    elim c.then-index-edges.branch [
      | then-index-edges-via-then-index-edges w ↦
          rw w.self-is (λ k within which. ⊎_elim (λ old. old) (λ same. absurd (omega arith)) which)
      | then-index-edges-via-else-index-edges+then-put w ↦
          rw (w.self-is, w.put.ensures.after) (λ k within which. taken_more _ _ _ c.requires _ (omega arith) k which)
    ]

pub returns-clause-part : goal.returns-clause-part
returns-clause-part c =
    rw (c.put.ensures.after, c.in_ok-push.ensures.items)
    (part_more _ _ _ c.requires _ (omega arith)
    (λ has. absurd (grind (arith, c.put.ensures.before, c.if-put.false, has))))

pub returns-clause-taken : goal.returns-clause-taken
returns-clause-taken c =
    rw c.put.ensures.after (λ k within which. taken_more _ _ _ c.requires _ (omega arith) k which)
