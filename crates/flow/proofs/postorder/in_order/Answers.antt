use Rattle.std.proofs.Common.{inl, inr, arith, ⊎_elim}
use Rattle.std.proofs.lemmas.Bool.{cases_lt}
use Rattle.flow.proofs.Ordering.{part_none, part_all, same_edges}
use Rattle.flow.proofs.postorder.in_order.Goals as goal

pub take_all-requires : goal.take_all-requires
take_all-requires c = part_none _ _ _ c.in_ok-part.ensures.taken c.in_ok-part.ensures.list

pub loop-index-init : goal.loop-index-init
loop-index-init c = record {
  part = c.in_ok-take_all-2.ensures;
  all = λ k below. absurd (omega arith);
}

pub loop-index-preserved : goal.loop-index-preserved
loop-index-preserved c = record {
  part = c.in_ok-take.ensures.part;
  all =
      λ k below.
      c.in_ok-take.ensures.taken k (omega arith)
      (⊎_elim (λ lt. inl (c.loop-index.invariant.all k lt)) (λ le. inr (omega arith)) (cases_lt k c.loop-index.index));
}

pub returns-clause-permutation : goal.returns-clause-permutation
returns-clause-permutation c =
    part_all _ _ _ c.loop-index.invariant.part (λ k below. c.loop-index.invariant.all k (omega arith))

pub returns-clause-same : goal.returns-clause-same
returns-clause-same c =
    same_edges _ _ (part_all _ _ _ c.loop-index.invariant.part (λ k below. c.loop-index.invariant.all k (omega arith)))
