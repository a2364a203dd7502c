use Rattle.std.proofs.Common.{⊎_elim, inl, inr}
use Rattle.fixedbitset.specs.MemberFacts.{in_union, in_intersection, same_subsets}
use Rattle.fixedbitset.specs.TwoSets.{union, intersection}
use Rattle.fixedbitset.specs.TwoSetsFacts.{is_subset-tells}
use Rattle.bitlaws.proofs.laws.subsets_are_ordered.Goals as goal

pub returns : goal.returns
returns c = record {
  of_itself = λ v. (is_subset-tells v v).1 (λ p one. one);
  through = λ u v w first second.
      (is_subset-tells u w).1 (λ p one. (is_subset-tells v w).0 second p ((is_subset-tells u v).0 first p one));
  same = same_subsets;
  union_is_least = λ v w. (
    (is_subset-tells v (union v w)).1 (λ p one. (in_union v w p).1 (inl one)),
    (is_subset-tells w (union v w)).1 (λ p one. (in_union v w p).1 (inr one)),
    λ u first second.
        (is_subset-tells (union v w) u).1 (λ p one.
        ⊎_elim ((is_subset-tells v u).0 first p) ((is_subset-tells w u).0 second p) ((in_union v w p).0 one)),
  );
  intersection_is_greatest = λ v w. (
    (is_subset-tells (intersection v w) v).1 (λ p one. ((in_intersection v w p).0 one).0),
    (is_subset-tells (intersection v w) w).1 (λ p one. ((in_intersection v w p).0 one).1),
    λ u first second.
        (is_subset-tells u (intersection v w)).1
        (λ p one.
        (in_intersection v w p).1 ((is_subset-tells u v).0 first p one, (is_subset-tells u w).0 second p one)),
  );
}
