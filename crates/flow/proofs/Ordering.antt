-- Lists with the same edges: part of one after a step, the whole list at the end, and what the solver says of either.
use Rattle.std.proofs.Common.{◌≡◌, ◌∙◌, ℕ, ◌<◌, ◌⊎◌, ◌∷◌, ◌++◌, [], List, inl, inr, IsTrue, refl, sym, ap}
use Rattle.std.proofs.Common.{eqb, length, get_or, map, subst, arith, ⊎_elim, zero-add, add-zero}
use Rattle.std.specs.Prelude.{Contains, IsPermutation}
use Rattle.std.specs.List.{range_with_len, remove, IsDistinct}
use Rattle.std.proofs.lemmas.Bool.{ne_eqb, eqb-false}
use Rattle.std.proofs.lemmas.Bool.Decides.{nat_tests}
use Rattle.std.proofs.lemmas.List.{append-nil, map-append, length-append, nil_from_length}
use Rattle.std.proofs.lemmas.List.{get_or_append_left, get_or-append-add}
use Rattle.std.proofs.lemmas.List.Elements.{All-weaker, All-contains, All-contains_itself}
use Rattle.std.proofs.lemmas.List.Elements.{Contains-get_or, Contains-push, Contains-push_cases}
use Rattle.std.proofs.lemmas.List.Elements.{Contains-append_left, Contains-append_right, Contains-append_cases}
use Rattle.std.proofs.lemmas.List.FromFn.{length-range_with_len, get_or-range_with_len, fill_by_all}
use Rattle.std.proofs.lemmas.List.Sorted.{IsPermutation-refl, IsPermutation-sym, IsPermutation-map, IsPermutation-more}
use Rattle.std.proofs.lemmas.List.Sorted.{Contains-permutation}
use Rattle.std.proofs.lemmas.Map.Keys.{IsDistinct-from_apart, IsDistinct-IsPermutation, apart_from_distinct}
use Rattle.fixedbitset.specs.Bits.{Bits, contains, insert, empty}
use Rattle.fixedbitset.specs.BitsFacts.{length-insert, length-empty, contains-empty}
use Rattle.fixedbitset.specs.MemberFacts.{in_insert}
use Rattle.flow.specs.Flow.{Edges, Sets, IsProblem, IsSolution, IsLeast, ComesOut, generated, along, ArePaths}
use Rattle.flow.specs.Order.{HaveSame}
use Rattle.flow.specs.Parts.{edge_at, IsPart}

-- ---- part of the edges

-- none of the edges
pub part_none : (edges : Edges) (taken : Bits) (list : Edges) → taken ≡ empty (length edges) → length list ≡ 0
    → IsPart edges taken list
part_none edges taken list none nil = record {
  long = rw none (length-empty (length edges));
  indices = [];
  others = range_with_len 0 (length edges);
  once = IsPermutation-refl _;
  marked =
      λ k below. (
        λ there. let within = there.1 in absurd (omega arith),
        λ has. let no = contains-empty (length edges) k in absurd (grind (arith, rw none at has, no)),
      );
  has = nil_from_length list nil;
}

-- each number below n is one of these
in_range : (n k : ℕ) → k < n → Contains (range_with_len 0 n) k
in_range n k below =
    subst (Contains (range_with_len 0 n)) (get_or-range_with_len 0 n k 0 below ∙ zero-add k)
    (Contains-get_or (range_with_len 0 n) k 0 (rw (length-range_with_len 0 n) below))

-- and no other number is
below_range : (n k : ℕ) → Contains (range_with_len 0 n) k → k < n
below_range n k there =
    let within = subst (λ m. there.0 < m) (length-range_with_len 0 n) there.1 in
    subst (λ m. m < n) (sym (zero-add there.0) ∙ sym (get_or-range_with_len 0 n there.0 k within) ∙ there.2) within

module _ (edges : Edges) (taken : Bits) (list : Edges) (part : IsPart edges taken list) where
  module _ (index : ℕ) (below : index < length edges) where
    -- an index is taken again
    pub part_same : IsTrue (contains taken index) → IsPart edges (insert taken index) list
    part_same there = record {
      long = length-insert taken index ∙ part.long;
      indices = part.indices;
      others = part.others;
      once = part.once;
      marked =
          λ k within. (
            λ has. (in_insert taken index k (rw part.long below)).1 (inr ((part.marked k within).0 has)),
            λ new.
                (part.marked k within).1
                (⊎_elim (λ (same : k ≡ index). rw same there) (λ old. old)
                ((in_insert taken index k (rw part.long below)).0 new)),
          );
      has = part.has;
    }

    -- or for the first time: then it is one of the others
    among_others : ¬ (IsTrue (contains taken index)) → Contains part.others index
    among_others new =
        ⊎_elim (λ has. absurd (new ((part.marked index below).0 has))) (λ other. other)
        (Contains-append_cases part.indices part.others index
        (Contains-permutation _ _ index part.once (in_range (length edges) index below)))

    pub part_more : ¬ (IsTrue (contains taken index))
        → IsPart edges (insert taken index) (list ++ edge_at edges index ∷ [])
    part_more new = let other = among_others new in record {
      long = length-insert taken index ∙ part.long;
      indices = part.indices ++ index ∷ [];
      others = remove part.others other.0;
      once = IsPermutation-more _ part.indices part.others other.0 index other.1 (sym other.2) part.once;
      marked =
          λ k within. (
            λ has.
                (in_insert taken index k (rw part.long below)).1
                (⊎_elim (λ old. inr ((part.marked k within).0 old)) (λ same. inl (sym same))
                (Contains-push_cases part.indices index k has)),
            λ now.
                ⊎_elim
                (λ (same : k ≡ index). rw same (Contains-push part.indices index))
                (λ old. Contains-append_left part.indices _ _ ((part.marked k within).1 old))
                ((in_insert taken index k (rw part.long below)).0 now),
          );
      has = rw (part.has, map-append (edge_at edges) part.indices (index ∷ [])) refl;
    }

    -- the index is taken then, and so is what was
    pub taken_more : (k : ℕ) → (IsTrue (contains taken k) ⊎ (k ≡ index)) → IsTrue (contains (insert taken index) k)
    taken_more k which =
        (in_insert taken index k (rw part.long below)).1
        (⊎_elim (λ old. inr old) (λ same. inl same) which)

eqb_flips : (a b : ℕ) → eqb a b ≡ eqb b a
eqb_flips a b = grind (arith, nat_tests)

-- the numbers below n are distinct, in each order
distinct_range : (n : ℕ) (ks : List ℕ) → IsPermutation (range_with_len 0 n) ks → IsDistinct eqb ks
distinct_range n ks order =
    IsDistinct-IsPermutation eqb eqb_flips (range_with_len 0 n) ks order
    (IsDistinct-from_apart eqb (range_with_len 0 n)
    (λ i j d less within.
    let short : j < n = rw (sym (length-range_with_len 0 n)) within in
    ne_eqb _ _
    (λ same.
    let is_i = get_or-range_with_len 0 n i d (omega arith) in
    let is_j = get_or-range_with_len 0 n j d short in
    absurd (omega arith))))

-- where each index is among the first ones, there are no others
no_others : (n : ℕ) (indices others : List ℕ) → IsPermutation (range_with_len 0 n) (indices ++ others)
    → ((k : ℕ) → k < n → Contains indices k) → others ≡ []
no_others n indices [] order all = refl
no_others n indices (x ∷ others) order all =
    let last : Contains (indices ++ x ∷ others) x =
    Contains-append_right indices (x ∷ others) x (0, omega arith, refl) in
    let below = below_range n x (Contains-permutation _ _ x (IsPermutation-sym _ _ order) last) in
    let first = all x below in
    let apart = apart_from_distinct eqb (indices ++ x ∷ others) first.0 (length indices) x
    (distinct_range n _ order) first.1 (omega (arith, length-append indices (x ∷ others))) in
    absurd
    (eqb-false _ _ apart
    (get_or_append_left indices (x ∷ others) x first.0 first.1 ∙ first.2
    ∙ sym (ap (λ k. get_or (indices ++ x ∷ others) k x) (sym (add-zero (length indices)))
    ∙ get_or-append-add indices (x ∷ others) 0 x)))

-- all of the edges
pub part_all : (edges : Edges) (taken : Bits) (list : Edges) → IsPart edges taken list
    → ((k : ℕ) → k < length edges → IsTrue (contains taken k)) → IsPermutation edges list
part_all edges taken list part all =
    let none = no_others (length edges) part.indices part.others part.once
    (λ k below. (part.marked k below).1 (all k below)) in
    let order : IsPermutation (range_with_len 0 (length edges)) part.indices =
    subst (IsPermutation (range_with_len 0 (length edges)))
    (ap (λ rest. part.indices ++ rest) none ∙ append-nil part.indices) part.once in
    let same : edges ≡ map (edge_at edges) (range_with_len 0 (length edges)) =
    fill_by_all (edge_at edges) edges (length edges) (0, 0) refl (λ k below. refl) in
    subst (λ it. IsPermutation it list) (sym same)
    (rw part.has (IsPermutation-map (edge_at edges) (range_with_len 0 (length edges)) part.indices order))

-- a list in another order has the same edges
pub same_edges : (edges list : Edges) → IsPermutation edges list → HaveSame list edges
same_edges edges list order edge = (
  λ there. Contains-permutation list edges edge (IsPermutation-sym edges list order) there,
  λ there. Contains-permutation edges list edge order there,
)

-- ---- the same edges in another order

module _ (other edges : Edges) (same : HaveSame other edges) (gens kills : Sets) where
  -- both ends are nodes
  abbrev IsBelow : ℕ × ℕ → Type 0
  IsBelow edge = (edge.0 < length gens) × (edge.1 < length gens)

  pub problem_same : (facts : ℕ) → IsProblem facts edges gens kills → IsProblem facts other gens kills
  problem_same facts problem = record {
    equally_many = problem.equally_many;
    gens_length = problem.gens_length;
    kills_length = problem.kills_length;
    edges_below =
        All-weaker (Contains other) IsBelow
        (λ e there. All-contains IsBelow edges e problem.edges_below ((same e).0 there)) other
        (All-contains_itself other);
  }

  pub solution_same : (ins outs : Sets) → IsSolution other gens kills ins outs → IsSolution edges gens kills ins outs
  solution_same ins outs solution = record {
    of_ins =
        λ v p within. (
          λ has. let found = (solution.of_ins v p within).0 has in (found.0, (same (found.0, v)).0 found.1, found.2),
          λ found. (solution.of_ins v p within).1 (found.0, (same (found.0, v)).1 found.1, found.2),
        );
    of_outs = solution.of_outs;
  }

  comes_same : (p v : ℕ) → ComesOut other gens kills p v → ComesOut edges gens kills p v
  comes_same p _ (generated v has) = generated v has
  comes_same p _ (along u v from edge spared) = along u v (comes_same p u from) ((same (u, v)).0 edge) spared

-- the other way round
turned : (other edges : Edges) → HaveSame other edges → HaveSame edges other
turned other edges same edge = ((same edge).1, (same edge).0)

module _ (other edges : Edges) (same : HaveSame other edges) (gens kills ins outs : Sets) where
  pub least_same : IsLeast other gens kills ins outs → IsLeast edges gens kills ins outs
  least_same least other_ins other_outs solution =
      least other_ins other_outs
      (solution_same edges other (turned other edges same) gens kills other_ins other_outs solution)

  pub paths_same : ArePaths other gens kills outs → ArePaths edges gens kills outs
  paths_same paths v p within = (
    λ has. comes_same other edges same gens kills p v ((paths v p within).0 has),
    λ from. (paths v p within).1 (comes_same edges other (turned other edges same) gens kills p v from),
  )
