-- The complements of what is lost on some path: they hold on all paths.
use Rattle.std.proofs.Common.{◌≡◌, ℕ, zero, suc, ◌<◌, ◌↔◌, ◌∷◌, [], refl, length, ap, arith, ⊎_elim}
use Rattle.std.specs.Prelude.{Contains, map}
use Rattle.std.proofs.lemmas.Bool.Decides.{nat_tests}
use Rattle.std.proofs.lemmas.List.Elements.{All-contains}
use Rattle.fixedbitset.specs.Bits.{Bits, empty, complement}
use Rattle.fixedbitset.specs.BitsFacts.{contains-complement}
use Rattle.fixedbitset.specs.TwoSets.{difference}
use Rattle.fixedbitset.specs.TwoSetsFacts.{contains-difference}
use Rattle.flow.specs.Flow.{Edges, Sets, at, Has, HaveLength, IsProblem, IsFor, IsSolution}
use Rattle.flow.specs.Flow.{ComesOut, generated, along, ArePaths}
use Rattle.bitlaws.specs.FlowLaws.{IsSolutionOfAll, IsGreatest, lost, complements}

-- ---- the set of a node

at-map : (f : Bits → Bits) (sets : Sets) (v : ℕ) → v < length sets → at (map f sets) v ≡ f (at sets v)
at-map f [] v within = absurd (omega arith)
at-map f (set ∷ sets) zero within = refl
at-map f (set ∷ sets) (suc v) within = at-map f sets v (omega arith)

at-lost : (gens kills : Sets) (v : ℕ) → v < length gens → v < length kills
    → at (lost gens kills) v ≡ difference (at kills v) (at gens v)
at-lost [] kills v within _ = absurd (omega arith)
at-lost (gen ∷ gens) [] v _ within = absurd (omega arith)
at-lost (gen ∷ gens) (kill ∷ kills) zero _ _ = refl
at-lost (gen ∷ gens) (kill ∷ kills) (suc v) a b = at-lost gens kills v (omega arith) (omega arith)

in_lost : (gens kills : Sets) (v p : ℕ) → v < length gens → length gens ≡ length kills
    → Has (lost gens kills) v p ↔ (Has kills v p × ¬ (Has gens v p))
in_lost gens kills v p within many =
    let made = at-lost gens kills v within (omega arith) in
    let two = contains-difference (at kills v) (at gens v) p in
    grind (arith, made, two)

in_complements : (facts : ℕ) (sets : Sets) (v p : ℕ) → HaveLength facts sets → v < length sets → p < facts
    → Has (complements sets) v p ↔ ¬ (Has sets v p)
in_complements facts sets v p long within below =
    let made = at-map complement sets v within in
    let is = contains-complement (at sets v) p in
    let own = long v (empty 0) within in
    grind (arith, nat_tests, made, is, own)

many-lost : (gens kills : Sets) → length gens ≡ length kills → length (lost gens kills) ≡ length gens
many-lost [] [] _ = refl
many-lost [] (kill ∷ kills) many = refl
many-lost (gen ∷ gens) [] many = absurd (omega arith)
many-lost (gen ∷ gens) (kill ∷ kills) many = ap suc (many-lost gens kills (omega arith))

module _ (facts : ℕ) (edges : Edges) (gens kills ins outs : Sets) (problem : IsProblem facts edges gens kills)
    (ins_for : IsFor gens facts ins) (outs_for : IsFor gens facts outs)
    (solution : IsSolution edges (lost gens kills) gens ins outs) where
  starts : (u v : ℕ) → Contains edges (u, v) → u < length gens
  starts u v edge =
      (All-contains (λ e. (e.0 < length gens) × (e.1 < length gens)) edges (u, v) problem.edges_below edge).0

  node : (v : ℕ) → v < length gens → v < length (lost gens kills)
  node v within = let many = many-lost gens kills problem.equally_many in omega arith

  of_ins : (v p : ℕ) → v < length gens → p < facts → Has (complements ins) v p ↔ ¬ (Has ins v p)
  of_ins v p within below = let many = ins_for.0 in in_complements facts ins v p ins_for.1 (omega arith) below

  of_outs : (v p : ℕ) → v < length gens → p < facts → Has (complements outs) v p ↔ ¬ (Has outs v p)
  of_outs v p within below = let many = outs_for.0 in in_complements facts outs v p outs_for.1 (omega arith) below

  -- the complements solve the equations over all paths
  pub solved : IsSolutionOfAll facts edges gens kills (complements ins) (complements outs)
  solved = record {
    of_ins = λ v p within below. (
      λ none u edge.
          (of_outs u p (starts u v edge) below).1
          (λ has. (of_ins v p within below).0 none ((solution.of_ins v p (node v within)).1 (u, edge, has))),
      λ all. (of_ins v p within below).1 (λ has.
          let from = (solution.of_ins v p (node v within)).0 has in
          (of_outs from.0 p (starts from.0 v from.1) below).0 (all from.0 from.1) from.2),
    );
    of_outs = λ v p within below.
        let in_set = of_ins v p within below in
        let out_set = of_outs v p within below in
        let own = solution.of_outs v p (node v within) in
        let gone = in_lost gens kills v p within problem.equally_many in
        grind (arith, in_set, out_set, own, gone);
  }

  module _ (paths : ArePaths edges (lost gens kills) gens outs) (other_ins other_outs : Sets)
      (other : IsSolutionOfAll facts edges gens kills other_ins other_outs) (p : ℕ) (below : p < facts) where
    -- what is lost on the way to a node is in no solution over all paths
    none_out : (v : ℕ) → v < length gens → ComesOut edges (lost gens kills) gens p v → ¬ (Has other_outs v p)
    none_out _ within (generated v has) there =
        let gone = (in_lost gens kills v p within problem.equally_many).0 has in
        ⊎_elim (λ gen. gone.1 gen) (λ came. came.1 gone.0) ((other.of_outs v p within below).0 there)
    none_out _ within (along u v from edge spared) there =
        ⊎_elim
        (λ gen. spared gen)
        (λ came. none_out u (starts u v edge) from ((other.of_ins v p within below).0 came.0 u edge))
        ((other.of_outs v p within below).0 there)

    outs_within : (v : ℕ) → v < length gens → Has other_outs v p → Has (complements outs) v p
    outs_within v within there =
        (of_outs v p within below).1 (λ has. none_out v within ((paths v p (node v within)).0 has) there)

    ins_within : (v : ℕ) → v < length gens → Has other_ins v p → Has (complements ins) v p
    ins_within v within there = (of_ins v p within below).1 (λ has.
        let from = (solution.of_ins v p (node v within)).0 has in
        let u_within = starts from.0 v from.1 in
        none_out from.0 u_within ((paths from.0 p (node from.0 u_within)).0 from.2)
        ((other.of_ins v p within below).0 there from.0 from.1))

  pub greatest : ArePaths edges (lost gens kills) gens outs
      → IsGreatest facts edges gens kills (complements ins) (complements outs)
  greatest paths other_ins other_outs other v p within below = (
    ins_within paths other_ins other_outs other p below v within,
    outs_within paths other_ins other_outs other p below v within,
  )
