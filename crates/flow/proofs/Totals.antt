-- How many facts the sets have: no more than all, and more where something new went along an edge.
use Rattle.std.proofs.Common.{◌≡◌, ◌∙◌, ℕ, zero, suc, ◌+◌, ◌*◌, ◌<◌, ◌≤◌, Bool, true, cond}
use Rattle.std.proofs.Common.{IsTrue, List, [], ◌∷◌, length, get_or, arith, ⊎_elim, zero-add}
use Rattle.std.specs.Prelude.{count_by}
use Rattle.std.specs.List.{range_with_len}
use Rattle.std.proofs.lemmas.Bool.{cases_lt}
use Rattle.std.proofs.lemmas.List.Sums.{sum_by-cons, sum_by-set, sum_by-le, sum_by-le-sum_by, count_by-le-length}
use Rattle.std.proofs.lemmas.List.FromFn.{length-range_with_len, get_or-range_with_len}
use Rattle.fixedbitset.specs.Bits.{Bits, contains, empty}
use Rattle.fixedbitset.specs.BitsFacts.{contains_below}
use Rattle.fixedbitset.specs.TwoSets.{union}
use Rattle.fixedbitset.specs.TwoSetsFacts.{contains-union}
use Rattle.flow.specs.Flow.{Sets, at}
use Rattle.flow.specs.Turns.{total, ins_after, IsPassed}

abbrev one_if : Bool → ℕ
one_if b = cond b 1 0

-- a test that passes more counts no fewer, and where it counts no more, it passes no more
both_counts : (a b : Bool) (m n : ℕ) → (a ≡ true → b ≡ true) → m ≤ n → one_if b + n ≤ one_if a + m
    → (n ≤ m) × (b ≡ true → a ≡ true)
both_counts a b m n more le counts = grind arith

module _ (f g : ℕ → Bool) (more : (p : ℕ) → IsTrue (f p) → IsTrue (g p)) where
  count_more : (xs : List ℕ) → count_by f xs ≤ count_by g xs
  count_more xs =
      sum_by-le-sum_by (λ y. one_if (f y)) (λ y. one_if (g y)) xs (λ y. let now = more y in grind (arith, now))

  count_same : (xs : List ℕ) → count_by g xs ≤ count_by f xs → (k : ℕ) → k < length xs → IsTrue (g (get_or xs k 0))
      → IsTrue (f (get_or xs k 0))
  count_same [] le k within pass = absurd (omega arith)
  count_same (x ∷ xs) le k within pass =
      let parts = both_counts (f x) (g x) _ _ (more x) (count_more xs)
      (omega (arith, sum_by-cons (λ y. one_if (f y)) x xs, sum_by-cons (λ y. one_if (g y)) x xs)) in
      elim k as (λ i. i < length (x ∷ xs) → IsTrue (g (get_or (x ∷ xs) i 0)) → IsTrue (f (get_or (x ∷ xs) i 0))) [
        | zero ↦ λ _. parts.1
        | suc i ↦ λ below. count_same xs parts.0 i (omega arith)
      ] within pass

-- how many of the facts a set has
size : ℕ → Bits → ℕ
size facts set = count_by (contains set) (range_with_len 0 facts)

-- it has more with another set that has something else
size_more : (facts : ℕ) (v w : Bits) → w.length ≡ facts → ¬ ((p : ℕ) → IsTrue (contains w p) → IsTrue (contains v p))
    → size facts v < size facts (union v w)
unfolding size
size_more facts v w same apart =
    ⊎_elim
    (λ (less : size facts v < size facts (union v w)). less)
    (λ (le : size facts (union v w) ≤ size facts v).
    absurd
    (apart (λ p has.
    let below = contains_below w p has in
    let here : get_or (range_with_len 0 facts) p 0 ≡ p = get_or-range_with_len 0 facts p 0 (omega arith) ∙ zero-add p in
    let kept = count_same (contains v) (contains (union v w)) (λ q old. grind (arith, contains-union v w q))
    (range_with_len 0 facts) le p (omega (arith, length-range_with_len)) in
    grind (arith, contains-union v w p, kept, here))))
    (cases_lt (size facts v) (size facts (union v w)))

-- what new goes along an edge makes the total greater
pub total_more : (facts : ℕ) (ins outs : Sets) (u v : ℕ) → v < length ins → (at outs u).length ≡ facts
    → ¬ (IsPassed ins outs (u, v)) → total facts ins < total facts (ins_after ins outs u v)
unfolding total ins_after size
total_more facts ins outs u v within same apart =
    omega (
      arith,
      sum_by-set (size facts) ins v (union (at ins v) (at outs u)) (empty 0) within,
      size_more facts (at ins v) (at outs u) same apart,
    )

-- there are no more than all facts of all nodes
pub total_all : (facts : ℕ) (sets : Sets) → total facts sets ≤ length sets * facts
unfolding total
total_all facts sets =
    sum_by-le _ facts sets (λ k d within.
    omega (arith, length-range_with_len, count_by-le-length (contains (get_or sets k d)) (range_with_len 0 facts)))
