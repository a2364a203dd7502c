-- How many nodes a set has, and how many edges these have, all together.
use Rattle.std.proofs.Common.{◌≡◌, ◌≢◌, ◌∙◌, ℕ, zero, suc, ◌+◌, ◌<◌, ◌≤◌, Bool, true, false, cond}
use Rattle.std.proofs.Common.{inl, inr, [], ◌∷◌, Vec, length, get_or, refl, sym, ap, arith, ⊎_elim}
use Rattle.std.specs.declared.alloc.Global.{Global}
use Rattle.std.proofs.lemmas.List.Sums.{sum_by-cons}
use Rattle.fixedbitset.specs.Bits.{Bits, contains, empty, insert}
use Rattle.fixedbitset.specs.Ranges.{count_ones}
use Rattle.fixedbitset.specs.BitsFacts.{contains-empty, length-empty}
use Rattle.uses.specs.Reach.{Graph, size, edges_from, edge_count}
use Rattle.fixedbitset.specs.MemberFacts.{in_insert}
use Rattle.fixedbitset.specs.NumbersFacts.{same_truth}
use Rattle.fixedbitset.specs.SizeFacts.{count_ones-empty, count_ones-insert}

-- how many edges lead from node a
pub degree : Graph → ℕ → ℕ
degree [] a = 0
degree (row ∷ rows) zero = length row.items
degree (row ∷ rows) (suc a) = degree rows a

pub degree_row : (graph : Graph) (a : ℕ) (row : Vec ℕ Global) → a < length graph → row ≡ get_or graph a row
    → degree graph a ≡ length row.items
unfolding degree
degree_row [] a row within is = absurd (omega arith)
degree_row (first ∷ rows) zero row within is = ap (λ (r : Vec ℕ Global). length r.items) (sym is)
degree_row (first ∷ rows) (suc a) row within is = degree_row rows a row (omega arith) is

part : (b : Bool) (n : ℕ) → cond b n 0 ≤ n
part true n = omega arith
part false n = omega arith

-- no more than there are
pub leaving_most : (v : Bits) (i : ℕ) (rows : Graph) → edges_from v i rows ≤ edge_count rows
unfolding edges_from
leaving_most v i [] = omega arith
leaving_most v i (row ∷ rows) =
    omega (
      arith,
      sum_by-cons (λ (r : Vec ℕ Global). length r.items) row rows,
      part (contains v i) (length row.items),
      leaving_most v (suc i) rows,
    )

leaving_none : (n i : ℕ) (rows : Graph) → edges_from (empty n) i rows ≡ 0
unfolding edges_from
leaving_none n i [] = refl
leaving_none n i (row ∷ rows) =
    omega (arith, ap (λ b. cond b (length row.items) 0) (contains-empty n i), leaving_none n (suc i) rows)

other : (v : Bits) (x i : ℕ) → x < v.length → i ≢ x → contains (insert v x) i ≡ contains v i
other v x i within ne =
    same_truth _ _ (λ one. ⊎_elim (λ e. absurd (ne e)) (λ old. old) ((in_insert v x i within).0 one))
    (λ old. (in_insert v x i within).1 (inr old))

leaving_kept : (v : Bits) (x i : ℕ) (rows : Graph) → x < v.length → x < i
    → edges_from (insert v x) i rows ≡ edges_from v i rows
unfolding edges_from
leaving_kept v x i [] within before = refl
leaving_kept v x i (row ∷ rows) within before =
    let ne : i ≢ x = omega arith in
    omega (
      arith,
      ap (λ b. cond b (length row.items) 0) (other v x i within ne),
      leaving_kept v x (suc i) rows within (omega arith),
    )

leaving_from : (v : Bits) (x i k : ℕ) (rows : Graph) → x < v.length → contains v x ≡ false → x ≡ i + k
    → edges_from (insert v x) i rows ≡ edges_from v i rows + degree rows k
unfolding edges_from degree
leaving_from v x i k [] within out at = refl
leaving_from v x i zero (row ∷ rows) within out at =
    let same : i ≡ x = omega arith in
    let new : contains (insert v x) i ≡ true = (in_insert v x i within).1 (inl same) in
    let old : contains v i ≡ false = ap (contains v) same ∙ out in
    omega (
      arith,
      ap (λ b. cond b (length row.items) 0) new,
      ap (λ b. cond b (length row.items) 0) old,
      leaving_kept v x (suc i) rows within (omega arith),
    )
leaving_from v x i (suc k) (row ∷ rows) within out at =
    let ne : i ≢ x = omega arith in
    omega (
      arith,
      ap (λ b. cond b (length row.items) 0) (other v x i within ne),
      leaving_from v x (suc i) k rows within out (omega arith),
    )

-- one node more
pub leaving_more : (graph : Graph) (v : Bits) (x : ℕ) → x < v.length → contains v x ≡ false
    → edges_from (insert v x) 0 graph ≡ edges_from v 0 graph + degree graph x
leaving_more graph v x within out = leaving_from v x 0 x graph within out (omega arith)

pub leaving_first : (graph : Graph) (x : ℕ) → x < length graph
    → edges_from (insert (empty (length graph)) x) 0 graph ≡ degree graph x
leaving_first graph x within =
    let e = length-empty (length graph) in
    let more = leaving_more graph (empty (length graph)) x (omega arith) (contains-empty (length graph) x) in
    let none = leaving_none (length graph) 0 graph in
    omega arith

-- one node alone
pub size_first : (n x : ℕ) → x < n → size (insert (empty n) x) ≡ 1
size_first n x within =
    let long = length-empty n in
    let none : size (empty n) ≡ 0 = ap (count_ones (empty n) 0) long ∙ count_ones-empty n in
    omega (arith, count_ones-insert (empty n) x (omega arith) (contains-empty n x), none)
