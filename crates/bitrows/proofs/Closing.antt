-- The closure of a table: whether a path leads from one node to another whose nodes between its ends are all below a
-- bound, and a table on its way, with a pass for each node, and in a pass the rows one after the other.
use Rattle.std.proofs.Common.{◌≡◌, ◌∙◌, ℕ, zero, suc, ◌+◌, ◌-◌, ◌*◌, ◌<◌, ◌≤◌, ◌↔◌, Bool, true, false, ◌&&◌, ◌||◌}
use Rattle.std.proofs.Common.{IsTrue, All, min, [], ◌∷◌, length, sum_by, refl, sym, ap, subst, arith, ⊎_elim}
use Rattle.std.proofs.Common.{add-one, zero-add}
use Rattle.std.specs.List.{range_with_len}
use Rattle.std.proofs.lemmas.Bool.{or_cases, or_left, and_parts, false_from_ne_true}
use Rattle.std.proofs.lemmas.Bool.Decides.{nat_tests}
use Rattle.std.proofs.lemmas.List.FromFn.{length-range_with_len}
use Rattle.std.proofs.lemmas.List.Sums.{sum_by-append, sum_by-le}
use Rattle.bitwords.specs.Rows.{count_below}
use Rattle.bitwords.specs.CountFacts.{indicator, range-push, count-suc, count-none, count-le}
use Rattle.fixedbitset.specs.TwoSets.{union}
use Rattle.bitrows.specs.Tables.{Table, row_of, has, with_row}
use Rattle.bitrows.specs.TableFacts.{has-past, has_row, has_below, has-joined}
use Rattle.bitrows.specs.Paths.{HasPath, HasEdge, IsConnected, HasPathBelow, IsConnectedBelow, IsPairCount}

-- ---- the paths

-- with no bound an edge; with one node more below it, a path that avoids this
-- node, or one to it and one from it that do
abbrev pub through : (ℕ → ℕ → Bool) → ℕ → ℕ → ℕ → Bool
through edge zero a b = edge a b
through edge (suc k) a b = through edge k a b || (through edge k a k && through edge k k b)

module _ (edge : ℕ → ℕ → Bool) where
  abbrev Edge : ℕ → ℕ → Type 0
  Edge a b = IsTrue (edge a b)

  through_edge : (k a b : ℕ) → edge a b ≡ true → through edge k a b ≡ true
  through_edge zero a b one = one
  through_edge (suc k) a b one = or_left _ _ (through_edge k a b one)

  -- two paths that meet below the bound
  meet_next : (k c a b : ℕ)
      → ((x y : ℕ) → c < k → through edge k x c ≡ true → through edge k c y ≡ true → through edge k x y ≡ true)
      → c < suc k → through edge (suc k) a c ≡ true → through edge (suc k) c b ≡ true → through edge (suc k) a b ≡ true
  meet_next k c a b meets below to from = grind (arith, nat_tests, meets a b, meets a k, meets k b)

  meet : (k c a b : ℕ) → c < k → through edge k a c ≡ true → through edge k c b ≡ true → through edge k a b ≡ true
  meet zero c a b below to from = absurd (omega arith)
  meet (suc k) c a b below to from = meet_next k c a b (meet k c) below to from

  -- ---- against paths

  weaken : (k n a b : ℕ) → HasPathBelow Edge k n a b → HasPathBelow Edge (suc k) n a b
  weaken k zero a b one = one
  weaken k (suc n) a b path =
      (path.0, weaken k n a path.0 path.1, path.2, let less : path.0 < k = path.3 in omega arith)

  -- one path and then another
  behind : (k m n a b : ℕ) → HasPathBelow Edge k n a k → HasPathBelow Edge k m k b → IsConnectedBelow Edge (suc k) a b
  behind k zero n a b path one = (suc n, (k, weaken k n a k path, one, omega arith))
  behind k (suc m) n a b path other =
      let all = behind k m n a other.0 path other.1 in
      (suc all.0, (other.0, all.1, other.2, let less : other.0 < k = other.3 in omega arith))

  path_of : (k a b : ℕ) → through edge k a b ≡ true → IsConnectedBelow Edge k a b
  path_of zero a b one = (zero, one)
  path_of (suc k) a b one =
      ⊎_elim
      (λ old. let path = path_of k a b old in (path.0, weaken k path.0 a b path.1))
      (λ both.
      let to = path_of k a k (and_parts _ _ both).0 in
      let from = path_of k k b (and_parts _ _ both).1 in
      behind k from.0 to.0 a b to.1 from.1)
      (or_cases _ _ one)

  of_path : (k n a b : ℕ) → HasPathBelow Edge k n a b → through edge k a b ≡ true
  of_path k zero a b one = through_edge k a b one
  of_path k (suc n) a b path = meet k path.0 a b path.3 (of_path k n a path.0 path.1) (through_edge k path.0 b path.2)

  pub through_below : (k a b : ℕ) → IsTrue (through edge k a b) ↔ IsConnectedBelow Edge k a b
  through_below k a b = (path_of k a b, λ path. of_path k path.0 a b path.1)

  -- ---- all nodes with an edge to them and one from them are below the bound

  unbound : (k n a b : ℕ) → HasPathBelow Edge k n a b → HasPath Edge (suc n) a b
  unbound k zero a b one = (a, refl, one)
  unbound k (suc n) a b path = (path.0, unbound k n a path.0 path.1, path.2)

  module _ (k : ℕ) (below : (a c b : ℕ) → edge a c ≡ true → edge c b ≡ true → c < k) where
    bound : (n a b : ℕ) → HasPath Edge (suc n) a b → HasPathBelow Edge k n a b
    bound zero a b path = subst (λ c. edge c b ≡ true) (sym path.1) path.2
    bound (suc n) a b path =
        (path.0, bound n a path.0 path.1, path.2, below path.1.0 path.0 b path.1.2 path.2)

    pub through_all : (a b : ℕ) → IsTrue (through edge k a b) ↔ IsConnected Edge a b
    through_all a b = (
      λ one. let path = path_of k a b one in (path.0, unbound k path.0 a b path.1),
      λ path. of_path k path.0 a b (bound path.0 a b path.1),
    )

-- ---- the bits

-- of the rows those below r have been through the pass of node k
pub record IsPassed (edge : ℕ → ℕ → Bool) (k r : ℕ) (t : Table) : Type 0 where
  pub done : (a b : ℕ) → a < r → has t a b ≡ through edge (suc k) a b
  pub due : (a b : ℕ) → r ≤ a → has t a b ≡ through edge k a b

-- each pass up to that of node k is over
abbrev pub IsThrough : (ℕ → ℕ → Bool) → ℕ → Table → Type 0
IsThrough edge k t = (a b : ℕ) → has t a b ≡ through edge k a b

pub through_first : (t : Table) → IsThrough (has t) 0 t
through_first t a b = refl

module _ (edge : ℕ → ℕ → Bool) (k r : ℕ) (t : Table) (so_far : IsPassed edge k r t) where
  pub passed_joined : (new : Table) → r < length t.rows → has t r k ≡ true
      → new ≡ with_row t r (union (row_of t r) (row_of t k)) → IsPassed edge k (r + 1) new
  passed_joined new within one is = rw is record {
    done = λ a b below.
        grind (
          arith,
          nat_tests,
          has-joined t r k a b within,
          so_far.done a b,
          so_far.due r b,
          so_far.due r k,
          so_far.done k b,
          so_far.due k b,
        );
    due = λ a b past. grind (arith, nat_tests, has-joined t r k a b within, so_far.due a b);
  }

  pub passed_kept : (new : Table) → has t r k ≡ false → new ≡ t → IsPassed edge k (r + 1) new
  passed_kept new none is = rw is record {
    done = λ a b below. grind (arith, so_far.done a b, so_far.due r b, so_far.due r k);
    due = λ a b past. so_far.due a b (omega arith);
  }

  pub passed_all : length t.rows ≤ r → IsThrough edge (k + 1) t
  passed_all past a b = rw add-one (grind (arith, so_far.done a b, so_far.due a b, so_far.due a k, has-past t a k))

pub closed : (t new : Table) (k : ℕ) → k ≡ min (length t.rows) t.columns → All (λ row. row.length ≡ t.columns) t.rows
    → IsThrough (has t) k new → (a b : ℕ) → HasEdge new a b ↔ IsConnected (HasEdge t) a b
closed t new k is_least sized all a b =
    let is = through_all (has t) k
    (λ x c y into from. omega (arith, is_least, has_row t c y from, has_below t x c sized into)) a b in
    (λ one. is.0 (sym (all a b) ∙ one), λ path. all a b ∙ is.1 path)

-- ---- the joins

-- those of the pass of node k in the rows below r
abbrev pub joins_in : (ℕ → ℕ → Bool) → ℕ → ℕ → ℕ
joins_in edge k r = count_below (λ a. through edge k a k) r

-- those of the passes before that of node k, where there are n rows
abbrev pub joins_before : (ℕ → ℕ → Bool) → ℕ → ℕ → ℕ
joins_before edge n k = sum_by (λ j. joins_in edge j n) (range_with_len 0 k)

pub joins_more : (edge : ℕ → ℕ → Bool) (k r : ℕ) (one : Bool) → through edge k r k ≡ one
    → joins_in edge k (r + 1) ≡ joins_in edge k r + indicator one
joins_more edge k r one is = rw (add-one, count-suc (λ a. through edge k a k) r, is) refl

pub joins_passed : (edge : ℕ → ℕ → Bool) (n k : ℕ)
    → joins_before edge n (k + 1) ≡ joins_before edge n k + joins_in edge k n
joins_passed edge n k =
    rw (add-one, range-push 0 k, zero-add k, sum_by-append (λ j. joins_in edge j n) (range_with_len 0 k) (k ∷ []))
    (omega arith)

pub joins_bound : (edge : ℕ → ℕ → Bool) (n k : ℕ) → joins_before edge n k ≤ n * k
joins_bound edge n k =
    let most = sum_by-le (λ j. joins_in edge j n) n (range_with_len 0 k) (λ i d _. count-le _ n) in
    omega (arith, simp length-range_with_len at most)

-- where no edge leads to a node, no path does
through_none : (edge : ℕ → ℕ → Bool) (k a b : ℕ) → ((x : ℕ) → edge x b ≡ false) → through edge k a b ≡ false
through_none edge zero a b none = none a
through_none edge (suc k) a b none = grind (arith, through_none edge k a b none, through_none edge k k b none)

-- the passes of such nodes have no joins
joins_past : (edge : ℕ → ℕ → Bool) (n k more : ℕ) → ((x b : ℕ) → k ≤ b → b < k + more → edge x b ≡ false)
    → joins_before edge n (k + more) ≡ joins_before edge n k
joins_past edge n k zero none = let same : k + 0 ≡ k = omega arith in ap (joins_before edge n) same
joins_past edge n k (suc more) none =
    let next : k + suc more ≡ k + more + 1 = omega arith in
    let here : joins_in edge (k + more) n ≡ 0 =
    count-none (λ a. through edge (k + more) a (k + more)) n
    (λ a below. through_none edge (k + more) a (k + more) (λ x. none x (k + more) (omega arith) (omega arith))) in
    let before = joins_past edge n k more (λ x b above below. none x b above (omega arith)) in
    ap (joins_before edge n) next ∙ omega (arith, joins_passed edge n (k + more), here, before)

pub pairs : (t : Table) (n k : ℕ) → k ≡ min n t.columns → All (λ row. row.length ≡ t.columns) t.rows
    → IsPairCount (HasEdge t) n (joins_before (has t) n k)
pairs t n k is_least sized =
    let all : k + (n - k) ≡ n = omega (arith, is_least) in
    let past = joins_past (has t) n k (n - k)
    (λ x b above below. false_from_ne_true (has t x b) (λ one. omega (arith, is_least, has_below t x b sized one))) in
    (λ j a. through (has t) j a j, λ j a. through_below (has t) j a j, sym past ∙ ap (joins_before (has t) n) all)
