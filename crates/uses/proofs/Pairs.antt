-- The pairs of a table: which there are, and their order.
use Rattle.std.proofs.Common.{◌≡◌, ◌∙◌, ℕ, zero, suc, ◌+◌, ◌-◌, ◌<◌, ◌≤◌, ◌↔◌, inl, inr, IsTrue, List, [], ◌∷◌, ◌++◌}
use Rattle.std.proofs.Common.{length, map, get_or, Contains, refl, sym, ap, subst, arith, ⊎_elim, length-append}
use Rattle.std.specs.List.{AllPairs, flat_map, range_with_len}
use Rattle.std.proofs.lemmas.Bool.{cases_lt}
use Rattle.std.proofs.lemmas.List.{append-nil, get_or_append_left, length-map, get_or-map}
use Rattle.std.proofs.lemmas.List.Concat.{flat_map-append}
use Rattle.std.proofs.lemmas.List.Elements.{Contains-get_or, Contains-append_left}
use Rattle.std.proofs.lemmas.List.Elements.{Contains-append_right, Contains-append_cases}
use Rattle.std.proofs.lemmas.List.FromFn.{length-range_with_len, get_or-range_with_len}
use Rattle.std.proofs.lemmas.List.Kept.{AllPairs-filter}
use Rattle.std.proofs.Math.Seq.{get_or-append_right}
use Rattle.fixedbitset.specs.Bits.{Bits, contains, asc}
use Rattle.fixedbitset.specs.MemberFacts.{in_asc}
use Rattle.bitrows.specs.Tables.{Table, row_of, has}
use Rattle.uses.specs.Edges.{IsBefore, pairs_in}

-- ---- lists

range_more : (a n b : ℕ) → a + n ≡ b → range_with_len a (suc n) ≡ range_with_len a n ++ b ∷ []
range_more a zero b e = let same : a ≡ b = omega arith in ap (λ x. x ∷ []) same
range_more a (suc n) b e = ap (λ l. a ∷ l) (range_more (a + 1) n b (omega arith))

nothing : {X : Type 0} (x : X) → ¬ (Contains [] x)
nothing x there = let h = there.1 in omega arith

module _ {X : Type 0} (R : X → X → Type 0) (xs ys : List X) where
  AllPairs-append : AllPairs R xs → AllPairs R ys → ((x y : X) → Contains xs x → Contains ys y → R x y)
      → AllPairs R (xs ++ ys)
  AllPairs-append first second across i j d less inside =
      let long : length (xs ++ ys) ≡ length xs + length ys = length-append xs ys in
      let left : (k : ℕ) → k < length xs
      → get_or xs k d ≡ get_or (xs ++ ys) k d = λ k inner. sym (get_or_append_left xs ys d k inner) in
      let right : (k : ℕ) → length xs ≤ k → get_or ys (k - length xs) d ≡ get_or (xs ++ ys) k d = λ k past.
      sym (get_or-append_right xs ys k d past) in
      ⊎_elim
      (λ (both : j < length xs). subst (λ y. R (get_or (xs ++ ys) i d) y) (left j both)
      (subst (λ x. R x (get_or xs j d)) (left i (omega arith)) (first i j d less both)))
      (λ (past : length xs ≤ j).
      subst (λ y. R (get_or (xs ++ ys) i d) y) (right j past)
      (⊎_elim
      (λ (before : i < length xs).
      subst (λ x. R x (get_or ys (j - length xs) d)) (left i before)
      (across (get_or xs i d) (get_or ys (j - length xs) d) (Contains-get_or xs i d before)
      (Contains-get_or ys (j - length xs) d (omega arith))))
      (λ (behind : length xs ≤ i). subst (λ x. R x (get_or ys (j - length xs) d)) (right i behind)
      (second (i - length xs) (j - length xs) d (omega arith) (omega arith)))
      (cases_lt i (length xs))))
      (cases_lt j (length xs))

-- ---- one row

abbrev row_pairs : ℕ → List ℕ → List (ℕ × ℕ)
row_pairs a ys = map (λ b. (a, b)) ys

module _ (a : ℕ) (ys : List ℕ) where
  long : length (row_pairs a ys) ≡ length ys
  long = length-map ys (λ b. (a, b))

  place : (k : ℕ) (d : ℕ × ℕ) (e : ℕ) → k < length ys → get_or (row_pairs a ys) k d ≡ (a, get_or ys k e)
  place k d e inside = get_or-map (λ b. (a, b)) ys k e d inside

  in_row : (x y : ℕ) → Contains (row_pairs a ys) (x, y) ↔ ((x ≡ a) × Contains ys y)
  in_row x y = (
    λ there.
        let inside : there.0 < length ys = omega (arith, there.1, long) in
        let is = sym there.2 ∙ place there.0 (x, y) y inside in
        (ap (λ p. p.0) is, (there.0, inside, sym (ap (λ p. p.1) is))),
    λ both.
        let k = both.1.0 in
        (k, omega (arith, both.1.1, long), place k (x, y) y both.1.1 ∙ (λ i. (sym both.0 i, both.1.2 i))),
  )

  row_ordered : AllPairs (λ x y. x < y) ys → AllPairs IsBefore (row_pairs a ys)
  row_ordered rising i j d less inside =
      let within : j < length ys = omega (arith, long) in
      subst (λ q. IsBefore (get_or (row_pairs a ys) i d) q) (sym (place j d 0 within))
      (subst (λ p. IsBefore p (a, get_or ys j 0)) (sym (place i d 0 (omega arith)))
      (inr (refl, rising i j 0 less within)))

pub asc_rises : (v : Bits) → AllPairs (λ x y. x < y) (asc v)
unfolding asc
asc_rises v =
    AllPairs-filter (λ x y. x < y) (contains v) (range_with_len 0 v.length) (λ i j d less inside.
    let many : length (range_with_len 0 v.length) ≡ v.length = length-range_with_len 0 v.length in
    let first : get_or (range_with_len 0 v.length) i d ≡ 0 + i = get_or-range_with_len 0 v.length i d (omega arith) in
    let second : get_or (range_with_len 0 v.length) j d ≡ 0 + j = get_or-range_with_len 0 v.length j d (omega arith) in
    omega arith)

-- ---- row after row

module _ (t : Table) where
  pairs_suc : (n : ℕ) → pairs_in t (suc n) ≡ pairs_in t n ++ row_pairs n (asc (row_of t n))
  pairs_suc n =
      let f : ℕ → List (ℕ × ℕ) = λ row. row_pairs row (asc (row_of t row)) in
      ap (flat_map f) (range_more 0 n n (omega arith))
      ∙ flat_map-append f (range_with_len 0 n) (n ∷ [])
      ∙ ap (λ xs. pairs_in t n ++ xs) (append-nil (row_pairs n (asc (row_of t n))))

  pub pairs_more : (n : ℕ) → pairs_in t (n + 1) ≡ pairs_in t n ++ map (λ b. (n, b)) (asc (row_of t n))
  pairs_more n = (let more : n + 1 ≡ suc n = omega arith in ap (pairs_in t) more) ∙ pairs_suc n

  pub in_pairs : (n x y : ℕ) → Contains (pairs_in t n) (x, y) ↔ ((x < n) × IsTrue (has t x y))
  in_pairs zero x y = (λ there. absurd (nothing (x, y) there), λ both. let h = both.0 in absurd (omega arith))
  in_pairs (suc n) x y =
      let f = in_pairs n x y in
      let g = in_row n (asc (row_of t n)) x y in (
        λ there.
            ⊎_elim
            (λ old. let both = f.0 old in (let h : x < n = both.0 in omega arith, both.1))
            (λ new. let both = g.0 new in (
              let h : x ≡ n = both.0 in omega arith,
              subst (λ r. IsTrue (has t r y)) (sym both.0) ((in_asc (row_of t n) y).0 both.1),
            ))
            (Contains-append_cases (pairs_in t n) (row_pairs n (asc (row_of t n))) (x, y)
            (subst (λ l. Contains l (x, y)) (pairs_suc n) there)),
        λ both.
            subst (λ l. Contains l (x, y)) (sym (pairs_suc n))
            (⊎_elim
            (λ (less : x < n).
            Contains-append_left (pairs_in t n) (row_pairs n (asc (row_of t n))) (x, y) (f.1 (less, both.1)))
            (λ (not_less : n ≤ x).
            let h : x < suc n = both.0 in
            let same : x ≡ n = omega arith in
            Contains-append_right (pairs_in t n) (row_pairs n (asc (row_of t n))) (x, y)
            (g.1 (same, (in_asc (row_of t n) y).1 (subst (λ r. IsTrue (has t r y)) same both.1))))
            (cases_lt x n)),
      )

  pub ordered : (n : ℕ) → AllPairs IsBefore (pairs_in t n)
  ordered zero = λ i j d less inside. absurd (omega arith)
  ordered (suc n) =
      subst (AllPairs IsBefore) (sym (pairs_suc n))
      (AllPairs-append IsBefore (pairs_in t n) (row_pairs n (asc (row_of t n))) (ordered n)
      (row_ordered n (asc (row_of t n)) (asc_rises (row_of t n))) (λ p q before here.
      let less : p.0 < n = ((in_pairs n p.0 p.1).0 before).0 in
      let same : q.0 ≡ n = ((in_row n (asc (row_of t n)) q.0 q.1).0 here).0 in
      inl (omega arith)))
