-- How the runs fall into the first or the last and the others, for those who make an iterator over them.
use Rattle.std.specs.Prelude.{slice_get}
use Rattle.std.proofs.Common.{◌≡◌, ℕ, suc, ◌+◌, ◌-◌, ◌<◌, ◌≤◌, Bool, true, false, cond, not}
use Rattle.std.proofs.Common.{◌&&◌, nat_lt, unwrap_or, [], ◌∷◌, ◌++◌, map, ap, ◌∙◌, arith}
use Rattle.std.proofs.lemmas.Bool.{lt-ltb}
use Rattle.bitwords.specs.Ascending.{ascending}
use Rattle.bitwords.specs.AscendingFacts.{ascending-append, ascending-none, ascending-same, first-from}
use Rattle.bitwords.specs.Neighbours.{NonePasses}
use Rattle.bitwords.specs.Runs.{begins, end_from, stretches}

and_right : (b c : Bool) → c ≡ true → (b && not c) ≡ false
and_right b c e = grind arith

and_left : (b c : Bool) → b ≡ false → (b && c) ≡ false
and_left b c e = grind arith

pub and_begins : (a b c : Bool) → a ≡ true → c ≡ false → (a && not (b && c)) ≡ true
and_begins a b c e f = grind arith

pub and_first : (a b c : Bool) → a ≡ true → b ≡ false → (a && not (b && c)) ≡ true
and_first a b c e f = grind arith

-- tests that agree below n have the same runs
pub stretches-same : (t u : ℕ → Bool) (n low high : ℕ) → high ≤ n → ((i : ℕ) → i < n → t i ≡ u i)
    → stretches t n low high ≡ stretches u n low high
stretches-same t u n low high within same =
    let ends : (p : ℕ)
    → end_from t n p ≡ end_from u n p = λ p.
    ap (λ xs. unwrap_or (slice_get xs 0) n) (ascending-same (λ q. not (t q)) (λ q. not (u q)) p (n - p)
    (λ i above below. ap not (same i (omega (arith, above, below))))) in
    let firsts : ascending (begins t) low (high - low) ≡ ascending (begins u) low (high - low) =
    ascending-same (begins t) (begins u) low (high - low)
    (λ i above below. let here = same i (omega (arith, above, below, within)) in
    let before = same (i - 1) (omega (arith, above, below, within)) in λ j. here j && not (nat_lt 0 i && before j)) in
    λ j. map (λ p. (p, ends p j)) (firsts j)

module _ (test : ℕ → Bool) (n : ℕ) where
  -- behind a number that passes none begins
  inside : (p : ℕ) → 0 < p → test (p - 1) ≡ true → begins test p ≡ false
  inside p behind passes =
      and_right (test p) _ ((λ i. nat_lt 0 p && passes i) ∙ ap (λ b. b && true) (lt-ltb 0 p behind))

  -- one stretch alone
  alone : (start k : ℕ) → begins test start ≡ true → ((i : ℕ) → start ≤ i → i < start + suc k → test i ≡ true)
      → ascending (begins test) start (suc k) ≡ start ∷ []
  alone start k first all =
      let rest : ascending (begins test) (start + 1) k ≡ [] =
      ascending-none (begins test) (start + 1) k
      (λ i above below.
      inside i (omega (arith, above)) (all (i - 1) (omega (arith, above)) (omega (arith, above, below)))) in
      (λ j. cond (first j) (start ∷ ascending (begins test) (start + 1) k) (ascending (begins test) (start + 1) k))
      ∙ ap (λ xs. start ∷ xs) rest

  -- the runs before one, this one, and those behind it
  pub around : (low start end high : ℕ) → low ≤ start → start < end → end ≤ high → begins test start ≡ true
      → ((i : ℕ) → start ≤ i → i < end → test i ≡ true)
      → ascending (begins test) low (high - low) ≡ ascending (begins test) low (start - low) ++ start ∷
      ascending (begins test) end (high - end)
  around low start end high above some below first all =
      let parts : high - low ≡ (start - low) + (suc (end - start - 1) + (high - end)) =
      omega (arith, above, some, below) in
      let at_start : low + (start - low) ≡ start = omega (arith, above) in
      let at_end : start + suc (end - start - 1) ≡ end = omega (arith, some) in
      ap (ascending (begins test) low) parts
      ∙ ascending-append (begins test) low (start - low) (suc (end - start - 1) + (high - end))
      ∙ ap (λ xs. ascending (begins test) low (start - low) ++ xs)
      (ap (λ at. ascending (begins test) at (suc (end - start - 1) + (high - end))) at_start
      ∙ ascending-append (begins test) start (suc (end - start - 1)) (high - end)
      ∙ (let one = alone start (end - start - 1) first (λ i from to. all i from (omega (arith, to, some))) in
      λ j. one j ++ ascending (begins test) (at_end j) (high - end)))

  -- where none passes, none begins
  pub none_begin : (low high : ℕ) → NonePasses test low high → ascending (begins test) low (high - low) ≡ []
  none_begin low high none = ascending-none (begins test) low (high - low)
      (λ i above below. and_left (test i) _ (none i above (omega (arith, above, below))))

  -- the end of a stretch
  pub ends_at : (start end : ℕ) → start < end → end < n → ((i : ℕ) → start ≤ i → i < end → test i ≡ true)
      → test end ≡ false → end_from test n start ≡ end
  ends_at start end some below all fails =
      ap (λ o. unwrap_or o n) (first-from (λ q. not (test q)) start (n - start) end (omega (arith, some))
      (omega (arith, some, below)) (ap not fails) (λ i from to. ap not (all i from to)))

  pub ends_last : (start : ℕ) → start < n → ((i : ℕ) → start ≤ i → i < n → test i ≡ true) → end_from test n start ≡ n
  ends_last start some all =
      ap (λ xs. unwrap_or (slice_get xs 0) n) (ascending-none (λ q. not (test q)) start (n - start)
      (λ i from to. ap not (all i from (omega (arith, to, some)))))
