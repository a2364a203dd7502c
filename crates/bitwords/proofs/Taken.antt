-- How many bits of a word are set below a place, once its lowest bit is cleared.
use Rattle.std.proofs.Common.{◌≡◌, ◌≢◌, ℕ, zero, suc, ◌+◌, ◌-◌, ◌<◌, ◌≤◌, ◌==◌, true, false, ap, ◌∙◌, arith, ⊎_elim}
use Rattle.std.proofs.lemmas.Bool.{cases_lt}
use Rattle.bitlanes.specs.Bits.{bit}
use Rattle.bitlanes.specs.Word.{IsLowestBit, ClearsBit}
use Rattle.bitwords.specs.CountFacts.{count-none, count-zero, count-suc, count-mono, indicator}
use Rattle.bitwords.specs.Rows.{count_below}

module _ (old k : ℕ) (lowest : IsLowestBit old k) where
  none_below : (i : ℕ) → i < k → bit old i ≡ false
  none_below i below = ap (λ b. b == 1) (lowest.lowest i below)

  one : bit old k ≡ true
  one = ap (λ b. b == 1) lowest.set

  pub none_before : (n : ℕ) → n ≤ k → count_below (bit old) n ≡ 0
  none_before n upto = count-none (bit old) n (λ i below. none_below i (omega arith))

  pub some_behind : (n : ℕ) → k < n → 0 < count_below (bit old) n
  some_behind n past =
      omega (arith, count-suc (bit old) k, ap indicator one, count-mono (bit old) (suc k) n (omega arith))

  module _ (new : ℕ) (clears : ClearsBit old new k) where
    cleared : bit new k ≡ false
    cleared = ap (λ b. b == 1) clears.clear

    alike : (i : ℕ) → i < 64 → i ≢ k → bit new i ≡ bit old i
    alike i within other = ap (λ b. b == 1) (clears.others i within other)

    -- one less behind it
    pub count-taken : (n : ℕ) → n ≤ 64 → count_below (bit new) n ≡ count_below (bit old) n - 1
    count-taken zero within = omega (arith, count-zero (bit new), count-zero (bit old))
    count-taken (suc n) within =
        let before = count-taken n (omega arith) in
        ⊎_elim
        (λ (past : k < n).
        omega (
          arith,
          before,
          some_behind n past,
          count-suc (bit new) n,
          count-suc (bit old) n,
          ap indicator (alike n (omega arith) (λ same. omega (arith, same, past))),
        ))
        (λ (upto : n ≤ k). ⊎_elim
        (λ (below : n < k).
        omega (
          arith,
          before,
          none_before n upto,
          none_before (suc n) (omega arith),
          count-suc (bit new) n,
          ap indicator (alike n (omega arith) (λ same. omega (arith, same, below)) ∙ none_below n below),
        ))
        (λ (from : k ≤ n).
        let here : n ≡ k = omega arith in
        omega (
          arith,
          before,
          none_before n upto,
          count-suc (bit new) n,
          count-suc (bit old) n,
          ap indicator (ap (bit new) here ∙ cleared),
          ap indicator (ap (bit old) here ∙ one),
        ))
        (cases_lt n k))
        (cases_lt k n)
