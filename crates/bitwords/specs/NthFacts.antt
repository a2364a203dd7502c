-- How many positions stand below one, in a word and in a row of words, and the one with so many before it, for those
-- who look for it.
use Rattle.std.specs.Prelude.{slice_get}
use Rattle.std.proofs.Common.{◌≡◌, ◌==◌, ℕ, zero, suc, ◌+◌, ◌-◌, ◌*◌, ◌/◌, ◌%◌, ◌^◌, ◌<◌, ◌≤◌}
use Rattle.std.proofs.Common.{Bool, true, false, cond, nat_lt, bit_and, Some, None, List}
use Rattle.std.proofs.Common.{◌∷◌, ◌++◌, length, get_or, refl, sym, subst, ap, ◌∙◌, arith, ⊎_elim}
use Rattle.std.specs.Int.{bit_at}
use Rattle.std.specs.Int.Count.{ones}
use Rattle.std.proofs.Math.Nat.{pow-suc, div-lt_iff_lt-mul}
use Rattle.std.proofs.lemmas.Bool.{cases_lt, cases_Bool}
use Rattle.std.proofs.lemmas.Bool.Decides.{nat_tests}
use Rattle.std.proofs.lemmas.List.{length-append, get_or-append-add}
use Rattle.std.proofs.lemmas.Nat.{shr_split, ones_cat, pow_pos, and_le_l}
use Rattle.std.proofs.lemmas.Nat.Bits.{bit_at_cat_low}
use Rattle.std.proofs.lemmas.Option.{slice_get_past, slice_get-get_or}
use Rattle.bitlanes.specs.Bits.{bit}
use Rattle.bitlanes.specs.BitLaws.{bit-and}
use Rattle.bitwords.specs.Ascending.{ascending}
use Rattle.bitwords.specs.AscendingFacts.{ascending-append, length-count}
use Rattle.bitwords.specs.CountFacts.{indicator, count-zero, count-suc, count-same, count-append, count-shorter}
use Rattle.bitwords.specs.Neighbours.{IsNth}
use Rattle.bitwords.specs.RowFacts.{AreWords, has_bit-at}
use Rattle.bitwords.specs.Rows.{has_bit, count_below}

-- ---- the k-th number that passes

-- where the count steps over k, there is the k-th
pub nth-between : (test : ℕ → Bool) (k p : ℕ) → count_below test p ≤ k → k < count_below test (p + 1) → IsNth test k p
nth-between test k p low high =
    let e : p + 1 ≡ suc p = omega arith in
    let step : count_below test (p + 1) ≡ count_below test p + indicator (test p) = ap (count_below test) e
    ∙ count-suc test p in
    ⊎_elim
    (λ (one : test p ≡ true). record { passes = one; before = omega (arith, step, ap indicator one) })
    (λ (none : test p ≡ false). absurd (omega (arith, step, ap indicator none)))
    (cases_Bool (test p))

-- there is one where more than k pass
pub nth-below : (test : ℕ → Bool) (n k : ℕ) → k < count_below test n → (p : ℕ) × (p < n) × IsNth test k p
nth-below test zero k more = absurd (omega (arith, count-zero test))
nth-below test (suc n) k more =
    ⊎_elim
    (λ (lower : k < count_below test n).
    let found = nth-below test n k lower in (found.0, (let below : found.0 < n = found.1 in omega arith), found.2))
    (λ (last : count_below test n ≤ k). (
      n,
      omega arith,
      nth-between test k n last (let e : suc n ≡ n + 1 = omega arith in omega (arith, ap (count_below test) e)),
    ))
    (cases_lt k (count_below test n))

-- behind those before it stands the k-th
seam : (xs ys : List ℕ) (k p : ℕ) → k ≡ length xs → slice_get (xs ++ p ∷ ys) k ≡ Some p
seam xs ys k p long =
    let all = length-append xs (p ∷ ys) in
    let last : k ≡ length xs + 0 = omega arith in
    slice_get-get_or (xs ++ p ∷ ys) k p (omega (arith, all))
    ∙ ap (λ x. Some x) (ap (λ i. get_or (xs ++ p ∷ ys) i p) last ∙ get_or-append-add xs (p ∷ ys) 0 p)

-- the k-th number that passes is the k-th item
pub nth-ascending : (test : ℕ → Bool) (n k p : ℕ) → p < n → IsNth test k p → slice_get (ascending test 0 n) k ≡ Some p
nth-ascending test n k p within is =
    let rest : ℕ = n - (p + 1) in
    let e : n ≡ p + suc rest = omega arith in
    let z : 0 + p ≡ p = omega arith in
    let here : ascending test p (suc rest) ≡ p ∷ ascending test (p + 1) rest =
    ap (λ b. cond b (p ∷ ascending test (p + 1) rest) (ascending test (p + 1) rest)) is.passes in
    ap (λ m. slice_get (ascending test 0 m) k) e
    ∙ ap (λ xs. slice_get xs k) (ascending-append test 0 p (suc rest)
    ∙ ap (λ xs. ascending test 0 p ++ xs) (ap (λ low. ascending test low (suc rest)) z ∙ here))
    ∙ seam (ascending test 0 p) _ k p (omega (arith, length-count test p, is.before))

pub none-ascending : (test : ℕ → Bool) (n k : ℕ) → count_below test n ≤ k → slice_get (ascending test 0 n) k ≡ None
none-ascending test n k past = slice_get_past (ascending test 0 n) k (omega (arith, length-count test n))

-- each item is the one with so many before it
pub item-nth : (test : ℕ → Bool) (n k p : ℕ) → slice_get (ascending test 0 n) k ≡ Some p → IsNth test k p
item-nth test n k p item =
    ⊎_elim
    (λ (more : k < count_below test n).
    let found = nth-below test n k more in
    let same : found.0 ≡ p = let one = nth-ascending test n k found.0 found.1 found.2 in cc in
    subst (λ q. IsNth test k q) same found.2)
    (λ (few : count_below test n ≤ k). let none = none-ascending test n k few in cc)
    (cases_lt k (count_below test n))

-- ---- the bits of a word

ones_below_two : (q : ℕ) → q < 2 → ones q ≡ indicator (q % 2 == 1)
unfolding ones
ones_below_two zero h = refl
ones_below_two (suc zero) h = refl
ones_below_two (suc (suc q)) h = absurd (omega arith)

-- the ones of a number, counted bit by bit
pub ones-bits : (w x : ℕ) → x < 2 ^ w → ones x ≡ count_below (bit x) w
ones-bits zero x h = let e : x ≡ 0 = omega arith in rw e (ones_below_two 0 (omega arith) ∙ sym (count-zero (bit 0)))
ones-bits (suc w) x h =
    let q : ℕ = x / 2 ^ w in
    let r : ℕ = x % 2 ^ w in
    let pos : 0 < 2 ^ w = pow_pos w in
    let small : r < 2 ^ w = omega arith in
    let two : q < 2 = (div-lt_iff_lt-mul pos).1 (omega (arith, pow-suc 2 w)) in
    let is : x ≡ q * 2 ^ w + r = sym (shr_split x w) in
    let low : count_below (bit r) w ≡ count_below (bit x) w =
    count-same _ _ w (λ i l. ap (λ y. y == 1) (sym (ap (λ y. bit_at y i) is ∙ bit_at_cat_low q w r i l))) in
    let top : ones q ≡ indicator (bit x w) = ones_below_two q two in
    let split : ones x ≡ ones q + ones r = ap ones is ∙ ones_cat w q r small in
    omega (arith, split, top, low, ones-bits w r small, count-suc (bit x) w)

-- those of a word, below place n
pub ones-below : (word mask n : ℕ) → word < 2 ^ 64 → n ≤ 64 → ((i : ℕ) → bit mask i ≡ nat_lt i n)
    → ones (bit_and word mask) ≡ count_below (bit word) n
ones-below word mask n fits within masked =
    let less : bit_and word mask ≤ word = and_le_l word mask in
    ones-bits 64 (bit_and word mask) (omega arith)
    ∙ count-shorter (bit (bit_and word mask)) n 64 within
    (λ i from _. grind (arith, nat_tests, bit-and word mask i, masked i))
    ∙ count-same (bit (bit_and word mask)) (bit word) n
    (λ i below. grind (arith, nat_tests, bit-and word mask i, masked i))

-- ---- the words of a row

module _ (ws : List ℕ) (words : AreWords ws) (k : ℕ) where
  -- some bits further within word k
  pub count-within : (n : ℕ) → n ≤ 64
      → count_below (has_bit ws) (64 * k + n) ≡ count_below (has_bit ws) (64 * k) + count_below (bit (get_or ws k 0)) n
  count-within n within =
      let c : ℕ → Bool = has_bit ws in
      omega (
        arith,
        count-append c (64 * k) n,
        count-same (λ i. c (64 * k + i)) (bit (get_or ws k 0)) n (λ i below. has_bit-at ws k i (omega arith)),
      )

  -- one word further
  pub word-count : count_below (has_bit ws) (64 * (k + 1)) ≡ count_below (has_bit ws) (64 * k) + ones (get_or ws k 0)
  word-count =
      let e : 64 * (k + 1) ≡ 64 * k + 64 = omega arith in
      omega
      (arith, ap (count_below (has_bit ws)) e, count-within 64 (omega arith), ones-bits 64 (get_or ws k 0) (words k))

  -- the position of a bit of word k
  pub nth-word : (index left j : ℕ) → j < 64 → IsNth (bit (get_or ws k 0)) left j
      → count_below (has_bit ws) (64 * k) + left ≡ index → IsNth (has_bit ws) index (64 * k + j)
  nth-word index left j within is all =
      record {
        passes = has_bit-at ws k j within ∙ is.passes;
        before = omega (arith, count-within j (omega arith), is.before, all);
      }
