-- The least multiple at or past a number.
use Rattle.std.proofs.Common.{◌≡◌, ◌≢◌, ℕ, suc, inl, inr, ◌+◌, ◌-◌, ◌*◌, ◌/◌, ◌%◌, ◌^◌, ◌<◌, ◌≤◌}
use Rattle.std.proofs.Common.{true, false, Option, Some, None, SomeIff, MatchOption, ap, ◌∙◌, arith}
use Rattle.std.specs.Int.{next_multiple_of}
use Rattle.std.proofs.lemmas.Bool.{cases_eq, cases_lt, eq-eqb, ne_eqb, eqb-true, false_from_ne_true}
use Rattle.std.proofs.lemmas.Nat.{mod_below}
use Rattle.std.proofs.Math.Nat.{div-add-mod, mod_self, mod-eq_of_lt, mul-mod_right, mul-le-mul_left}
use Rattle.std.proofs.Math.Nat.{lt_of_mul-lt-mul_left, mod-zero, zero-mod, sub-zero}
use Rattle.bitwords.specs.Gaps.{is_multiple}
use Rattle.bitwords.specs.Neighbours.{NonePasses, IsNext}

-- 0 is the first multiple of each number
pub zero_first : (align : ℕ) → IsNext (is_multiple align) 0 (2 ^ 64) 0
zero_first align =
    record {
      after = omega arith;
      below = omega arith;
      passes = eq-eqb _ _ (zero-mod align);
      none = λ i above below. absurd (omega arith);
    }

-- two multiples are so far apart
pub multiples_apart : (align a b : ℕ) → is_multiple align a ≡ true → is_multiple align b ≡ true → a < b → a + align ≤ b
multiples_apart align a b first second less =
    let here : align * (a / align) ≡ a = omega (arith, div-add-mod a align, eqb-true _ _ first) in
    let there : align * (b / align) ≡ b = omega (arith, div-add-mod b align, eqb-true _ _ second) in
    let before : a / align < b / align = lt_of_mul-lt-mul_left align (omega (arith, here, there, less)) in
    let over : align * suc (a / align) ≤ align * (b / align) = mul-le-mul_left align before in
    omega (arith, here, there, over)

module _ (align number : ℕ) (some : 0 < align) where
  abbrev next : ℕ
  next = next_multiple_of number align

  record IsRounded : Type 0 where
    after : number ≤ next
    near : next < number + align
    multiple : next % align ≡ 0

  rounded : IsRounded
  rounded =
      elim (cases_eq (number % align) 0) [
        | inl is ↦
            let none : (align - number % align) % align ≡ 0 = ap (λ r. (align - r) % align) is
            ∙ ap (λ k. k % align) (sub-zero align) ∙ mod_self align in
            let same : next ≡ number = omega (arith, none) in
            record {
              after = omega (arith, same);
              near = omega (arith, same, some);
              multiple = ap (λ n. n % align) same ∙ is;
            }
        | inr rest ↦
            let below : number % align < align = mod_below number align some in
            let more : (align - number % align) % align ≡ align - number % align = mod-eq_of_lt (omega (arith, rest)) in
            let is : next ≡ align * (number / align + 1) = omega (arith, more, below, div-add-mod number align) in
            record {
              after = omega (arith, more);
              near = omega (arith, more, below, rest);
              multiple = ap (λ n. n % align) is ∙ mul-mod_right align (number / align + 1);
            }
      ]

  -- no multiple lies between
  least : (i : ℕ) → number ≤ i → i % align ≡ 0 → next ≤ i
  least i from is =
      elim (cases_lt i next) [
        | inl before ↦
            let far = multiples_apart align i next (eq-eqb _ _ is) (eq-eqb _ _ rounded.multiple) before in
            absurd (omega (arith, far, from, rounded.near))
        | inr past ↦ past
      ]

  none_before : (i : ℕ) → number ≤ i → i < next → is_multiple align i ≡ false
  none_before i from before =
      false_from_ne_true (is_multiple align i) (λ is. let past = least i from (eqb-true _ _ is) in omega (arith, past))

-- only 0 is a multiple of 0
pub none_of_zero : (i : ℕ) → 0 < i → is_multiple 0 i ≡ false
none_of_zero i some = ne_eqb _ _ (λ is. omega (arith, is, mod-zero i))

-- and each number one of 1
pub all_of_one : (i : ℕ) → is_multiple 1 i ≡ true
all_of_one i = eq-eqb _ _ (omega arith)

pub rounded_up : (align number : ℕ) (result : Option ℕ) → number ≢ 0
    → SomeIff result ((0 < align) × (next_multiple_of number align < 2 ^ 64)) (next_multiple_of number align)
    → MatchOption result (NonePasses (is_multiple align) number (2 ^ 64)) (IsNext (is_multiple align) number (2 ^ 64))
rounded_up align number None some fits = elim (cases_eq align 0) [
  | inl zeros ↦ λ i above below. ap (λ a. is_multiple a i) zeros ∙ none_of_zero i (omega (arith, above, some))
  | inr positive ↦ λ i above below.
      none_before align number (omega arith) i above (elim (cases_lt i (next_multiple_of number align)) [
        | inl before ↦ before
        | inr past ↦ absurd (fits (omega (arith, positive), omega (arith, past, below)))
      ])
]
rounded_up align number (Some m) some fits =
    let positive = fits.0.0 in
    let is = fits.1 in
    let round = rounded align number positive in
    record {
      after = omega (arith, is, round.after);
      below = omega (arith, is, fits.0.1);
      passes = eq-eqb _ _ (ap (λ n. n % align) is ∙ round.multiple);
      none = λ i above below. none_before align number positive i above (omega (arith, is, below));
    }
