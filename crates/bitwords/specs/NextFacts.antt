-- The first number that passes a test, for those who look for one.
use Rattle.std.proofs.Common.{◌≡◌, ℕ, zero, suc, inl, inr, ◌⊎◌, ◌+◌, Bool, true, false, Option, Some}
use Rattle.std.proofs.Common.{None, MatchOption, slice_get, ⊎_elim, refl, subst, sym, ap, ◌∙◌, arith}
use Rattle.bitwords.specs.Ascending.{ascending}
use Rattle.bitwords.specs.AscendingFacts.{ascending-none, first-from}
use Rattle.bitwords.specs.Neighbours.{IsNext, NonePasses}

-- the least number that passes, if there is one
pub least : (test : ℕ → Bool) (k low end : ℕ) → low + k ≡ end
    → NonePasses test low end ⊎ ((p : ℕ) × IsNext test low end p)
least test zero low end is = inl (λ i above below. absurd (omega (arith, above, below)))
least test (suc k) low end is = at_low (test low) refl (least test k (low + 1) end (omega arith))
  where
    at_low : (b : Bool) → test low ≡ b → NonePasses test (low + 1) end ⊎ ((p : ℕ) × IsNext test (low + 1) end p)
        → NonePasses test low end ⊎ ((p : ℕ) × IsNext test low end p)
    at_low true passes rest =
        inr (
          low,
          record {
            after = omega arith;
            below = omega arith;
            passes = passes;
            none = λ i above below. absurd (omega arith);
          },
        )
    at_low false fails (inl none) = inl (λ i above below. grind (arith, none i))
    at_low false fails (inr next) =
        inr (
          next.0,
          record {
            after = omega (arith, next.1.after);
            below = next.1.below;
            passes = next.1.passes;
            none = λ i above below. grind (arith, next.1.none i);
          },
        )

module _ (test : ℕ → Bool) (low n : ℕ) where
  -- the first of an ascending list is that number
  pub first_is : (found : Option ℕ) → MatchOption found (NonePasses test low (low + n)) (IsNext test low (low + n))
      → found ≡ slice_get (ascending test low n) 0
  first_is None none = sym (ap (λ xs. slice_get xs 0) (ascending-none test low n none))
  first_is (Some p) next = sym (first-from test low n p next.after next.below next.passes next.none)

  pub first_tells : (found : Option ℕ) → found ≡ slice_get (ascending test low n) 0
      → MatchOption found (NonePasses test low (low + n)) (IsNext test low (low + n))
  first_tells found is = ⊎_elim
      (λ (none : NonePasses test low (low + n)).
      subst (λ o. MatchOption o (NonePasses test low (low + n)) (IsNext test low (low + n)))
      (first_is None none ∙ sym is) none)
      (λ (next : (p : ℕ) × IsNext test low (low + n) p).
      subst (λ o. MatchOption o (NonePasses test low (low + n)) (IsNext test low (low + n)))
      (first_is (Some next.0) next.1 ∙ sym is) next.1)
      (least test n low (low + n) refl)
