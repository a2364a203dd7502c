-- When all numbers of a stretch pass, for those who know of one that fails.
use Rattle.std.proofs.Common.{◌≡◌, ℕ, zero, suc, inl, inr, ◌+◌, ◌<◌, ◌≤◌, ◌&&◌, Bool, false, sym, ap, ◌∙◌, arith}
use Rattle.std.proofs.lemmas.Bool.{cases_Bool, cases_eq, true≢false}
use Rattle.std.proofs.Math.Bool.{and-false}
use Rattle.bitwords.specs.Gaps.{all_pass}

-- one that fails is enough
pub pass-fails : (t : ℕ → Bool) (k i r : ℕ) → i ≤ r → r < i + k → t r ≡ false → all_pass t k i ≡ false
pass-fails t zero i r from to fails = absurd (omega arith)
pass-fails t (suc k) i r from to fails =
    elim (cases_eq i r) [
      | inl here ↦ (let e : t i ≡ false = ap t here ∙ fails in λ j. e j && all_pass t k (i + 1))
      | inr later ↦ ap (λ x. t i && x) (pass-fails t k (i + 1) r (omega (arith, later)) (omega arith) fails)
          ∙ and-false (t i)
    ]

-- where not all pass, one fails
pub pass-finds : (t : ℕ → Bool) (k i : ℕ) → all_pass t k i ≡ false → (r : ℕ) × (i ≤ r) × (r < i + k) × (t r ≡ false)
pass-finds t zero i fails = absurd (true≢false fails)
pass-finds t (suc k) i fails =
    elim (cases_Bool (t i)) [
      | inl passes ↦ (let rest = pass-finds t k (i + 1) (sym (λ j. passes j && all_pass t k (i + 1)) ∙ fails) in
          (rest.0, omega (arith, rest.1), omega (arith, rest.2), rest.3))
      | inr here ↦ (i, omega arith, omega arith, here)
    ]
