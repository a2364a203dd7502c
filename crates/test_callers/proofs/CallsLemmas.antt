-- What one call of a walk says of the items and the counts before and after it.
use Rattle.std.proofs.Common.{◌≡◌, ℕ, ◌+◌, true, false, Option, Some, None, [], ◌∷◌}
use Rattle.std.proofs.Common.{refl, ap, ◌∙◌, sym, reverse, length, length-append, arith}
use Rattle.std.proofs.lemmas.List.{reverse-append, reverse-reverse}
use Rattle.bitwords.specs.Walk.{Walk, GivesFirst, GivesLast}
use Rattle.test_callers.specs.Calls.{answer, rest}

pub front_call : (s : Walk) (r : Option ℕ) (t : Walk) → GivesFirst s r t
    → (r ≡ answer true s.items) × (t.items ≡ rest true s.items)
front_call s None t gives = let h = gives.0 in (rw h.0 refl, rw h.0 h.1)
front_call s (Some x) t gives = let h = gives.0 in (rw h refl, rw h refl)

pub back_call : (s : Walk) (r : Option ℕ) (t : Walk) → GivesLast s r t
    → (r ≡ answer false s.items) × (t.items ≡ rest false s.items)
back_call s None t gives = let h = gives.0 in (rw h.0 refl, rw h.0 h.1)
back_call s (Some x) t gives =
    let turned : reverse s.items ≡ x ∷ reverse t.items = ap reverse gives.0 ∙ reverse-append t.items (x ∷ []) in
    (rw turned refl, rw turned (sym (reverse-reverse t.items)))

pub ruleset calls = (front_call, back_call)

-- a call makes one turn, and one more for each word that it takes; what it takes is no longer left
pub record Counted (s t : Walk) : Type 0 where
  pub turns : t.turns + s.taken ≡ s.turns + 1 + t.taken
  pub taken : t.taken + length t.words ≡ s.taken + length s.words

pub front_counts : (s : Walk) (r : Option ℕ) (t : Walk) → GivesFirst s r t → Counted s t
front_counts s r t gives =
    let took = gives.1 in
    let words : length s.words ≡ length took.words + length t.words = ap length took.front
    ∙ length-append took.words t.words in
    record { turns = omega (arith, took.counts); taken = omega (arith, took.counts, words) }

pub back_counts : (s : Walk) (r : Option ℕ) (t : Walk) → GivesLast s r t → Counted s t
back_counts s r t gives =
    let took = gives.1 in
    let words : length s.words ≡ length t.words + length took.words = ap length took.back
    ∙ length-append t.words took.words in
    record { turns = omega (arith, took.counts); taken = omega (arith, took.counts, words) }

pub ruleset counts = (front_counts, back_counts)
