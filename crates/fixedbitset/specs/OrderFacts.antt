-- Equality and the order of values, for those who call `==` or `cmp`, or a map whose keys are sets.
use Rattle.std.proofs.Common.{Ordering, Less, Equal, Greater, nat_cmp, is_eq, Some, get_or-take, pow-suc, ◌≡◌}
use Rattle.std.proofs.Common.{ℕ, zero, suc, ◌+◌, ◌-◌, ◌*◌, ◌/◌, ◌%◌, ◌^◌, ◌<◌, ◌≤◌, inl, inr, ⊎_elim, true}
use Rattle.std.proofs.Common.{List, [], ◌∷◌, length, get_or, take, ◌==◌, IsTrue, ◌↔◌, refl, sym, ◌∙◌, ap, arith}
use Rattle.std.specs.Ordering.{ordering_then, ordering_reverse, MatchOrdering}
use Rattle.std.specs.Int.{bit_at}
use Rattle.std.specs.Cmp.{IsEquivalence, IsTotalOrder, IsPartialOrder, on_equiv, on_total, on_po}
use Rattle.std.specs.Cmp.Lexicographic.{slice_cmp, same_text, texts_ties, texts_po}
use Rattle.std.specs.Cmp.Lexicographic.{bytes_decides, nat_list_eq_equiv, nat_list_cmp_total}
use Rattle.std.proofs.lemmas.Bool.{cases_lt}
use Rattle.std.proofs.lemmas.Bool.Decides.{nat_tests}
use Rattle.std.proofs.lemmas.Cmp.{ranked}
use Rattle.std.proofs.lemmas.Nat.Bits.{bit_at-suc, bit_at_lowest}
use Rattle.bitlanes.specs.Bits.{bit}
use Rattle.bitwords.specs.RowFacts.{has_bit-at}
use Rattle.fixedbitset.specs.Bits.{Bits, contains, words}
use Rattle.fixedbitset.specs.Order.{Leads, IsBelow, key, equal, compare, fed_by}
use Rattle.fixedbitset.specs.WordsFacts.{length-words, has_bit-words, are_words, of_words-words}

-- bit i is 0 in x and 1 in y, and the two agree in the bits above it
record Tops (x y i : ℕ) : Type 0 where
  clear : bit_at x i ≡ 0
  one : bit_at y i ≡ 1
  above : (j : ℕ) → i < j → bit_at x j ≡ bit_at y j

-- past bit 0 the bits of a number are those of its half
later_bit : (x j : ℕ) → 0 < j → bit_at x j ≡ bit_at (x / 2) (j - 1)
later_bit x j up = let e : suc (j - 1) ≡ j = omega arith in ap (bit_at x) (sym e) ∙ bit_at-suc x (j - 1)

-- the lesser of two numbers lacks the greatest bit in which they differ
top_bit : (w x y : ℕ) → y < 2 ^ w → x < y → (i : ℕ) × (i < w) × Tops x y i
top_bit zero x y fits h = absurd (omega arith)
top_bit (suc w) x y fits h =
    ⊎_elim
    (λ (lt : x / 2 < y / 2).
    let t = top_bit w (x / 2) (y / 2) (omega (arith, pow-suc 2 w)) lt in (
      suc t.0,
      omega (arith, t.1),
      record {
        clear = bit_at-suc x t.0 ∙ t.2.clear;
        one = bit_at-suc y t.0 ∙ t.2.one;
        above =
            λ j up. later_bit x j (omega arith) ∙ t.2.above (j - 1) (omega arith) ∙ sym (later_bit y j (omega arith));
      },
    ))
    (λ (ge : y / 2 ≤ x / 2).
    let same : x / 2 ≡ y / 2 = omega arith in
    let lowest : (bit_at x 0 ≡ 0)
    × (bit_at y 0 ≡ 1) = (bit_at_lowest x ∙ omega arith, bit_at_lowest y ∙ omega arith) in (
      0,
      omega arith,
      record { clear = lowest.0; one = lowest.1; above = λ j up. cc (later_bit x j up, later_bit y j up) },
    ))
    (cases_lt (x / 2) (y / 2))

-- where the first list comes first there is a first item that is less
first_less : (xs ys : List ℕ) → length xs ≡ length ys → slice_cmp nat_cmp xs ys ≡ Less
    → (k : ℕ) × (get_or xs k 0 < get_or ys k 0) × (take k xs ≡ take k ys)
first_less [] [] e h = cc
first_less [] (y ∷ ys) e h = absurd (omega arith)
first_less (x ∷ xs) [] e h = absurd (omega arith)
first_less (x ∷ xs) (y ∷ ys) e h =
    ⊎_elim
    (λ (lt : x < y). (0, lt, refl))
    (λ (ge : y ≤ x).
    let same : x ≡ y = grind (arith, nat_tests) in
    let t = first_less xs ys (omega arith) (grind (arith, nat_tests)) in
    (suc t.0, t.1, cc t.2))
    (cases_lt x y)

-- where two words have the same bit
contains-word : (v : Bits) (k i : ℕ) → i < 64 → contains v (64 * k + i) ≡ bit (get_or (words v) k 0) i
contains-word v k i low = sym (has_bit-words v (64 * k + i)) ∙ has_bit-at (words v) k i low

same_position : (v w : Bits) (k i p : ℕ) → i < 64 → 64 * k + i ≡ p
    → bit_at (get_or (words v) k 0) i ≡ bit_at (get_or (words w) k 0) i → contains v p ≡ contains w p
same_position v w k i p low at e =
    rw (← at) (contains-word v k i low ∙ ap (λ b. b == 1) e ∙ sym (contains-word w k i low))

-- where the words before word k are the same, so are their positions
agree_before : (v w : Bits) (k p : ℕ) → take k (words v) ≡ take k (words w) → p / 64 < k → contains v p ≡ contains w p
agree_before v w k p agree j =
    let same = sym (get_or-take k (words v) (p / 64) 0 j) ∙ ap (λ ws. get_or ws (p / 64) 0) agree
    ∙ get_or-take k (words w) (p / 64) 0 j in
    same_position v w (p / 64) (p % 64) p (omega arith) (omega arith) (ap (λ x. bit_at x (p % 64)) same)

-- where the first words that differ are word k, and w's is greater, w leads
leads_at : (v w : Bits) (k : ℕ) → get_or (words v) k 0 < get_or (words w) k 0 → take k (words v) ≡ take k (words w)
    → Leads w v
leads_at v w k less agree =
    let t = top_bit 64 (get_or (words v) k 0) (get_or (words w) k 0) (are_words w k) less in
    let i = t.0 in
    let low : i < 64 = t.1 in (
      64 * k + i,
      contains-word w k i low ∙ ap (λ b. b == 1) t.2.one,
      contains-word v k i low ∙ ap (λ b. b == 1) t.2.clear,
      λ p.
          ⊎_elim
          (λ (earlier : p / 64 < (64 * k + i) / 64). agree_before v w k p agree (omega arith))
          (λ (up : (p / 64 ≡ (64 * k + i) / 64) × (64 * k + i < p)).
          same_position v w k (p - 64 * k) p (omega (arith, up)) (omega (arith, up))
          (t.2.above (p - 64 * k) (omega (arith, up)))),
    )

-- of two values of one length, that whose words come later leads
leads_by_words : (v w : Bits) → v.length ≡ w.length → slice_cmp nat_cmp (words v) (words w) ≡ Less → Leads w v
leads_by_words v w e h =
    let f = first_less (words v) (words w) (omega (arith, length-words v, length-words w)) h in leads_at v w f.0 f.1 f.2

equal_words : (xs ys : List ℕ) → slice_cmp nat_cmp xs ys ≡ Equal → xs ≡ ys
equal_words xs ys e = same_text xs ys (sym (texts_ties xs ys ∙ ap is_eq e))

same_key : (v w : Bits) → key v ≡ key w → v ≡ w
unfolding key
same_key v w e = cc (of_words-words v, of_words-words w)

-- the test of equality is true exactly if the values are equal
pub equal_exactly : (v w : Bits) → IsTrue (equal v w) ↔ (v ≡ w)
unfolding equal
equal_exactly v w = let d = bytes_decides (key v) (key w) in (λ h. same_key v w (d.0 h), λ e. d.1 (ap key e))

pub equal_if_same : (v w : Bits) → v ≡ w → equal v w ≡ true
equal_if_same v w e = (equal_exactly v w).1 e

pub same_if_equal : (v w : Bits) → equal v w ≡ true → v ≡ w
same_if_equal v w h = (equal_exactly v w).0 h

-- the order compares two values as equal exactly if they are
pub compare_ties : (v w : Bits) → equal v w ≡ is_eq (compare v w)
unfolding equal compare
compare_ties v w = texts_ties (key v) (key w)

pub same_if_tied : (v w : Bits) → compare v w ≡ Equal → v ≡ w
same_if_tied v w e = same_if_equal v w (compare_ties v w ∙ ap is_eq e)

-- how two values compare, said by positions
pub ordered : (v w : Bits) (o : Ordering) → o ≡ compare v w → MatchOrdering o (IsBelow v w) (v ≡ w) (IsBelow w v)
unfolding compare key
ordered v w o e =
    rw e (go (nat_cmp v.length w.length) (slice_cmp nat_cmp (words v) (words w))
    (ranked v.length w.length (nat_cmp v.length w.length) refl) refl)
  where
    go : (s o : Ordering) → MatchOrdering s (v.length < w.length) (v.length ≡ w.length) (w.length < v.length)
        → slice_cmp nat_cmp (words v) (words w) ≡ o
        → MatchOrdering (ordering_then s o) (IsBelow v w) (v ≡ w) (IsBelow w v)
    go Less o lt e = inl lt
    go Greater o gt e = inl gt
    go Equal Less long e = inr (long, leads_by_words v w long e)
    go Equal Equal long e = cc (of_words-words v, of_words-words w, equal_words (words v) (words w) e)
    go Equal Greater long e =
        inr (
          sym long,
          leads_by_words w v (sym long) (nat_list_cmp_total.antisymm (words w) (words v) ∙ ap ordering_reverse e),
        )

-- ---- the laws that the traits ask for

pub equal_laws : IsEquivalence equal
unfolding equal
equal_laws = on_equiv key nat_list_eq_equiv

pub compare_total : IsTotalOrder compare
unfolding compare
compare_total = on_total key nat_list_cmp_total

pub compare_partial : IsPartialOrder equal (λ v w. Some (compare v w))
unfolding equal compare
compare_partial = on_po key texts_po

-- equal values feed a hasher the same
pub fed_alike : (v w : Bits) → IsTrue (equal v w) → fed_by v ≡ fed_by w
fed_alike v w h = ap fed_by (same_if_equal v w h)

-- what a caller needs of a result of `==`, of `cmp` and of a map
pub ruleset facts = (equal_if_same, same_if_equal, same_if_tied)
