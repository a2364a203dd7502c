-- The position that decides a test: the least of the set that the test asks for, and the first in the words that
-- passes.
use Rattle.std.specs.Prelude.{slice_get}
use Rattle.std.proofs.Common.{◌≡◌, ℕ, ◌+◌, ◌-◌, ◌*◌, ◌/◌, ◌<◌, ◌≤◌, max, min, Bool, true, false, not, ◌&&◌, nat_le}
use Rattle.std.proofs.Common.{List, [], ◌∷◌, filter, length, Option, Some, None, IfSome}
use Rattle.std.proofs.Common.{refl, sym, subst, ap, ◌∙◌, arith}
use Rattle.std.proofs.lemmas.Bool.{false_from_ne_true, true_from_ne_false}
use Rattle.std.proofs.lemmas.Bool.Decides.{nat_tests}
use Rattle.bitlanes.specs.Bits.{either}
use Rattle.bitlanes.specs.Words.{lane_steps}
use Rattle.bitwords.specs.Neighbours.{IsNext}
use Rattle.bitwords.specs.Rows.{bit_test, bits_test}
use Rattle.bitwords.specs.Steps.{both_steps, search_steps, word_end}
use Rattle.fixedbitset.specs.Bits.{Bits, asc, complement, contains, minimum, of_words, storage_words}
use Rattle.fixedbitset.specs.BitsFacts.{contains_below, contains-past, length-complement}
use Rattle.fixedbitset.specs.FirstFacts.{minimum_least}
use Rattle.fixedbitset.specs.NeighbourFacts.{next_one_least, next_zero_least}
use Rattle.fixedbitset.specs.Neighbours.{next_one, next_zero}
use Rattle.fixedbitset.specs.Stored.{IsClean}
use Rattle.fixedbitset.specs.TwoSets.{intersection, difference, symmetric_difference}
use Rattle.fixedbitset.specs.TwoSetsFacts.{contains-intersection, contains-difference, contains-symmetric_difference}
use Rattle.fixedbitset.specs.WordsFacts.{length-of_words}
use Rattle.fixedbitset.proofs.JoinedCounts.{Shows, shows}
use Rattle.fixedbitset.proofs.Words.{contains_word}

-- what is told of the number that is found
pub where_some : (found : Option ℕ) (P : ℕ → Type 0) → ((p : ℕ) → found ≡ Some p → P p) → IfSome found P
where_some None P tells = tt
where_some (Some p) P tells = tells p refl

-- ---- of two sets

module _ (t : Bool → Bool → Bool) (neither : t false false ≡ false) (v w u : Bits) (xs ys : List ℕ)
    (first : Shows v xs) (second : Shows w ys) (is : (p : ℕ) → contains u p ≡ t (contains v p) (contains w p)) where
  tells : (p : ℕ) → bits_test t xs ys p ≡ contains u p
  unfolding bits_test
  tells p = (let a = first.bits p in let b = second.bits p in λ i. t (a i) (b i)) ∙ sym (is p)

  -- it stands in one of the rows
  in_rows : (p : ℕ) → contains u p ≡ true → p < 64 * max (length xs) (length ys)
  in_rows p one =
      let room = first.room in
      let room_too = second.room in
      grind (arith, neither, is p, contains-past v p, contains-past w p)

  -- the least position is the first one that passes
  least_next : (p : ℕ) → minimum u ≡ Some p → IsNext (bits_test t xs ys) 0 (64 * max (length xs) (length ys)) p
  least_next p found =
      let least = minimum_least u p found in
      record {
        after = omega arith;
        below = in_rows p least.0;
        passes = tells p ∙ least.0;
        none = λ i _ before. tells i ∙ false_from_ne_true _ (λ one. absurd (omega (arith, least.1 i one)));
      }

-- the steps over the first k words of the first row, and over as many of the second as it has
steps_upto : (k n m : ℕ) → k ≤ n → both_steps true false (min k n) (min k m) ≡ both_steps true false k m
steps_upto k n m within =
    let common : min (min k n) (min k m) ≡ min k m = omega arith in
    let rest : min k n - min k m ≡ k - m = omega arith in
    rw (common, rest) refl

steps_alike : (k n : ℕ) → k ≤ n → both_steps true true (min k n) (min k n) ≡ lane_steps k
steps_alike k n within = let here : min k n ≡ k = omega arith in rw here (omega arith)

module _ (n : ℕ) (xs : List ℕ) (m : ℕ) (ys : List ℕ) (clean : IsClean n xs) (clean_ys : IsClean m ys)
    (before after : ℕ) where
  abbrev v : Bits
  v = of_words n xs

  abbrev w : Bits
  w = of_words m ys

  -- what is told of the steps up to the first position of the words that passes
  abbrev StopsAtFirst : (t : Bool → Bool → Bool) (keep also : Bool) → Type 0
  StopsAtFirst t keep also = (p : ℕ) → IsNext (bits_test t xs ys) 0 (64 * max (length xs) (length ys)) p
      → after ≡ before + both_steps keep also (min (p / 64 + 1) (storage_words n)) (min (p / 64 + 1) (storage_words m))

  pub disjoint_stops : StopsAtFirst (λ x y. x && y) false false
      → IfSome (minimum (intersection v w)) (λ p. after ≡ before + lane_steps (p / 64 + 1))
  disjoint_stops exact =
      where_some _ _ (λ p found.
      let next = least_next (λ x y. x && y) refl v w (intersection v w) xs ys (shows n xs clean) (shows m ys clean_ys)
      (contains-intersection v w) p found in
      let one = (minimum_least (intersection v w) p found).0 in
      let both : (contains v p ≡ true) × (contains w p ≡ true) = grind (arith, contains-intersection v w p, one) in
      omega (
        arith,
        exact p next,
        contains_below v p both.0,
        contains_below w p both.1,
        length-of_words n xs,
        length-of_words m ys,
      ))

  -- the word of a position below the length is there
  has_word : (p : ℕ) → contains v p ≡ true → p / 64 + 1 ≤ storage_words n
  has_word p one = omega (arith, contains_below v p one, length-of_words n xs)

  pub subset_stops : StopsAtFirst (λ x y. x && not y) true false
      → IfSome (minimum (difference v w)) (λ p. after ≡ before + both_steps true false (p / 64 + 1) (storage_words m))
  subset_stops exact =
      where_some _ _ (λ p found.
      let next = least_next (λ x y. x && not y) refl v w (difference v w) xs ys (shows n xs clean) (shows m ys clean_ys)
      (contains-difference v w) p found in
      let one = (minimum_least (difference v w) p found).0 in
      let first : contains v p ≡ true = grind (arith, contains-difference v w p, one) in
      exact p next
      ∙ ap (λ s. before + s) (steps_upto (p / 64 + 1) (storage_words n) (storage_words m) (has_word p first)))

  pub equal_stops : StopsAtFirst either true true
      → IfSome (minimum (symmetric_difference v w)) (λ p. n ≡ m → after ≡ before + lane_steps (p / 64 + 1))
  equal_stops exact =
      where_some _ (λ p. n ≡ m → after ≡ before + lane_steps (p / 64 + 1)) (λ p found same.
      let next = least_next either refl v w (symmetric_difference v w) xs ys (shows n xs clean) (shows m ys clean_ys)
      (contains-symmetric_difference v w) p found in
      let like : storage_words m ≡ storage_words n = ap storage_words (sym same) in
      let k : ℕ = p / 64 + 1 in
      exact p next
      ∙ ap (λ s. before + both_steps true true (min k (storage_words n)) (min k s)) like
      ∙ ap (λ s. before + s) (steps_alike k (storage_words n)
      (omega (arith, next.below, clean.count, clean_ys.count, like))))

-- ---- of a range

module _ (n : ℕ) (ws : List ℕ) (clean : IsClean n ws) (start end : ℕ) (within : end ≤ n) (before after : ℕ) where
  abbrev set : Bits
  set = of_words n ws

  abbrev StopsAt : ℕ → Type 0
  StopsAt p = after ≡ before + search_steps start (min end (word_end p))

  pub any_stops : ((p : ℕ) → IsNext (bit_test (λ y. true && y) ws) start end p → StopsAt p)
      → IfSome (next_one set start) (λ p. p < end → StopsAt p)
  unfolding bit_test
  any_stops exact =
      where_some _ (λ p. p < end → StopsAt p) (λ p found below.
      let least = next_one_least set start p found in
      exact p (record {
        after = least.1;
        below = below;
        passes = contains_word n ws p clean ∙ least.0;
        none = λ i from to.
            contains_word n ws i clean
            ∙ false_from_ne_true _ (λ one. absurd (omega (arith, least.2 i from one)));
      }))

  pub all_stops : ((p : ℕ) → IsNext (bit_test (λ y. true && not y) ws) start end p → StopsAt p)
      → IfSome (next_zero set start) (λ p. p < end → StopsAt p)
  unfolding bit_test
  all_stops exact =
      where_some _ (λ p. p < end → StopsAt p) (λ p found below.
      let least = next_zero_least set start p found in
      exact p (record {
        after = least.1;
        below = below;
        passes = ap not (contains_word n ws p clean ∙ least.0);
        none = λ i from to.
            ap not (contains_word n ws i clean
            ∙ true_from_ne_false _ (λ clear.
            absurd (omega (arith, least.3 i from (omega (arith, length-of_words n ws)) clear))));
      }))

-- from 0 on, the next one is the least one
all_from_start : (xs : List ℕ) → filter (nat_le 0) xs ≡ xs
all_from_start [] = refl
all_from_start (x ∷ xs) = grind (arith, nat_tests, all_from_start xs)

least_from_start : (u : Bits) → next_one u 0 ≡ minimum u
unfolding next_one minimum
least_from_start u = ap (λ xs. slice_get xs 0) (all_from_start (asc u))

-- the least one that a set lacks is below its length
pub full_stops : (n : ℕ) (v : Bits) → v.length ≡ n → (P : ℕ → Type 0) → IfSome (next_zero v 0) (λ p. p < n → P p)
    → IfSome (minimum (complement v)) P
unfolding next_zero
full_stops n v long P stops =
    where_some _ P (λ p found.
    subst (λ o. IfSome o (λ q. q < n → P q)) (least_from_start (complement v) ∙ found) stops
    (omega (
      arith,
      long,
      contains_below (complement v) p (minimum_least (complement v) p found).0,
      length-complement v,
    )))
