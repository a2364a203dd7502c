-- What one set has and another one lacks, of the words in which they are kept.
use Rattle.std.specs.Prelude.{slice_get}
use Rattle.std.proofs.Common.{◌≡◌, ℕ, Bool, true, ◌*◌, ◌≤◌, not, ◌&&◌, ◌||◌, List, length, refl, ap, arith}
use Rattle.bitlanes.specs.Changes.{changes}
use Rattle.bitwords.specs.Ascending.{ascending}
use Rattle.bitwords.specs.Rows.{has_bit, count_below, bits_test, IsJoined}
use Rattle.fixedbitset.specs.Bits.{Bits, contains, minimum, of_words}
use Rattle.fixedbitset.specs.Stored.{IsClean, joined, count_joined}
use Rattle.fixedbitset.specs.TwoSets.{difference}
use Rattle.fixedbitset.specs.TwoSetsFacts.{contains-difference, length-difference}
use Rattle.fixedbitset.specs.WordsFacts.{length-of_words}
use Rattle.fixedbitset.proofs.JoinedCounts.{count_joined-below}
use Rattle.fixedbitset.proofs.Positions.{row-asc}
use Rattle.fixedbitset.proofs.Words.{Keeps, keeps_joined, contains_word, holds_all}

module _ (n : ℕ) (xs : List ℕ) (m : ℕ) (ys : List ℕ) (clean : IsClean n xs) (clean_ys : IsClean m ys) where
  abbrev left : Bits
  left = difference (of_words n xs) (of_words m ys)

  abbrev passes : ℕ → Bool
  passes = bits_test (λ x y. x && not y) xs ys

  -- the positions that are left
  pub passes_left : (p : ℕ) → passes p ≡ contains left p
  unfolding bits_test
  passes_left p =
      grind (
        arith,
        contains_word n xs p clean,
        contains_word m ys p clean_ys,
        contains-difference (of_words n xs) (of_words m ys) p,
      )

  room : left.length ≤ 64 * length xs
  room = omega (arith, length-difference (of_words n xs) (of_words m ys), holds_all n xs (of_words n xs) refl clean)

  -- the first of them
  pub first_left : slice_get (ascending passes 0 (64 * length xs)) 0 ≡ minimum left
  unfolding minimum
  first_left = ap (λ ps. slice_get ps 0) (row-asc left passes (64 * length xs) room passes_left)

  -- a third set takes them in
  pub keeps_taken : (k : ℕ) (ws new : List ℕ) → IsClean k ws → n ≤ k → IsJoined (λ x y. x || y) ws passes new
      → Keeps k new (joined (λ x y. x || y) (of_words k ws) left)
  keeps_taken k ws new clean_ws shorter done =
      keeps_joined k ws new (of_words k ws) left refl clean_ws passes passes_left done true (λ y. refl)
      (λ _.
      omega (
        arith,
        shorter,
        length-difference (of_words n xs) (of_words m ys),
        length-of_words n xs,
        length-of_words k ws,
      ))

  -- how many of them a third set gains
  pub gained_left : (k : ℕ) (ws : List ℕ) → IsClean k ws → n ≤ k
      → count_joined (changes (λ x y. x || y)) (of_words k ws) left
      ≡ count_below (λ p. changes (λ x y. x || y) (has_bit ws p) (passes p)) (64 * length ws)
  gained_left k ws clean_ws shorter =
      count_joined-below (changes (λ x y. x || y)) refl (of_words k ws) left (64 * length ws) _
      (holds_all k ws (of_words k ws) refl clean_ws)
      (let r = room in omega (arith, clean.count, clean_ws.count))
      (λ p. let a = contains_word k ws p clean_ws in let b = passes_left p in λ i. changes (λ x y. x || y) (a i) (b i))
