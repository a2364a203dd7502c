-- The laws of ranges are proved.
use Rattle.std.proofs.Common.{◌≡◌, ℕ, ◌*◌, ◌/◌, ◌<◌, ◌≤◌, max, true, ◌∙◌, arith, ⊎_elim}
use Rattle.std.specs.FinSet as set
use Rattle.std.proofs.lemmas.Bool.{cases_lt}
use Rattle.std.proofs.lemmas.Bool.Decides.{nat_tests}
use Rattle.fixedbitset.specs.Bits.{words_needed}
use Rattle.fixedbitset.specs.BitsFacts.{same_bits, contains_below}
use Rattle.bitwords.specs.CountFacts.{count-zero}
use Rattle.fixedbitset.specs.Numbers.{numbers_between}
use Rattle.fixedbitset.specs.NumbersFacts.{contains-numbers_between, len-below, same_set, same_truth}
use Rattle.fixedbitset.specs.SizeFacts.{len-numbers_between}
use Rattle.fixedbitset.specs.RangesFacts.{length-toggle_range, contains-toggle_range}
use Rattle.bitlaws.specs.RangeLaws.{WordsOfRange, NumberOfRangeWords, TogglingTwice, IsValidTells}

-- ---- the words of a range

pub words_of_range : WordsOfRange
words_of_range start end k some = (
  λ held. let a = held.1 in let b = held.2 in let e = held.3 in ((omega arith), (omega arith)),
  λ walked. let a = walked.0 in let b = walked.1 in (max start (64 * k), (omega arith), (omega arith), (omega arith)),
)

pub number_of_range_words : NumberOfRangeWords
number_of_range_words start end words same =
    ⊎_elim
    (λ (some : start < end).
    let is = words_of_range start end in
    let first : ℕ = start / 64 in
    let past : ℕ = words_needed end in
    let all : words ≡ numbers_between first past = same_set _ _ (λ k. same_truth _ _
    (λ one. let within = (is k some).0 ((same k).0 one) in simp contains-numbers_between (grind (arith, nat_tests)))
    (λ one. let within = simp contains-numbers_between at one in
    (same k).1 ((is k some).1 (grind (arith, nat_tests), grind (arith, nat_tests))))) in
    simp (all, len-numbers_between) (grind (arith, nat_tests)))
    (λ (none : end ≤ start).
    let out : (k : ℕ) → set.contains words k ≡ true → k < 0 = λ k one. let held = (same k).0 one in
    absurd (omega (arith, held.1, held.2)) in
    len-below 0 words out ∙ count-zero (set.contains words) ∙ grind (arith, nat_tests))
    (cases_lt start end)

-- ---- a change undone

pub toggling_twice : TogglingTwice
toggling_twice v start end =
    same_bits _ _ (simp length-toggle_range)
    (λ p. simp (contains-toggle_range, length-toggle_range) (grind (arith, nat_tests, contains_below v p)))

-- ---- the tests

pub is_valid_tells : IsValidTells
is_valid_tells v start end =
    (λ valid. (grind (arith, nat_tests), grind (arith, nat_tests)), λ ends. grind (arith, nat_tests))
