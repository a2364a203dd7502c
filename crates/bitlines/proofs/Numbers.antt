-- A number read digit by digit.
use Rattle.std.proofs.Common.{◌≡◌, ℕ, ◌+◌, ◌-◌, ◌*◌, ◌^◌, ◌<◌, ◌≤◌, Bool, true, false, ◌&&◌, cond, nat_lt, eqb}
use Rattle.std.proofs.Common.{List, [], ◌∷◌, length, get_or, drop, Option, Some, None, sym, ap, ◌∙◌, refl, arith}
use Rattle.std.specs.List.{onto_first}
use Rattle.std.proofs.lemmas.List.Splits.{slice_split-cons_no}
use Rattle.std.specs.Bool.{IsTrue}
use Rattle.std.specs.Char.{is_ascii_digit, digit_value}
use Rattle.std.specs.Str.{all_ascii_digits}
use Rattle.std.specs.Str.Parse.{digits_value_after}
use Rattle.std.proofs.lemmas.Bool.{lt-ltb, true≢false}
use Rattle.std.proofs.lemmas.Bool.Decides.{nat_tests}
use Rattle.std.proofs.lemmas.Grind.{common_steps}
use Rattle.std.proofs.lemmas.List.{at_drop_more, at_drop_all}
use Rattle.bitlines.specs.Words.{◌>>=◌, words, number_of, number_at}

-- the number that digits write behind those of n, if it fits
pub number_after : ℕ → List ℕ → Option ℕ
number_after n cs =
    cond (all_ascii_digits cs && nat_lt (digits_value_after 10 n cs) (2 ^ 64)) (Some (digits_value_after 10 n cs)) None

pub number_empty : (w : List ℕ) → length w ≡ 0 → None ≡ number_of w
unfolding number_of
number_empty w e = grind (arith, nat_tests)

pub number_start : (w : List ℕ) → 0 < length w → number_of w ≡ number_after 0 w
unfolding number_of number_after
number_start w some = rw (lt-ltb 0 (length w) some) refl

after_digit : (n c : ℕ) (cs : List ℕ) → is_ascii_digit c ≡ true
    → number_after n (c ∷ cs) ≡ number_after (n * 10 + (c - 48)) cs
unfolding number_after
after_digit n c cs digit =
    let value : digit_value c ≡ c - 48 = grind (arith, nat_tests) in
    rw (digit, value) refl

value-ge : (n : ℕ) (cs : List ℕ) → n ≤ digits_value_after 10 n cs
value-ge n [] = omega arith
value-ge n (c ∷ cs) = omega (arith, value-ge (n * 10 + digit_value c) cs)

-- a digit that makes the number too large, or another byte
after_refused : (n c : ℕ) (cs : List ℕ) → (IsTrue (is_ascii_digit c) → 2 ^ 64 ≤ n * 10 + (c - 48))
    → number_after n (c ∷ cs) ≡ None
unfolding number_after
after_refused n c cs large = grind (arith, nat_tests, value-ge (n * 10 + digit_value c) cs)

after_end : (n : ℕ) → n < 2 ^ 64 → number_after n [] ≡ Some n
unfolding number_after
after_end n fits = rw (lt-ltb n (2 ^ 64) fits) refl

-- ---- the same, at a place of a word

pub number_digit : (all : Option ℕ) (n : ℕ) (w : List ℕ) (i : ℕ) → all ≡ number_after n (drop i w) → i < length w
    → is_ascii_digit (get_or w i 0) ≡ true
    → all ≡ number_after (n * 10 + (get_or w i 0 - 48)) (drop (i + 1) w)
number_digit all n w i so_far lt digit = so_far ∙ at_drop_more (number_after n) w i 0 lt ∙ after_digit n _ _ digit

pub number_refused : (all : Option ℕ) (n : ℕ) (w : List ℕ) (i : ℕ) → all ≡ number_after n (drop i w) → i < length w
    → (IsTrue (is_ascii_digit (get_or w i 0)) → 2 ^ 64 ≤ n * 10 + (get_or w i 0 - 48)) → None ≡ all
number_refused all n w i so_far lt large =
    sym (so_far ∙ at_drop_more (number_after n) w i 0 lt ∙ after_refused n _ _ large)

pub number_end : (all : Option ℕ) (n : ℕ) (w : List ℕ) (i : ℕ) → all ≡ number_after n (drop i w) → length w ≤ i
    → n < 2 ^ 64 → Some n ≡ all
number_end all n w i so_far past fits = sym (so_far ∙ at_drop_all (number_after n) w i past ∙ after_end n fits)

-- ---- up to the first space

-- the number that digits write behind those of n, up to the end of the first word, and the words behind it
abbrev pub number_on : ℕ → List (List ℕ) → Option (ℕ × List (List ℕ))
number_on n [] = number_after n [] >>= λ m. Some (m, [])
number_on n (w ∷ ws) = number_after n w >>= λ m. Some (m, ws)

on_digit : (n c : ℕ) (ws : List (List ℕ)) → is_ascii_digit c ≡ true
    → number_on n (onto_first c ws) ≡ number_on (n * 10 + (c - 48)) ws
on_digit n c [] digit = rw (after_digit n c [] digit) refl
on_digit n c (w ∷ ws) digit = rw (after_digit n c w digit) refl

on_refused : (n c : ℕ) (ws : List (List ℕ)) → (IsTrue (is_ascii_digit c) → 2 ^ 64 ≤ n * 10 + (c - 48))
    → number_on n (onto_first c ws) ≡ None
on_refused n c [] large = rw (after_refused n c [] large) refl
on_refused n c (w ∷ ws) large = rw (after_refused n c w large) refl

-- a first word that begins with a digit
first_word : (c : ℕ) (ws : List (List ℕ)) → number_at (onto_first c ws) ≡ number_on 0 (onto_first c ws)
unfolding number_at
first_word c [] = rw (number_start (c ∷ []) (omega arith)) refl
first_word c (w ∷ ws) = rw (number_start (c ∷ w) (omega arith)) refl

no_space : (c : ℕ) → is_ascii_digit c ≡ true → eqb c 32 ≡ false
no_space c digit = grind (arith, nat_tests)

words_digit : (n c : ℕ) (cs : List ℕ) → is_ascii_digit c ≡ true
    → number_on n (words (c ∷ cs)) ≡ number_on (n * 10 + (c - 48)) (words cs)
words_digit n c cs digit =
    ap (number_on n) (slice_split-cons_no (λ b. eqb b 32) c cs (no_space c digit)) ∙ on_digit n c (words cs) digit

words_space : (n c : ℕ) (cs : List ℕ) → eqb c 32 ≡ true → n < 2 ^ 64 → number_on n (words (c ∷ cs)) ≡ Some (n, words cs)
words_space n c cs space fits = rw space (rw (after_end n fits) refl)

words_refused : (n c : ℕ) (cs : List ℕ) → (IsTrue (is_ascii_digit c) → 2 ^ 64 ≤ n * 10 + (c - 48)) → eqb c 32 ≡ false
    → number_on n (words (c ∷ cs)) ≡ None
words_refused n c cs large full =
    ap (number_on n) (slice_split-cons_no (λ b. eqb b 32) c cs full) ∙ on_refused n c (words cs) large

pub words_start : (w : List ℕ) → 0 < length w → is_ascii_digit (get_or w 0 0) ≡ true
    → number_at (words w) ≡ number_on 0 (words (drop 0 w))
words_start [] some digit = absurd (omega arith)
words_start (c ∷ cs) some digit =
    rw (slice_split-cons_no (λ b. eqb b 32) c cs (no_space c digit)) (first_word c (words cs))

none_at_first : (c : ℕ) (cs : List ℕ) (t : Bool) → eqb c 32 ≡ t → is_ascii_digit c ≡ false
    → number_at (words (c ∷ cs)) ≡ None
unfolding number_at number_of
none_at_first c cs true space other = rw space refl
none_at_first c cs false full other =
    rw (slice_split-cons_no (λ b. eqb b 32) c cs full)
    (first_word c (words cs) ∙ on_refused 0 c (words cs) (λ digit. absurd (true≢false (sym digit ∙ other))))

pub words_empty : (w : List ℕ) → length w ≡ 0 → number_at (words w) ≡ None
unfolding number_at number_of
words_empty w e = grind (arith, nat_tests, common_steps)

pub words_no_digit : (w : List ℕ) → 0 < length w → is_ascii_digit (get_or w 0 0) ≡ false → number_at (words w) ≡ None
words_no_digit [] some other = absurd (omega arith)
words_no_digit (c ∷ cs) some other = none_at_first c cs (eqb c 32) refl other

-- ---- the same, at a place of a text

pub on_at_digit : (all : Option (ℕ × List (List ℕ))) (n : ℕ) (w : List ℕ) (i : ℕ) → all ≡ number_on n (words (drop i w))
    → i < length w → is_ascii_digit (get_or w i 0) ≡ true
    → all ≡ number_on (n * 10 + (get_or w i 0 - 48)) (words (drop (i + 1) w))
on_at_digit all n w i so_far lt digit =
    so_far ∙ at_drop_more (λ u. number_on n (words u)) w i 0 lt ∙ words_digit n (get_or w i 0) (drop (i + 1) w) digit

pub on_at_space : (all : Option (ℕ × List (List ℕ))) (n : ℕ) (w : List ℕ) (i : ℕ) → all ≡ number_on n (words (drop i w))
    → i < length w → eqb (get_or w i 0) 32 ≡ true → n < 2 ^ 64
    → all ≡ Some (n, words (drop (i + 1) w))
on_at_space all n w i so_far lt space fits = so_far ∙ at_drop_more (λ u. number_on n (words u)) w i 0 lt
    ∙ words_space n (get_or w i 0) (drop (i + 1) w) space fits

pub on_at_refused : (all : Option (ℕ × List (List ℕ))) (n : ℕ) (w : List ℕ) (i : ℕ)
    → all ≡ number_on n (words (drop i w)) → i < length w
    → (IsTrue (is_ascii_digit (get_or w i 0)) → 2 ^ 64 ≤ n * 10 + (get_or w i 0 - 48)) → eqb (get_or w i 0) 32 ≡ false
    → all ≡ None
on_at_refused all n w i so_far lt large full = so_far ∙ at_drop_more (λ u. number_on n (words u)) w i 0 lt
    ∙ words_refused n (get_or w i 0) (drop (i + 1) w) large full

pub on_at_end : (all : Option (ℕ × List (List ℕ))) (n : ℕ) (w : List ℕ) (i : ℕ) → all ≡ number_on n (words (drop i w))
    → length w ≤ i → n < 2 ^ 64 → all ≡ Some (n, [])
on_at_end all n w i so_far past fits =
    so_far ∙ at_drop_all (λ u. number_on n (words u)) w i past ∙ rw (after_end n fits) refl
