-- Texts of arguments are read back.
use Rattle.std.proofs.Common.{◌≡◌, ℕ, ◌+◌, ◌^◌, ◌<◌, Bool, true, false, not, eqb, List, []}
use Rattle.std.proofs.Common.{◌∷◌, ◌++◌, length, map, Some, refl, ap, ◌∙◌, arith, decimal}
use Rattle.std.specs.Prelude.{slice_index_or, position}
use Rattle.std.specs.Char.{is_ascii_digit}
use Rattle.std.specs.Str.{all_ascii_digits}
use Rattle.std.specs.Str.Parse.{digits_value}
use Rattle.std.specs.List.{slice_split, onto_first, list_all, position_or_len}
use Rattle.std.proofs.lemmas.Bool.{lt-ltb, eq-eqb, not-true, and_from, and_parts}
use Rattle.std.proofs.lemmas.Bool.Decides.{nat_tests}
use Rattle.std.proofs.lemmas.Str.Parse.{IsNumeralModel, numerals_by_value, tells_all_ascii_digits}
use Rattle.std.proofs.lemmas.Grind.{common_steps}
use Rattle.std.proofs.lemmas.Fmt.{digits_decimal, digits_value-decimal, decimal_nonempty}
use Rattle.std.proofs.lemmas.List.Folds.{list_all-append}
use Rattle.std.proofs.lemmas.List.Splits.{slice_split-cons_yes, slice_split-cons_no}
use Rattle.bitcommands.specs.declared.commands.arguments.End.{End}
use Rattle.bitcommands.specs.Texts.{flag_text}
use Rattle.bitlines.specs.Words.{number_of}
use Rattle.bitlines.specs.Arguments.{flag_of, end_of, ends_from, ends_of}
use Rattle.bitlines.specs.Written.{letter}

-- ---- bytes that a text lacks

-- whether the byte is nowhere in the text
abbrev pub lacks : ℕ → List ℕ → Bool
lacks b text = list_all (λ x. not (eqb x b)) text

pub lacks-append : (b : ℕ) (xs ys : List ℕ) → lacks b xs ≡ true → lacks b ys ≡ true → lacks b (xs ++ ys) ≡ true
lacks-append b xs ys e f = list_all-append (λ x. not (eqb x b)) xs ys ∙ and_from _ _ e f

-- a text is cut at the first byte
pub cut_at : (b : ℕ) (xs ys : List ℕ) → lacks b xs ≡ true
    → slice_split (λ x. eqb x b) (xs ++ b ∷ ys) ≡ xs ∷ slice_split (λ x. eqb x b) ys
cut_at b [] ys e = slice_split-cons_yes (λ x. eqb x b) b ys (eq-eqb b b refl)
cut_at b (x ∷ xs) ys e =
    slice_split-cons_no (λ x. eqb x b) x (xs ++ b ∷ ys) (not-true _ (and_parts _ _ e).0)
    ∙ ap (onto_first x) (cut_at b xs ys (and_parts _ _ e).1)

pub not_cut : (b : ℕ) (xs : List ℕ) → lacks b xs ≡ true → slice_split (λ x. eqb x b) xs ≡ xs ∷ []
not_cut b [] e = refl
not_cut b (x ∷ xs) e = slice_split-cons_no (λ x. eqb x b) x xs (not-true _ (and_parts _ _ e).0)
    ∙ ap (onto_first x) (not_cut b xs (and_parts _ _ e).1)

-- ---- numbers

pub own : IsNumeralModel (λ ds. all_ascii_digits ds ≡ true) (digits_value 10)
own = numerals_by_value (λ ds. all_ascii_digits ds ≡ true) tells_all_ascii_digits

pub number_read : (n : ℕ) → n < 2 ^ 64 → number_of (decimal n) ≡ Some n
unfolding number_of
number_read n h =
    rw (
      lt-ltb 0 (length (decimal n)) (decimal_nonempty n h),
      digits_decimal own n h,
      digits_value-decimal own n h,
      lt-ltb n (2 ^ 64) h,
    ) refl

-- a byte that is no digit is nowhere among digits
pub digits_lack : (b : ℕ) (ds : List ℕ) → is_ascii_digit b ≡ false → all_ascii_digits ds ≡ true → lacks b ds ≡ true
digits_lack b [] none e = refl
digits_lack b (d ∷ ds) none e =
    let parts = and_parts (is_ascii_digit d) _ e in
    grind (arith, nat_tests, parts, digits_lack b ds none parts.1)

-- ---- a range

position_or_len_cut : (b : ℕ) (xs ys : List ℕ) → lacks b xs ≡ true
    → position_or_len (λ x. eqb x b) (xs ++ b ∷ ys) ≡ length xs
position_or_len_cut b [] ys e = rw (eq-eqb b b refl) refl
position_or_len_cut b (x ∷ xs) ys e =
    grind (arith, nat_tests, position_or_len_cut b xs ys (and_parts (not (eqb x b)) (lacks b xs) e).1)

pub found_at : (b : ℕ) (xs ys : List ℕ) → lacks b xs ≡ true → position (λ x. eqb x b) (xs ++ b ∷ ys) ≡ Some (length xs)
found_at b xs ys e = grind (arith, nat_tests, common_steps, position_or_len_cut b xs ys e)

pub second_dot : (xs ys : List ℕ) → slice_index_or (xs ++ 46 ∷ 46 ∷ ys) (length xs + 1) 0 ≡ 46
second_dot xs ys = grind (arith, common_steps)

pub not_first : (xs : List ℕ) → lacks 61 xs ≡ true → eqb (slice_index_or xs 0 0) 61 ≡ false
not_first [] e = refl
not_first (x ∷ xs) e = not-true _ (and_parts _ _ e).0

-- ---- flags and letters

pub flag_lacks : (e : Bool) → lacks 32 (flag_text e) ≡ true
flag_lacks e = grind arith

pub flag_read : (e : Bool) → flag_of (flag_text e) ≡ Some e
unfolding flag_of
flag_read e = grind arith

pub letters_lack : (es : List End) → lacks 32 (map letter es) ≡ true
letters_lack [] = refl
letters_lack (e ∷ es) = grind (arith, letters_lack es)

letters_from : (es : List End) → ends_from (map letter es) ≡ Some es
unfolding ends_from end_of
letters_from [] = refl
letters_from (e ∷ es) = grind (arith, letters_from es)

pub letters_read : (es : List End) → 0 < length es → ends_of (map letter es) ≡ Some es
unfolding ends_of
letters_read [] h = absurd (omega arith)
letters_read (e ∷ es) h = letters_from (e ∷ es)
