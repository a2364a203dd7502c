-- What stands in quotes for a character.
use Rattle.std.proofs.Common.{◌≡◌, ℕ, ◌/◌, ◌%◌, ◌<◌, ◌≤◌, true, ◌||◌, ◌==◌, cond, List}
use Rattle.std.proofs.Common.{[], ◌∷◌, length, get_or, suc, refl, sym, arith, append-nil}
use Rattle.std.specs.Prelude.{nat_lt}
use Rattle.std.proofs.lemmas.Bool.Decides.{nat_tests}
use Rattle.std.proofs.lemmas.Str.{encode_ascii, inside_one}
use Rattle.std.specs.Char.{encode_utf8, digit_char}
use Rattle.std.specs.List.{flat_map}
use Rattle.serde_json.proofs.OnLiterals.{serde_json_on_literals}
use Rattle.bitcommands.specs.Quoting.{quoting, escaped, in_quotes}

-- the letter that stands for a byte behind a backslash, or 0 where there is none
abbrev letter : ℕ → ℕ
letter x =
    cond ((x == 34) || (x == 92)) x
    (cond (x == 8) 98 (cond (x == 12) 102 (cond (x == 10) 110 (cond (x == 13) 114 (cond (x == 9) 116 0)))))

escaped-is : (x : ℕ)
    → escaped x ≡ cond (nat_lt 0 (letter x)) (92 ∷ letter x ∷ [])
    (cond (nat_lt x 32) (92 ∷ 117 ∷ 48 ∷ 48 ∷ digit_char (x / 16) ∷ digit_char (x % 16) ∷ []) (x ∷ []))
unfolding escaped quoting serde_json_on_literals
escaped-is x = refl

-- a character that has a letter
pub of_letter : (c : ℕ) → nat_lt 0 (letter c) ≡ true → in_quotes c ≡ 92 ∷ letter c ∷ []
of_letter c has = grind (arith, nat_tests, escaped-is, encode_ascii)

pub ruleset letters = (of_letter)

escaped-plain : (x : ℕ) → (x ≡ 34 → ⊥) → (x ≡ 92 → ⊥) → 32 ≤ x → escaped x ≡ x ∷ []
escaped-plain x q b l = grind (arith, nat_tests, escaped-is)

all_plain : (bytes : List ℕ) → ((k : ℕ) → k < length bytes → 128 ≤ get_or bytes k 0) → flat_map escaped bytes ≡ bytes
all_plain [] high = refl
all_plain (x ∷ xs) high = grind (arith, high 0, escaped-plain x, all_plain xs (λ k below. high (suc k) (omega arith)))

-- any other character that is not below the space stands for itself
pub of_other : (c : ℕ) → 32 ≤ c → (c ≡ 34 → ⊥) → (c ≡ 92 → ⊥) → in_quotes c ≡ encode_utf8 c
of_other c above q b =
    grind (
      arith,
      encode_ascii c,
      escaped-plain c,
      λ (big : 128 ≤ c).
          all_plain (encode_utf8 c)
          (λ k below. grind (arith, inside_one c [] (encode_utf8 c) k (sym (append-nil _)) below)),
    )

-- a character below the space that has no letter stands there by the four digits of its code
pub of_control : (c : ℕ) → c < 32 → (c ≡ 8 → ⊥) → (c ≡ 9 → ⊥) → (c ≡ 10 → ⊥) → (c ≡ 12 → ⊥) → (c ≡ 13 → ⊥)
    → in_quotes c ≡ 92 ∷ 117 ∷ 48 ∷ 48 ∷ digit_char (c / 16) ∷ digit_char (c % 16) ∷ []
of_control c below a t n f r = grind (arith, nat_tests, escaped-is, encode_ascii)
