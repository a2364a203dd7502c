-- The words of a row, joined with those at their places of another row, for those who iterate over them.
use Rattle.std.proofs.Common.{◌≡◌, ℕ, zero, suc, ◌/◌, ◌%◌, ◌<◌, ◌≤◌, Bool, false, List}
use Rattle.std.proofs.Common.{[], ◌∷◌, ◌++◌, length, get_or, refl, ap, ◌∙◌, arith, ⊎_elim}
use Rattle.std.proofs.lemmas.Bool.{cases_lt}
use Rattle.std.proofs.lemmas.List.{get_or_past}
use Rattle.bitlanes.specs.Bits.{bit}
use Rattle.bitlanes.specs.Ops.{IsWordOp}
use Rattle.bitwords.specs.Rows.{has_bit}
use Rattle.bitwords.specs.RowFacts.{AreWords, bit-zero}
use Rattle.bitwords.specs.WalkedWords.{beside}

module _ (f : ℕ → ℕ → ℕ) where
  pub length-beside : (words others : List ℕ) → length (beside f words others) ≡ length words
  length-beside [] others = refl
  length-beside (word ∷ words) [] = ap suc (length-beside words [])
  length-beside (word ∷ words) (other ∷ others) = ap suc (length-beside words others)

  -- the word at a place
  pub get_or-beside : (words others : List ℕ) (k : ℕ) → k < length words
      → get_or (beside f words others) k 0 ≡ f (get_or words k 0) (get_or others k 0)
  get_or-beside [] others k within = absurd (omega arith)
  get_or-beside (word ∷ words) [] zero within = refl
  get_or-beside (word ∷ words) [] (suc k) within = get_or-beside words [] k (omega arith)
  get_or-beside (word ∷ words) (other ∷ others) zero within = refl
  get_or-beside (word ∷ words) (other ∷ others) (suc k) within = get_or-beside words others k (omega arith)

  -- the last word
  pub beside-push : (words : List ℕ) (word : ℕ) (others : List ℕ)
      → beside f (words ++ word ∷ []) others ≡ beside f words others ++ f word (get_or others (length words) 0) ∷ []
  beside-push [] word [] = refl
  beside-push [] word (other ∷ others) = refl
  beside-push (first ∷ words) word [] = ap (λ rest. f first 0 ∷ rest) (beside-push words word [])
  beside-push (first ∷ words) word (other ∷ others) = ap (λ rest. f first other ∷ rest) (beside-push words word others)

-- the bit at a position is the truth function of the two bits there
module _ {f : ℕ → ℕ → ℕ} {t : Bool → Bool → Bool} {keep take : Bool} (law : IsWordOp f t keep take)
    (words others : List ℕ) (are_words : AreWords words) (are_others : AreWords others) (p : ℕ) where
  pub has_bit-beside_within : p / 64 < length words
      → has_bit (beside f words others) p ≡ t (has_bit words p) (has_bit others p)
  unfolding has_bit
  has_bit-beside_within within =
      ap (λ w. bit w (p % 64)) (get_or-beside f words others (p / 64) within)
      ∙ law.by_bits (get_or words (p / 64) 0) (get_or others (p / 64) 0) (p % 64) (are_words (p / 64))
      (are_others (p / 64))

-- past the words too, where nothing of the second is taken
pub has_bit-beside : {f : ℕ → ℕ → ℕ} {t : Bool → Bool → Bool} {keep take : Bool} → IsWordOp f t keep take → take ≡ false
    → (words others : List ℕ) → AreWords words → AreWords others → (p : ℕ)
    → has_bit (beside f words others) p ≡ t (has_bit words p) (has_bit others p)
unfolding has_bit
has_bit-beside {f} {t} law drops words others are_words are_others p =
    ⊎_elim
    (has_bit-beside_within law words others are_words are_others p)
    (λ (past : length words ≤ p / 64).
    let none = ap (λ w. bit w (p % 64)) (get_or_past words (p / 64) 0 past) ∙ bit-zero (p % 64) in
    let also =
    ap (λ w. bit w (p % 64)) (get_or_past (beside f words others) (p / 64) 0
    (omega (arith, past, length-beside f words others))) ∙ bit-zero (p % 64) in
    grind (arith, none, also, drops, law.of_second (bit (get_or others (p / 64) 0) (p % 64))))
    (cases_lt (p / 64) (length words))
