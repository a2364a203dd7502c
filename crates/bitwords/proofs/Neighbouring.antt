-- The position next to a given one, found in its own word or in the first word behind it that has one.
use Rattle.std.proofs.Common.{◌≡◌, ℕ, ◌+◌, ◌-◌, ◌*◌, ◌/◌, ◌%◌, ◌^◌, ◌<◌, ◌≤◌, Bool, true, false}
use Rattle.std.proofs.Common.{◌&&◌, nat_lt, nat_le, List, length, get_or, map, Option, Some, None}
use Rattle.std.proofs.Common.{refl, sym, ap, ◌∙◌, arith, ◌↔◌, IsTrue, IfSome, IfNone, is_none}
use Rattle.std.specs.Int.{bit_at}
use Rattle.std.proofs.lemmas.Bool.{true≢false}
use Rattle.std.proofs.lemmas.Bool.Decides.{nat_tests}
use Rattle.std.proofs.lemmas.List.{get_or-map, length-map}
use Rattle.std.proofs.lemmas.Nat.{shr-shr}
use Rattle.std.proofs.lemmas.Nat.Bits.{bit_at-zero, bit_at_above}
use Rattle.bitlanes.specs.Bits.{bit}
use Rattle.bitlanes.specs.Ops.{IsWordOp}
use Rattle.bitlanes.specs.Search.{IsNextOne, IsPreviousOne, AreZerosFrom, AreZerosBelow}
use Rattle.bitlanes.specs.Word.{IsLowestBit, IsHighestBit}
use Rattle.bitwords.specs.Neighbours.{IsNext, IsPrevious, NonePasses}
use Rattle.bitwords.specs.Rows.{has_bit, in_range, bit_test}
use Rattle.bitwords.specs.RowFacts.{AreWords, has_bit-past}
use Rattle.bitwords.proofs.Counted.{word-bits}
use Rattle.bitwords.proofs.Parts.{masked_whole}

-- two stretches that pass nothing, one behind the other
none-append : (passes : ℕ → Bool) (start middle end : ℕ) → NonePasses passes start middle → NonePasses passes middle end
    → NonePasses passes start end
none-append passes start middle end one two i after below = grind (arith, one i, two i)

module _ {f : ℕ → ℕ → ℕ} {t : Bool → Bool → Bool} {keep take_right : Bool} (law : IsWordOp f t keep take_right)
    (drops : take_right ≡ false) (ws : List ℕ) (words : AreWords ws) where
  abbrev passes : ℕ → Bool
  passes = bit_test (t true) ws

  -- word k, joined with the mask of the positions of it from start up to and without end
  module _ (k mask start end : ℕ) (fits : mask < 2 ^ 64) (from : 64 * k ≤ start) (to : end ≤ 64 * (k + 1))
      (masked : (i : ℕ) → bit mask i ≡ (nat_lt i 64 && in_range start end (64 * k + i))) where
    abbrev word : ℕ
    word = f mask (get_or ws k 0)

    -- a position of the range whose bit is clear does not pass
    clear_fails : (i : ℕ) → start ≤ i → i < end → bit_at word (i - 64 * k) ≡ 0 → passes i ≡ false
    clear_fails i after below clear =
        let at : 64 * k + (i - 64 * k) ≡ i = omega arith in
        let bits = rw at at (word-bits law drops ws words k mask start end fits masked (i - 64 * k) (omega arith)) in
        grind (arith, nat_tests, bits)

    -- where the word is 0, no position of the range passes
    none_in_word : word ≡ 0 → NonePasses passes start end
    none_in_word zero i after below =
        clear_fails i after below (ap (λ w. bit_at w (i - 64 * k)) zero ∙ bit_at-zero (i - 64 * k))

    -- its bit j that is set is a position of the range that passes
    set_passes : (j : ℕ) → j < 64 → bit_at word j ≡ 1
        → (start ≤ 64 * k + j) × ((64 * k + j < end) × (passes (64 * k + j) ≡ true))
    set_passes j low set = grind (arith, nat_tests, word-bits law drops ws words k mask start end fits masked j low)

    -- its lowest bit is the first position of the range that passes
    lowest_next : (j : ℕ) → IsLowestBit word j → IsNext passes start end (64 * k + j)
    lowest_next j low =
        let at = set_passes j low.within low.set in
        record {
          after = at.0;
          below = at.1.0;
          passes = at.1.1;
          none = λ i after before. clear_fails i after (omega (arith, at)) (low.lowest (i - 64 * k) (omega arith));
        }

    -- its highest bit is the last one
    highest_previous : (j : ℕ) → IsHighestBit word j → IsPrevious passes end (64 * k + j)
    highest_previous j high =
        let at = set_passes j high.within high.set in
        record {
          below = at.1.0;
          passes = at.1.1;
          none = λ i after before. clear_fails i (omega (arith, at)) before (high.highest (i - 64 * k) (omega arith));
        }

  -- the words from place a up to and without b, where each is 0 once it is joined with all ones
  pub none_in_words : (a b : ℕ) → b ≤ length ws → ((m : ℕ) → a ≤ m → m < b → get_or (map (f (2 ^ 64 - 1)) ws) m 0 ≡ 0)
      → NonePasses passes (64 * a) (64 * b)
  none_in_words a b within zeros i after below =
      let m : ℕ = i / 64 in
      none_in_word m (2 ^ 64 - 1) (64 * m) (64 * (m + 1)) (omega arith) (omega arith) (omega arith) (masked_whole m)
      (sym (get_or-map (f (2 ^ 64 - 1)) ws m 0 0 (omega arith)) ∙ zeros m (omega arith) (omega arith)) i (omega arith)
      (omega arith)

  -- what the word of `from` tells, joined with all ones and moved down so that the bit of `from` is its lowest
  module _ (from w : ℕ) (is : w ≡ f (2 ^ 64 - 1) (get_or ws (from / 64) 0)) where
    abbrev rest : ℕ
    rest = w / 2 ^ (from % 64)

    rest_bit : (i : ℕ) → bit_at rest i ≡ bit_at (f (2 ^ 64 - 1) (get_or ws (from / 64) 0)) (from % 64 + i)
    rest_bit i = ap (λ n. n % 2) (shr-shr w (from % 64) i) ∙ ap (λ n. bit_at n (from % 64 + i)) is

    clear_from : (p : ℕ) → from ≤ p → p < 64 * (from / 64 + 1) → bit_at rest (p - from) ≡ 0 → passes p ≡ false
    clear_from p after below clear =
        let at : from % 64 + (p - from) ≡ p - 64 * (from / 64) = omega arith in
        clear_fails (from / 64) (2 ^ 64 - 1) (64 * (from / 64)) (64 * (from / 64 + 1)) (omega arith) (omega arith)
        (omega arith) (masked_whole (from / 64)) p (omega arith) below
        (rw at at (sym (rest_bit (p - from)) ∙ clear))

    -- a bit of it that is set is one of the word
    pub own_bit : (j : ℕ) → IsLowestBit rest j → from % 64 + j < 64
    own_bit j low =
        grind (
          arith,
          rest_bit j,
          low.set,
          bit_at_above (f (2 ^ 64 - 1) (get_or ws (from / 64) 0)) 64 (from % 64 + j)
              (law.fits (2 ^ 64 - 1) (get_or ws (from / 64) 0) (omega arith) (words (from / 64))),
        )

    pub own_next : (j : ℕ) → IsLowestBit rest j → from < 64 * length ws → IsNext passes from (64 * length ws) (from + j)
    own_next j low within =
        let k : ℕ = from / 64 in
        let set = sym (rest_bit j) ∙ low.set in
        let short = own_bit j low in
        let at = set_passes k (2 ^ 64 - 1) (64 * k) (64 * (k + 1)) (omega arith) (omega arith) (omega arith)
        (masked_whole k) (from % 64 + j) short set in
        let place : 64 * k + (from % 64 + j) ≡ from + j = omega arith in
        record {
          after = omega arith;
          below = omega (arith, at.1.0);
          passes = rw place at at.1.1;
          none = λ i after before. clear_from i after (omega arith) (low.lowest (i - from) (omega arith));
        }

    module _ (zero : rest ≡ 0) where
      here : NonePasses passes from (64 * (from / 64 + 1))
      here i after below = clear_from i after below (ap (λ n. bit_at n (i - from)) zero ∙ bit_at-zero (i - from))

      -- the first position of a later word, where no word before it has one
      pub later_next : (k v : ℕ) → v ≡ f (2 ^ 64 - 1) (get_or ws k 0) → (j : ℕ)
          → IsNextOne (map (f (2 ^ 64 - 1)) ws) (from / 64 + 1) k → IsLowestBit v j
          → IsNext passes from (64 * length ws) (64 * k + j)
      later_next k v whole j word low =
          let within : k < length ws = omega (arith, word.within, length-map ws (f (2 ^ 64 - 1))) in
          let first = lowest_next k (2 ^ 64 - 1) (64 * k) (64 * (k + 1)) (omega arith) (omega arith) (omega arith)
          (masked_whole k) j (rw whole at low) in
          let between = none_in_words (from / 64 + 1) k (omega arith) word.zeros in
          record {
            after = omega (arith, word.after);
            below = omega (arith, first.below);
            passes = first.passes;
            none = none-append passes _ _ _ here (none-append passes _ _ _ between first.none);
          }

      -- where no later word has one
      pub none_later : AreZerosFrom (map (f (2 ^ 64 - 1)) ws) (from / 64 + 1) → NonePasses passes from (64 * length ws)
      none_later zeros =
          none-append passes _ _ _ here
          (none_in_words (from / 64 + 1) (length ws) (omega arith) (λ m from_m _. zeros m from_m))

  -- what the word of `last` tells, joined with the mask of the positions of it up to there
  module _ (last mask w : ℕ) (fits : mask < 2 ^ 64) (bits : (i : ℕ)
      → bit mask i ≡ (nat_le 0 i && nat_lt i (last % 64 + 1))) (is : w ≡ f mask (get_or ws (last / 64) 0)) where
    masked_upto : (i : ℕ) → bit mask i ≡ (nat_lt i 64 && in_range (64 * (last / 64)) (last + 1) (64 * (last / 64) + i))
    masked_upto i = bits i ∙ grind (arith, nat_tests)

    pub own_previous : (j : ℕ) → IsHighestBit w j → IsPrevious passes (last + 1) (64 * (last / 64) + j)
    own_previous j high =
        highest_previous (last / 64) mask (64 * (last / 64)) (last + 1) fits (omega arith) (omega arith) masked_upto j
        (rw is at high)

    module _ (within : last < 64 * length ws) (zero : w ≡ 0) where
      upto : NonePasses passes (64 * (last / 64)) (last + 1)
      upto =
          none_in_word (last / 64) mask (64 * (last / 64)) (last + 1) fits (omega arith) (omega arith) masked_upto
          (sym is ∙ zero)

      -- the last position of an earlier word, where no word behind it has one
      pub earlier_previous : (k v : ℕ) → v ≡ f (2 ^ 64 - 1) (get_or ws k 0) → (j : ℕ)
          → IsPreviousOne (map (f (2 ^ 64 - 1)) ws) (last / 64) k → IsHighestBit v j
          → IsPrevious passes (last + 1) (64 * k + j)
      earlier_previous k v whole j word high =
          let found = highest_previous k (2 ^ 64 - 1) (64 * k) (64 * (k + 1)) (omega arith) (omega arith) (omega arith)
          (masked_whole k) j (rw whole at high) in
          let between = none_in_words (k + 1) (last / 64) (omega arith)
          (λ m from_m to_m. word.zeros m (omega arith) to_m) in
          record {
            below = omega (arith, word.before, found.below);
            passes = found.passes;
            none = none-append passes _ _ _ found.none (none-append passes _ _ _ between upto);
          }

      -- where no earlier word has one
      pub none_earlier : AreZerosBelow (map (f (2 ^ 64 - 1)) ws) (last / 64) → NonePasses passes 0 (last + 1)
      none_earlier zeros =
          none-append passes _ _ _ (none_in_words 0 (last / 64) (omega arith) (λ m _ to_m. zeros m to_m)) upto

-- there is no position from one on exactly if no next one is found up to the end of the words
pub none_is_left : (ws : List ℕ) (start : ℕ) (next : Option ℕ)
    → IfSome next (IsNext (bit_test (λ y. y) ws) start (64 * length ws))
    → IfNone next (NonePasses (bit_test (λ y. y) ws) start (64 * length ws))
    → IsTrue (is_none next) ↔ ((p : ℕ) → start ≤ p → has_bit ws p ≡ false)
unfolding bit_test
none_is_left ws start None found none = (
  λ _ p from. grind (arith, none p, has_bit-past ws p),
  λ _. refl,
)
none_is_left ws start (Some q) found none = (
  λ told. absurd (true≢false (sym told)),
  λ all. absurd (true≢false (sym found.passes ∙ all q found.after)),
)
