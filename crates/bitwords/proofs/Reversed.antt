-- A word with its bits in reverse: its positions are the word's, the last one first.
use Rattle.std.proofs.Common.{◌≡◌, ℕ, zero, suc, ◌+◌, ◌-◌, ◌*◌, ◌/◌, ◌%◌, ◌^◌, ◌<◌, ◌≤◌, ◌==◌, Bool, true, false}
use Rattle.std.proofs.Common.{cond, not, ◌&&◌, ◌||◌, nat_le, nat_lt, if◌then◌else◌, List, [], ◌∷◌, ◌++◌, length}
use Rattle.std.proofs.Common.{map, reverse, refl, sym, ap, ◌∙◌, arith, bit_and, bit_or}
use Rattle.std.specs.Int.Count.{ones}
use Rattle.std.proofs.lemmas.List.{reverse-append, append-nil, length-map, length-reverse}
use Rattle.std.proofs.lemmas.Bool.{agree_below, agree_below_at, ltb-true, eqb-true}
use Rattle.bitlanes.specs.Bits.{bit}
use Rattle.bitlanes.specs.BitLaws.{bit-or, bit-and}
use Rattle.bitwords.specs.Ascending.{ascending}
use Rattle.bitwords.specs.AscendingFacts.{ascending-append}
use Rattle.bitwords.specs.Handfuls.{word_positions, ArePairs}
use Rattle.bitwords.proofs.Shifted.{bit-down, bit-up_any}
use Rattle.bitwords.proofs.Giving.{positions-bits, length-positions}

-- ---- bits that change places

-- where the bit stood that stands at i then
abbrev partner : (by low i : ℕ) → ℕ
partner by low i = if bit low i then i + by else i - by

-- the lower ones of the pairs of bits that are `by` apart, where `by` is a power of two
abbrev lower : ℕ → ℕ
lower by = (2 ^ 64 - 1) / (2 ^ by + 1)

-- whether a number is such pairs is computed
pub are_pairs : (by low : ℕ) → agree_below (bit low) (λ i. not (nat_le by i && bit low (i - by))) 64 ≡ true
    → ArePairs by low
are_pairs by low all i below = agree_below_at (bit low) (λ i. not (nat_le by i && bit low (i - by))) 64 i all below

-- of the two bits that may come to one place, the one that `low` says
chosen : (here other low within below : Bool) → low ≡ not (within && below)
    → ((here && low) || (within && (other && below))) ≡ (if low then here else other)
chosen true other low false below e = rw e refl
chosen false other low false below e = rw e refl
chosen true true low true true e = rw e refl
chosen true false low true true e = rw e refl
chosen false true low true true e = rw e refl
chosen false false low true true e = rw e refl
chosen true true low true false e = rw e refl
chosen true false low true false e = rw e refl
chosen false true low true false e = rw e refl
chosen false false low true false e = rw e refl

pub swapped_bits : (word by low : ℕ) → ArePairs by low → (i : ℕ) → i < 64
    → bit (bit_or (bit_and (word / 2 ^ by) low) (bit_and word low * 2 ^ by % 2 ^ 64)) i ≡ bit word (partner by low i)
swapped_bits word by low pairs i below =
    let sum : by + i ≡ i + by = omega arith in
    let down = bit-and (word / 2 ^ by) low i
    ∙ ap (λ b. b && bit low i) (bit-down word by i ∙ ap (bit word) sum) in
    let up = bit-up_any (bit_and word low) by i below
    ∙ ap (λ b. nat_le by i && b) (bit-and word low (i - by)) in
    bit-or (bit_and (word / 2 ^ by) low) (bit_and word low * 2 ^ by % 2 ^ 64) i ∙ (λ j. down j || up j)
    ∙ chosen (bit word (i + by)) (bit word (i - by)) (bit low i) (nat_le by i) (bit low (i - by)) (pairs i below)
    ∙ of_place (bit low i)
  where
    of_place : (b : Bool)
        → (if b then bit word (i + by) else bit word (i - by)) ≡ bit word (if b then i + by else i - by)
    of_place true = refl
    of_place false = refl

-- bit i of the new word is bit `place i` of the old one
abbrev Moves : (place : ℕ → ℕ) (old new : ℕ) → Type 0
Moves place old new = (i : ℕ) → i < 64 → bit new i ≡ bit old (place i)

-- one move and then another, of which the latter keeps to the 64 bits
both_move : (first next : ℕ → ℕ) (old mid new : ℕ) → Moves first old mid → Moves next mid new
    → agree_below (λ i. nat_lt (next i) 64) (λ i. true) 64 ≡ true → Moves (λ i. first (next i)) old new
both_move first next old mid new one other stays i below =
    other i below
    ∙ one (next i) (ltb-true (next i) 64 (agree_below_at (λ i. nat_lt (next i) 64) (λ i. true) 64 i stays below))

module _ (word ones twos fours eights sixteens all : ℕ) (one : Moves (partner 1 (lower 1)) word ones)
    (two : Moves (partner 2 (lower 2)) ones twos) (four : Moves (partner 4 (lower 4)) twos fours)
    (eight : Moves (partner 8 (lower 8)) fours eights) (sixteen : Moves (partner 16 (lower 16)) eights sixteens)
    (half : Moves (partner 32 (lower 32)) sixteens all) where
  halved : Moves (λ i. partner 1 (lower 1) (partner 2 (lower 2) (partner 4 (lower 4) (partner 8 (lower 8)
      (partner 16 (lower 16) (partner 32 (lower 32) i)))))) word all
  halved =
      both_move _ (partner 32 (lower 32)) word sixteens all
      (both_move _ (partner 16 (lower 16)) word eights sixteens
      (both_move _ (partner 8 (lower 8)) word fours eights
      (both_move _ (partner 4 (lower 4)) word twos fours
      (both_move (partner 1 (lower 1)) (partner 2 (lower 2)) word ones twos one two refl) four refl) eight refl)
      sixteen refl) half refl

  -- all six moves together put each bit at the other end
  pub six_reverse : (i : ℕ) → i < 64 → bit all i ≡ bit word (63 - i)
  six_reverse i below =
      let place : ℕ → ℕ = λ i. partner 1 (lower 1) (partner 2 (lower 2) (partner 4 (lower 4) (partner 8 (lower 8)
      (partner 16 (lower 16) (partner 32 (lower 32) i))))) in
      halved i below
      ∙ ap (bit word) (eqb-true (place i) (63 - i)
      (agree_below_at (λ i. place i == 63 - i) (λ i. true) 64 i refl below))

-- ---- positions in reverse

-- what passes in reverse, each mirrored at `top`, is what passes
reverse-ascending : (f g : ℕ → Bool) (low top from n : ℕ) → low + n + from ≡ top + 1
    → ((i : ℕ) → from ≤ i → i < from + n → g i ≡ f (top - i))
    → map (λ b. top - b) (ascending g from n) ≡ reverse (ascending f low n)
reverse-ascending f g low top from zero ends same = refl
reverse-ascending f g low top from (suc n) ends same =
    let more : suc n ≡ n + 1 = omega arith in
    let here : top - from ≡ low + n = omega (arith, ends) in
    let passes : g from ≡ f (low + n) = same from (omega arith) (omega arith) ∙ ap f here in
    let rest = reverse-ascending f g low top (from + 1) n (omega (arith, ends))
    (λ i above below. same i (omega arith) (omega arith)) in
    (λ j. map (λ b. top - b) (cond (passes j) (from ∷ ascending g (from + 1) n) (ascending g (from + 1) n)))
    ∙ by_test (f (low + n)) (ascending g (from + 1) n) (ascending f low n) here rest
    ∙ ap reverse (sym (ap (ascending f low) more ∙ ascending-append f low n 1))
  where
    by_test : (b : Bool) (xs ys : List ℕ) → top - from ≡ low + n → map (λ b. top - b) xs ≡ reverse ys
        → map (λ b. top - b) (cond b (from ∷ xs) xs) ≡ reverse (ys ++ cond b ((low + n) ∷ []) [])
    by_test true xs ys here same = (λ j. here j ∷ same j) ∙ sym (reverse-append ys ((low + n) ∷ []))
    by_test false xs ys here same = same ∙ sym (ap reverse (append-nil ys))

module _ (word rev : ℕ) (is : (i : ℕ) → i < 64 → bit rev i ≡ bit word (63 - i)) where
  pub positions-reversed : (base : ℕ)
      → map (λ b. base + 63 - b) (word_positions 0 rev) ≡ reverse (word_positions base word)
  unfolding word_positions
  positions-reversed base =
      ap (map (λ b. base + 63 - b)) (positions-bits rev)
      ∙ reverse-ascending (λ p. bit word (p - base)) (bit rev) base (base + 63) 0 64 (omega arith)
      (λ i above below. let e : 63 - i ≡ base + 63 - i - base = omega arith in
      is i (omega arith) ∙ ap (bit word) e)

  pub ones-reversed : word < 2 ^ 64 → rev < 2 ^ 64 → ones rev ≡ ones word
  ones-reversed fits also =
      sym (length-positions 0 rev also) ∙ sym (length-map (word_positions 0 rev) (λ b. 0 + 63 - b))
      ∙ ap length (positions-reversed 0) ∙ length-reverse (word_positions 0 word) ∙ length-positions 0 word fits
