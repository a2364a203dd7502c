-- The bits of words and of their bytes.
use Rattle.std.proofs.Common.{◌≡◌, ℕ, zero, suc, ◌+◌, ◌*◌, ◌/◌, ◌%◌, ◌^◌, ◌<◌, List, get_or, refl, sym, ◌∙◌, arith}
use Rattle.std.specs.Int.{bit_at, sum_through, byte_worth}
use Rattle.std.proofs.lemmas.Nat.{pow-add, shr-shr, mul-add-lt}
use Rattle.std.proofs.lemmas.Nat.Bits.{bit_at_cat_low, bit_at_cat_high}
use Rattle.std.proofs.Math.Nat.{pow-suc}
use Rattle.bitjson.specs.Bytes.{word_of, byte_of}

-- ---- bytes joined to a word

power : (k : ℕ) → 256 ^ k ≡ 2 ^ (8 * k)
power zero = refl
power (suc k) = grind (arith, pow-suc 256 k, power k, pow-add 2 8 (8 * k))

-- one byte more behind the bits of the others
joined_more : (g : ℕ → ℕ) (n low i : ℕ) → low < 2 ^ (8 * suc n)
    → (i < 8 * suc n → bit_at low i ≡ bit_at (g (i / 8)) (i % 8)) → i < 8 * suc (suc n)
    → bit_at (g (suc n) * 2 ^ (8 * suc n) + low) i ≡ bit_at (g (i / 8)) (i % 8)
joined_more g n low i less before h = grind (arith, bit_at_cat_low, bit_at_cat_high)

-- the first n + 1 bytes of g, as a number
record IsJoined (g : ℕ → ℕ) (n x : ℕ) : Type 0 where
  bound : x < 2 ^ (8 * suc n)
  bits : (i : ℕ) → i < 8 * suc n → bit_at x i ≡ bit_at (g (i / 8)) (i % 8)

first_byte : (g : ℕ → ℕ) (i : ℕ) → i < 8 → bit_at (g 0) i ≡ bit_at (g (i / 8)) (i % 8)
first_byte g i h = grind arith

joined : (g : ℕ → ℕ) → ((j : ℕ) → g j < 256) → (n : ℕ) → IsJoined g n (sum_through (λ i. byte_worth i (g i)) n)
joined g small zero = record { bound = small 0; bits = λ i h. first_byte g i h }
joined g small (suc n) =
    let before = joined g small n in
    let low : ℕ = sum_through (λ i. byte_worth i (g i)) n in
    let turned : low + g (suc n) * 256 ^ suc n ≡ g (suc n) * 2 ^ (8 * suc n) + low = rw (power (suc n)) (omega arith) in
    let more : 8 * suc (suc n) ≡ 8 * suc n + 8 = omega arith in
    rw turned (record {
      bound = rw (more, pow-add 2 (8 * suc n) 8)
          (mul-add-lt (g (suc n)) (2 ^ (8 * suc n)) low 256 (small (suc n)) before.bound);
      bits = λ i h. joined_more g n low i before.bound (before.bits i) h;
    })

-- bit i of a word is bit i mod 8 of byte i / 8 of its eight
pub bit_at-word_of : (bs : List ℕ) → ((j : ℕ) → get_or bs j 0 < 256) → (k i : ℕ) → i < 64
    → bit_at (word_of bs k) i ≡ bit_at (get_or bs (8 * k + i / 8) 0) (i % 8)
unfolding word_of
bit_at-word_of bs small k i h = (joined (λ j. get_or bs (8 * k + j) 0) (λ j. small (8 * k + j)) 7).bits i (omega arith)

-- ---- the bytes of words

-- bit i of a byte of words is bit 8 (j mod 8) + i of the word
pub bit_at-byte_of : (ws : List ℕ) (j i : ℕ) → i < 8
    → bit_at (byte_of ws j) i ≡ bit_at (get_or ws (j / 8) 0) (8 * (j % 8) + i)
bit_at-byte_of ws j i h =
    let x : ℕ = get_or ws (j / 8) 0 / 2 ^ (8 * (j % 8)) in
    let whole : x / 256 * 2 ^ 8 + x % 256 ≡ x = omega arith in
    sym (bit_at_cat_low (x / 256) 8 (x % 256) i h) ∙ rw (whole, shr-shr (get_or ws (j / 8) 0) (8 * (j % 8)) i) refl

pub byte_of-lt : (ws : List ℕ) (j : ℕ) → byte_of ws j < 256
byte_of-lt ws j = omega arith
