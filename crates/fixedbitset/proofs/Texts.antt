-- What is written of a set: its characters, those of one word after the other, and the bytes of its JSON form.
use Rattle.std.proofs.Common.{◌≡◌, ℕ, ◌+◌, ◌*◌, ◌/◌, ◌%◌, ◌^◌, ◌<◌, ◌≤◌, nat_lt, ◌&&◌, List}
use Rattle.std.proofs.Common.{Vec, ◌++◌, map, length, take, get_or, refl, sym, ap, ◌∙◌, arith}
use Rattle.std.specs.Int.{bit_at}
use Rattle.std.specs.List.{range_with_len}
use Rattle.std.specs.Str.{IsUtf8}
use Rattle.std.specs.Vec.{with_items}
use Rattle.std.proofs.lemmas.Bool.Decides.{nat_tests}
use Rattle.std.proofs.lemmas.List.{with_items_is, ext_get_or, get_or-take, length-take-le, map-append}
use Rattle.std.proofs.lemmas.List.FromFn.{length-map-range_with_len, get_or-map-range_with_len}
use Rattle.std.proofs.lemmas.Nat.Bits.{bit_at-lt, same_from_bits_below}
use Rattle.std.proofs.lemmas.Str.{IsUtf8-from_ascii}
use Rattle.std.proofs.lemmas.Str.Ascii.{IsAscii-from_reads}
use Rattle.bitlanes.specs.Bits.{bit}
use Rattle.bitwords.specs.AscendingFacts.{range-append}
use Rattle.bitwords.specs.Rows.{has_bit, IsJoined}
use Rattle.bitjson.specs.Bytes.{word_of, byte_of, bytes_of}
use Rattle.bitjson.specs.BytesFacts.{bit_at-word_of, bit_at-byte_of, byte_of-lt}
use Rattle.bitjson.specs.Form.{object_of}
use Rattle.fixedbitset.specs.Bits.{Bits, of_words, word, words, words_needed, storage_words}
use Rattle.fixedbitset.specs.Json.{of_bytes, byte, bytes, written}
use Rattle.fixedbitset.specs.Text.{digit, text}
use Rattle.fixedbitset.specs.WordsFacts.{length-of_words, contains-of_words, number_at-lt}
use Rattle.fixedbitset.specs.WordsFacts.{bit_at-number_at, length-words, get_or-words}
use Rattle.fixedbitset.proofs.Blocks.{keeps_cut}
use Rattle.fixedbitset.proofs.Words.{Keeps, having_is}

-- ---- characters

-- the characters of so many positions, from one on
abbrev pub characters : Bits → ℕ → ℕ → List ℕ
characters v start count = map (digit v) (range_with_len start count)

-- the bits of a word as characters, the lowest first
pub record AreDigits (word : ℕ) (digits : List ℕ) : Type 0 where
  pub count : length digits ≡ 64
  pub bits : (i : ℕ) → i < 64 → get_or digits i 0 ≡ 48 + bit_at word i

module _ (word : ℕ) (digits : List ℕ) (d : AreDigits word digits) (count : ℕ) (few : count ≤ 64) where
  long : length (take count digits) ≡ count
  long = length-take-le count digits (omega (arith, d.count))

  read : (i : ℕ) → i < count → get_or (take count digits) i 0 ≡ 48 + bit_at word i
  read i below = get_or-take count digits i 0 below ∙ d.bits i (omega arith)

  pub digits_are_text : IsUtf8 (take count digits)
  digits_are_text =
      IsUtf8-from_ascii _
      (IsAscii-from_reads _ count (omega (arith, long)) (λ k below. omega (arith, read k below, bit_at-lt word k)))

-- the digits of a word are the characters of its positions
pub characters_of_word : (v : Bits) (k count : ℕ) (digits : List ℕ) → count ≤ 64 → AreDigits (word v k) digits
    → take count digits ≡ characters v (64 * k) count
characters_of_word v k count digits few d =
    let size = long (word v k) digits d count few in
    ext_get_or 0 _ _ (size ∙ sym (length-map-range_with_len (digit v) (64 * k) count)) (λ i l.
    let inside : i < count = omega arith in
    grind (
      arith,
      read (word v k) digits d count few i inside,
      bit_at-number_at v (64 * k) 64 i (omega arith),
      get_or-map-range_with_len (digit v) (64 * k) count i (64 * k + i) 0 inside refl,
    ))

-- the characters of the first positions, and of those after them
pub characters-append : (v : Bits) (start count after : ℕ) → start + count ≡ after
    → characters v 0 start ++ characters v start count ≡ characters v 0 after
characters-append v start count after e =
    let from : 0 + start ≡ start = omega arith in
    sym (map-append (digit v) (range_with_len 0 start) (range_with_len start count))
    ∙ ap (map (digit v)) (ap (λ s. range_with_len 0 start ++ range_with_len s count) (sym from)
    ∙ sym (range-append 0 start count) ∙ ap (range_with_len 0) e)

pub text_is : (v : Bits) (n : ℕ) → n ≡ v.length → characters v 0 n ≡ text v
unfolding text
text_is v n e = ap (characters v 0) e

-- ---- bytes

-- words of bytes mean what the bytes mean
module _ (bs : List ℕ) (small : (j : ℕ) → get_or bs j 0 < 256) (n : ℕ) where
  abbrev made : List ℕ
  made = map (word_of bs) (range_with_len 0 (storage_words n))

  has_bit-made : (p : ℕ) → p < n → has_bit made p ≡ bit (get_or bs (p / 8) 0) (p % 8)
  unfolding has_bit
  has_bit-made p lt =
      let at : get_or made (p / 64) 0 ≡ word_of bs (p / 64) =
      get_or-map-range_with_len (word_of bs) 0 (storage_words n) (p / 64) (p / 64) 0 (omega arith) (omega arith) in
      let place : 8 * (p / 64) + p % 64 / 8 ≡ p / 8 = omega arith in
      let low : p % 64 % 8 ≡ p % 8 = omega arith in
      rw (at, bit_at-word_of bs small (p / 64) (p % 64) (omega arith), place, low) refl

  of_words-made : of_words n made ≡ of_bytes n bs
  unfolding of_bytes
  of_words-made =
      sym (having_is n _ (of_words n made) (length-of_words n made)
      (λ p below. grind (arith, nat_tests, has_bit-made p below, contains-of_words n made p)))

  pub keeps_made : n < 2 ^ 64 → (mid new : List ℕ) → mid ≡ made → IsJoined (λ x y. x && y) mid (λ p. nat_lt p n) new
      → Keeps n new (of_bytes n bs)
  keeps_made fits mid new is done =
      let cut = keeps_cut n fits mid new (ap length is ∙ length-map-range_with_len (word_of bs) 0 (storage_words n))
      done in
      record { value = cut.value ∙ ap (of_words n) is ∙ of_words-made; clean = cut.clean }

  -- the same of a vector whose words are lent and given back
  pub keeps_vec : {Z : Type 0} → n < 2 ^ 64 → (words : Vec ℕ Z) (new : List ℕ) → words.items ≡ made
      → IsJoined (λ x y. x && y) words.items (λ p. nat_lt p n) new
      → Keeps n (with_items words new).items (of_bytes n bs)
  keeps_vec fits words new is done =
      rw (with_items_is words new (done.long ∙ sym words.ok.0)) (keeps_made fits words.items new is done)

-- a byte of the words of a value is that of its positions
byte_of-words : (v : Bits) (j : ℕ) → j < 8 * words_needed v.length → byte_of (words v) j ≡ byte v j
byte_of-words v j h =
    same_from_bits_below 8 _ _ (byte_of-lt (words v) j) (number_at-lt v (8 * j) 8) (λ i l.
    let place : 64 * (j / 8) + (8 * (j % 8) + i) ≡ 8 * j + i = omega arith in
    rw (
      bit_at-byte_of (words v) j i l,
      get_or-words v (j / 8) (omega arith),
      bit_at-number_at v (64 * (j / 8)) 64 (8 * (j % 8) + i) (omega arith),
      place,
      bit_at-number_at v (8 * j) 8 i l,
    ) refl)

pub bytes_of-words : (v : Bits) → bytes_of (words v) ≡ bytes v
unfolding bytes bytes_of
bytes_of-words v =
    rw (length-words v)
    (ext_get_or 0 _ _ (length-map-range_with_len (byte_of (words v)) 0 _ ∙ sym (length-map-range_with_len (byte v) 0 _))
    (λ j h.
    let lt : j < 8 * words_needed v.length =
    rw (length-map-range_with_len (byte_of (words v)) 0 (8 * words_needed v.length)) at h in
    get_or-map-range_with_len (byte_of (words v)) 0 _ j j 0 lt (omega arith) ∙ byte_of-words v j lt
    ∙ sym (get_or-map-range_with_len (byte v) 0 _ j j 0 lt (omega arith))))

-- what is made of the words is what is written
pub object_of-words : (v : Bits) → object_of v.length (bytes_of (words v)) ≡ written v
unfolding written
object_of-words v = ap (object_of v.length) (bytes_of-words v)
