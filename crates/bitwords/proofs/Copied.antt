-- Positions of a range that are written over with those of another row, part by part.
use Rattle.std.proofs.Common.{◌≡◌, ◌≢◌, ℕ, ◌+◌, ◌-◌, ◌*◌, ◌/◌, ◌%◌, ◌^◌, ◌<◌, ◌≤◌, Bool, false, ◌&&◌, ◌||◌, not}
use Rattle.std.proofs.Common.{nat_lt, nat_le, List, [], ◌∷◌, length, take, drop, get_or, set, bit_and, bit_or}
use Rattle.std.proofs.Common.{refl, sym, ap, ◌∙◌, arith}
use Rattle.std.proofs.Common.{⊎_elim, get_or-set_same, get_or-set_other, length-set, length-take-le, length-drop}
use Rattle.std.proofs.lemmas.Bool.{cases_eq}
use Rattle.std.proofs.lemmas.Bool.Decides.{nat_tests}
use Rattle.std.proofs.lemmas.Nat.{shr_le}
use borrow.Rule.Slice.PartMut.{put_mid}
use Rattle.bitwords.proofs.Cleared.{length-put_row, put_row_below, put_row_within, put_row_behind}
use Rattle.bitlanes.specs.Bits.{bit, bit_without}
use Rattle.bitlanes.specs.BitLaws.{bit-or, bit-and, bit-without}
use Rattle.bitlanes.specs.Shifts.{window}
use Rattle.bitwords.specs.Cuts.{IsCut}
use Rattle.bitwords.specs.Rows.{has_bit, in_range, IsJoined, IsCopied}
use Rattle.bitwords.specs.RowFacts.{AreWords}
use Rattle.bitwords.proofs.Shifted.{bit-window, bit-up, bit-up_any, bit-down}

module _ (ws : List ℕ) where
  -- two ranges, one behind the other, the one before first
  pub IsCopied-append : (from start middle end : ℕ) (old mid new : List ℕ) → start ≤ middle → middle ≤ end
      → IsCopied ws from start middle old mid → IsCopied ws (from + (middle - start)) middle end mid new
      → IsCopied ws from start end old new
  IsCopied-append from start middle end old mid new p q first second = record {
    long = second.long ∙ first.long;
    copied = λ n above below. grind (arith, first, second);
    before = λ n h. second.before n (omega arith) ∙ first.before n h;
    behind = λ n h. second.behind n h ∙ first.behind n (omega arith);
  }

  -- the whole words between the cuts have the positions between
  pub IsCopied-between : (from start end low high : ℕ) (old new : List ℕ) → IsCut start end low high
      → IsCopied ws from (64 * (low / 64)) (64 * (high / 64)) old new → IsCopied ws from low high old new
  IsCopied-between from start end low high old new cut done = record {
    long = done.long;
    copied = λ p above below. grind (arith, cut, done);
    before = λ p h. grind (arith, cut, done);
    behind = λ p h. grind (arith, cut, done);
  }

-- a bit of a number, as a row of one word
has_bit-number : (number i : ℕ) → i < 64 → has_bit (number ∷ []) i ≡ bit number i
unfolding has_bit
has_bit-number number i within =
    let first : i / 64 ≡ 0 = omega arith in
    let at : i % 64 ≡ i = omega arith in
    rw (first, at) refl

-- ---- one word that is written

-- it has the other row's bits in the range, and its own outside
module _ (ws old : List ℕ) (from start end k put : ℕ) (inside : k < length old) (low : 64 * k ≤ start)
    (high : end ≤ 64 * k + 64)
    (within : (p : ℕ) → start ≤ p → p < end → bit put (p % 64) ≡ has_bit ws (from + (p - start)))
    (without : (p : ℕ) → p / 64 ≡ k → in_range start end p ≡ false → bit put (p % 64) ≡ bit (get_or old k 0) (p % 64))
  where
    abbrev written : List ℕ
    written = set old k put

    has_bit-written : (p : ℕ) → p / 64 ≡ k → has_bit written p ≡ bit put (p % 64)
    unfolding has_bit
    has_bit-written p at = rw (at, get_or-set_same old k put 0 inside) refl

    stays : (p : ℕ) → in_range start end p ≡ false → has_bit written p ≡ has_bit old p
    unfolding has_bit
    stays p out = ⊎_elim
        (λ (at : p / 64 ≡ k).
        has_bit-written p at ∙ without p at out ∙ ap (λ j. bit (get_or old j 0) (p % 64)) (sym at))
        (λ (other : p / 64 ≢ k). ap (λ w. bit w (p % 64)) (get_or-set_other old k (p / 64) put 0 other))
        (cases_eq (p / 64) k)

    pub IsCopied-set : IsCopied ws from start end old written
    IsCopied-set = record {
      long = length-set old k put;
      copied = λ p above below. has_bit-written p (omega arith) ∙ within p above below;
      before = λ p h. stays p (grind (arith, nat_tests));
      behind = λ p h. stays p (grind (arith, nat_tests));
    }

-- the bits of a mask are written
pub IsCopied-word : (ws old : List ℕ) → AreWords ws → AreWords old → (from start end mask : ℕ)
    → start / 64 < length old → end ≤ 64 * (start / 64) + 64 → mask < 2 ^ 64
    → ((i : ℕ) → bit mask i ≡ (nat_lt i 64 && in_range start end (64 * (start / 64) + i)))
    → IsCopied ws from start end old (set old (start / 64)
    (bit_or (bit_without (get_or old (start / 64) 0) mask) (bit_and (window ws from * 2 ^ (start % 64) % 2 ^ 64) mask)))
IsCopied-word ws old words words_old from start end mask inside one_word fits masked =
    let k : ℕ = start / 64 in
    let moved : ℕ = window ws from * 2 ^ (start % 64) % 2 ^ 64 in
    let put : (i : ℕ) → bit (bit_or (bit_without (get_or old k 0) mask) (bit_and moved mask)) i
    ≡ ((bit (get_or old k 0) i && not (bit mask i)) || (bit moved i && bit mask i)) =
    λ i. grind (
      arith,
      bit-or (bit_without (get_or old k 0) mask) (bit_and moved mask) i,
      bit-without (get_or old k 0) mask i (words_old k) fits,
      bit-and moved mask i,
    ) in
    IsCopied-set ws old from start end k _ inside (omega arith) one_word
    (λ p above below.
    grind (
      arith,
      nat_tests,
      put (p % 64),
      masked (p % 64),
      bit-up (window ws from) (start % 64) (p % 64) (omega arith) (omega arith),
      bit-window ws words from (p % 64 - start % 64) (omega arith),
    ))
    (λ p at out. grind (arith, nat_tests, put (p % 64), masked (p % 64)))

-- ---- a number of `width` bits, written over one word or two

module _ (old : List ℕ) (words_old : AreWords old) (number mask start width : ℕ) (short : width ≤ 64)
    (fits : mask < 2 ^ 64) (masked : (i : ℕ) → bit mask i ≡ (nat_le 0 i && nat_lt i width)) where
  abbrev taken : ℕ
  taken = bit_and number mask

  bit-mask : (i : ℕ) → bit mask i ≡ nat_lt i width
  bit-mask i = masked i ∙ grind (arith, nat_tests)

  bit-taken : (i : ℕ) → bit taken i ≡ (bit number i && nat_lt i width)
  bit-taken i = bit-and number mask i ∙ ap (λ b. bit number i && b) (bit-mask i)

  -- a word of which the bits of m are written
  bit-put : (w m n i : ℕ) (b d : Bool) → w < 2 ^ 64 → m < 2 ^ 64 → bit m i ≡ b → bit n i ≡ d
      → bit (bit_or (bit_without w m) n) i ≡ ((bit w i && not b) || d)
  bit-put w m n i b d p q in_m in_n =
      bit-or (bit_without w m) n i ∙ ap (λ x. x || bit n i) (bit-without w m i p q)
      ∙ (λ j. (bit w i && not (in_m j)) || in_n j)

  -- the positions in the first word
  module _ (end : ℕ) (upto : end ≤ start + width) (one_word : end ≤ 64 * (start / 64) + 64)
      (all : (p : ℕ) → p < 64 * (start / 64) + 64 → end ≤ p → start + width ≤ p)
      (inside : start / 64 < length old) where
    abbrev low_word : ℕ
    low_word = bit_or (bit_without (get_or old (start / 64) 0) (mask * 2 ^ (start % 64) % 2 ^ 64))
        (taken * 2 ^ (start % 64) % 2 ^ 64)

    bit-low : (i : ℕ) → i < 64 → bit low_word i
        ≡ ((bit (get_or old (start / 64) 0) i && not (nat_le (start % 64) i && nat_lt (i - start % 64) width))
        || (nat_le (start % 64) i && (bit number (i - start % 64) && nat_lt (i - start % 64) width)))
    bit-low i h =
        let r : ℕ = start % 64 in
        bit-put (get_or old (start / 64) 0) _ _ i _ _ (words_old (start / 64)) (omega arith)
        (bit-up_any mask r i h ∙ ap (λ b. nat_le r i && b) (bit-mask (i - r)))
        (bit-up_any taken r i h ∙ ap (λ b. nat_le r i && b) (bit-taken (i - r)))

    pub IsCopied-low : IsCopied (number ∷ []) 0 start end old (set old (start / 64) low_word)
    IsCopied-low =
        IsCopied-set (number ∷ []) old 0 start end (start / 64) low_word inside (omega arith) one_word
        (λ p above below.
        let at : p % 64 - start % 64 ≡ p - start = omega arith in
        bit-low (p % 64) (omega arith)
        ∙ grind (arith, nat_tests, at, has_bit-number number (p - start) (omega arith)))
        (λ p at out. bit-low (p % 64) (omega arith) ∙ grind (arith, nat_tests, all p))

  -- the positions in the second
  module _ (k low : ℕ) (place : start + low ≡ 64 * k) (some : low < width) (inside : k < length old) where
    abbrev high_word : ℕ
    high_word = bit_or (bit_without (get_or old k 0) (mask / 2 ^ low)) (taken / 2 ^ low)

    bit-high : (i : ℕ) → bit high_word i ≡ ((bit (get_or old k 0) i && not (nat_lt (low + i) width))
        || (bit number (low + i) && nat_lt (low + i) width))
    bit-high i =
        bit-put (get_or old k 0) (mask / 2 ^ low) (taken / 2 ^ low) i _ _ (words_old k)
        (omega (arith, fits, shr_le mask low)) (bit-down mask low i ∙ bit-mask (low + i))
        (bit-down taken low i ∙ bit-taken (low + i))

    pub IsCopied-high : IsCopied (number ∷ []) low (start + low) (start + width) old (set old k high_word)
    IsCopied-high =
        IsCopied-set (number ∷ []) old low (start + low) (start + width) k high_word inside (omega arith) (omega arith)
        (λ p above below.
        let at : low + (p - (start + low)) ≡ low + p % 64 = omega arith in
        bit-high (p % 64)
        ∙ grind (arith, nat_tests, at, has_bit-number number (low + p % 64) (omega arith)))
        (λ p at out. bit-high (p % 64) ∙ grind (arith, nat_tests))

-- ---- whole words

module _ (ws old part : List ℕ) (from first last : ℕ) (order : first ≤ last) (within : last ≤ length old)
    (done : IsJoined (λ x y. y) (take (last - first) (drop first old)) (λ p. has_bit ws (from + p)) part) where
  abbrev count : ℕ
  count = last - first

  long_cut : length (take count (drop first old)) ≡ count
  long_cut = length-take-le count (drop first old) (omega (arith, length-drop first old))

  pub IsCopied-words : IsCopied ws from (64 * first) (64 * last) old (put_mid first count old part)
  unfolding has_bit
  IsCopied-words = record {
    long = length-put_row old part first count (omega arith) (done.long ∙ long_cut);
    copied = λ p above below.
        ap (λ w. bit w (p % 64)) (put_row_within old part first count (omega arith) (done.long ∙ long_cut) (p / 64)
        (omega arith) (omega arith))
        ∙ grind (arith, done.bits (p - 64 * first) (let l = long_cut in omega arith));
    before = λ p h.
        ap (λ w. bit w (p % 64))
        (put_row_below old part first count (omega arith) (done.long ∙ long_cut) (p / 64) (omega arith));
    behind = λ p h.
        ap (λ w. bit w (p % 64))
        (put_row_behind old part first count (omega arith) (done.long ∙ long_cut) (p / 64) (omega arith));
  }
