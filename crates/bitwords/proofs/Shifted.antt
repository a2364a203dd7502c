-- Rows moved by a number of positions: their bits.
use Rattle.std.proofs.Common.{◌≡◌, ℕ, ◌+◌, ◌-◌, ◌*◌, ◌/◌, ◌%◌, ◌^◌, ◌<◌, ◌≤◌, Bool, true, ◌&&◌, ◌||◌}
use Rattle.std.proofs.Common.{◌==◌, nat_le, List, length, take, drop, get_or, sym, ap, ◌∙◌, arith, inl}
use Rattle.std.proofs.Common.{inr, ◌⊎◌, ⊎_elim, get_or-take, get_or-drop, length-take, length-drop}
use Rattle.std.proofs.lemmas.Bool.{cases_lt, le-leb, lt-leb, and_left, and_right}
use Rattle.std.proofs.lemmas.Bool.Decides.{nat_tests}
use borrow.Rule.Slice.PartMut.{put_mid}
use Rattle.bitwords.proofs.Joined.{TakesWord, Rests, LeavesWord, IsJoined_words}
use Rattle.bitwords.proofs.Cleared.{length-put_row, put_row_below, put_row_within}
use Rattle.std.proofs.lemmas.Nat.{shr-shr, shr_split, or_lt, shr_le, pow_pos}
use Rattle.std.proofs.lemmas.Nat.Bits.{bit_at_above, bit_at_cat_low, bit_at_cat_high, bit_at-zero}
use Rattle.bitlanes.specs.Bits.{bit}
use Rattle.bitlanes.specs.BitLaws.{bit-or}
use Rattle.bitlanes.specs.Ops.{IsWordOp}
use Rattle.bitlanes.specs.Shifts.{straddle, window}
use Rattle.bitwords.specs.Rows.{has_bit, IsJoined}
use Rattle.bitwords.specs.RowFacts.{AreWords, has_bit-past}

-- ---- a word moved

-- a bit of a word moved down
pub bit-down : (x r i : ℕ) → bit (x / 2 ^ r) i ≡ bit x (r + i)
bit-down x r i = ap (λ n. n % 2 == 1) (shr-shr x r i)

-- a bit of the lowest 64
bit-cut : (x i : ℕ) → i < 64 → bit (x % 2 ^ 64) i ≡ bit x i
bit-cut x i h =
    ap (λ n. n == 1) (sym (bit_at_cat_low (x / 2 ^ 64) 64 (x % 2 ^ 64) i h)) ∙ ap (λ n. bit n i) (shr_split x 64)

-- a bit of a word moved up
pub bit-up_any : (x k i : ℕ) → i < 64 → bit (x * 2 ^ k % 2 ^ 64) i ≡ (nat_le k i && bit x (i - k))
bit-up_any x k i h =
    bit-cut (x * 2 ^ k) i h ∙ (let e : x * 2 ^ k ≡ x * 2 ^ k + 0 = omega arith in ap (λ n. bit n i) e)
    ∙ grind (arith, nat_tests, bit_at_cat_low x k 0 i, bit_at_cat_high x k 0 i (pow_pos k), bit_at-zero i)

pub bit-up : (x k i : ℕ) → i < 64 → k ≤ i → bit (x * 2 ^ k % 2 ^ 64) i ≡ bit x (i - k)
bit-up x k i h high = bit-up_any x k i h ∙ ap (λ b. b && bit x (i - k)) (le-leb k i high)

-- the bits of two words of which the first is moved down and the second fills its place
bit-straddle : (r low high i : ℕ) → r < 64 → i < 64
    → bit (straddle r low high) i ≡ (bit low (r + i) || (nat_le 64 (r + i) && bit high (r + i - 64)))
unfolding straddle
bit-straddle r low high i short within =
    grind (
      arith,
      nat_tests,
      bit-or (low / 2 ^ r) (high * 2 ^ 1 % 2 ^ 64 * 2 ^ (63 - r) % 2 ^ 64) i,
      bit-down low r i,
      bit-up_any (high * 2 ^ 1 % 2 ^ 64) (63 - r) i within,
      bit-up_any high 1 (i - (63 - r)) (omega arith),
    )

-- the 64 bits from a position on
module _ (ws : List ℕ) (words : AreWords ws) (p : ℕ) where
  pub bit-window : (i : ℕ) → i < 64 → bit (window ws p) i ≡ has_bit ws (p + i)
  unfolding window has_bit
  bit-window i within =
      bit-straddle (p % 64) (get_or ws (p / 64) 0) (get_or ws (p / 64 + 1) 0) i (omega arith) within
      ∙ grind (arith, nat_tests, bit_at_above (get_or ws (p / 64) 0) 64 (p % 64 + i) (words (p / 64)))

  pub window_fits : window ws p < 2 ^ 64
  unfolding window straddle
  window_fits =
      or_lt 64 (get_or ws (p / 64) 0 / 2 ^ (p % 64)) _
      (omega (arith, words (p / 64), pow_pos (p % 64), shr_le (get_or ws (p / 64) 0) (p % 64))) (omega arith)

-- the bits of a first word that is moved up within its place
pub bit-first : (ws : List ℕ) (shift i : ℕ) → i < 64 → shift < 64
    → bit (get_or ws 0 0 * 2 ^ shift % 2 ^ 64) i ≡ (nat_le shift i && has_bit ws (i - shift))
unfolding has_bit
bit-first ws shift i within short = bit-up_any (get_or ws 0 0) shift i within ∙ grind (arith, nat_tests)

-- ---- the tests of moved rows

module _ (ws : List ℕ) (words : AreWords ws) where
  -- what stands `by` below
  pub takes_up : (f : ℕ → ℕ → ℕ) (old new : List ℕ) (by k : ℕ) → by ≤ 64 * k
      → get_or new k 0 ≡ f (get_or old k 0) (window ws (64 * k - by))
      → TakesWord f old (λ p. nat_le by p && has_bit ws (p - by)) new k
  takes_up f old new by k within joined = record {
    word = window ws (64 * k - by);
    fits = window_fits ws words (64 * k - by);
    joined = joined;
    bits = λ i h. grind (arith, nat_tests, bit-window ws words (64 * k - by) i h);
  }

  -- the word that has fewer than 64 bits below it
  pub takes_first : (f : ℕ → ℕ → ℕ) (old new : List ℕ) (by : ℕ)
      → get_or new (by / 64) 0 ≡ f (get_or old (by / 64) 0) (get_or ws 0 0 * 2 ^ (by % 64) % 2 ^ 64)
      → TakesWord f old (λ p. nat_le by p && has_bit ws (p - by)) new (by / 64)
  takes_first f old new by joined = record {
    word = get_or ws 0 0 * 2 ^ (by % 64) % 2 ^ 64;
    fits = omega arith;
    joined = joined;
    bits = λ i h. grind (arith, nat_tests, bit-first ws (by % 64) i h (omega arith));
  }

-- each word takes in what stands `from` above, or rests where nothing does
pub IsJoined_down : {f : ℕ → ℕ → ℕ} {t : Bool → Bool → Bool} {keep take : Bool} → IsWordOp f t keep take
    → (ws old : List ℕ) → AreWords ws → AreWords old
    → (new : List ℕ) → length new ≡ length old → (from : ℕ)
    → ((k : ℕ) → k < length old → k + from / 64 < length ws
    → get_or new k 0 ≡ f (get_or old k 0) (window ws (from + 64 * k)))
    → ((k : ℕ) → k < length old → length ws ≤ k + from / 64 → Rests keep old new k)
    → IsJoined t old (λ p. has_bit ws (from + p)) new
IsJoined_down law ws old words words_old new long from joined rest =
    IsJoined_words law old words_old _ new long (λ k within. ⊎_elim
    (λ (some : k + from / 64 < length ws). inl (record {
      word = window ws (from + 64 * k);
      fits = window_fits ws words (from + 64 * k);
      joined = joined k within some;
      bits = λ i h. bit-window ws words (from + 64 * k) i h
          ∙ (let e : from + 64 * k + i ≡ from + (64 * k + i) = omega arith in ap (has_bit ws) e);
    }))
    (λ (past : length ws ≤ k + from / 64).
    inr (record { none = λ i h. has_bit-past ws _ (omega arith); left = rest k within past }))
    (cases_lt (k + from / 64) (length ws)))

-- no word of it has so many positions below it
pub leaves_up : (ws : List ℕ) (keep : Bool) (old new : List ℕ) (by k : ℕ) → 64 * (k + 1) ≤ by → Rests keep old new k
    → LeavesWord keep old (λ p. nat_le by p && has_bit ws (p - by)) new k
leaves_up ws keep old new by k below left =
    record { none = λ i h. and_left _ _ (lt-leb by (64 * k + i) (omega arith)); left = left }

-- a row that was joined from word `at` on, and the words before it as they were
module _ {f : ℕ → ℕ → ℕ} {t : Bool → Bool → Bool} {keep take_right : Bool} (law : IsWordOp f t keep take_right)
    (keeps : keep ≡ true) (ws old : List ℕ) (words : AreWords ws) (words_old : AreWords old)
    (row part : List ℕ) (by at from : ℕ) (place : 64 * at ≡ by + from) (less : from < 64)
    (same : length row ≡ length old) (inside : at ≤ length row) (long : length part ≡ length row - at) where
  abbrev cut : List ℕ
  cut = take (length row - at) (drop at row)

  abbrev new : List ℕ
  new = put_mid at (length row - at) row part

  abbrev test : ℕ → Bool
  test p = nat_le by p && has_bit ws (p - by)

  pub IsJoined_up : ((k : ℕ) → k < length cut → k + from / 64 < length ws
      → get_or part k 0 ≡ f (get_or cut k 0) (window ws (from + 64 * k)))
      → ((k : ℕ) → length ws ≤ k + from / 64 → get_or part k 0 ≡ get_or cut k 0)
      → ((k : ℕ) → at ≤ k → get_or row k 0 ≡ get_or old k 0)
      → ((k : ℕ) → k < at → get_or new k 0 ≡ get_or row k 0
      → TakesWord f old test new k ⊎ LeavesWord keep old test new k)
      → IsJoined t old test new
  IsJoined_up joined rest behind before =
      IsJoined_words law old words_old test new (length-put_row row part at (length row - at) (omega arith) long ∙ same)
      (λ k within. ⊎_elim
      (λ (lt : k < at). before k lt (put_row_below row part at (length row - at) (omega arith) long k lt))
      (λ (ge : at ≤ k).
      let put = put_row_within row part at (length row - at) (omega arith) long k ge (omega arith) in
      let was : get_or cut (k - at) 0 ≡ get_or old k 0 = grind (arith, get_or-take, get_or-drop, behind) in
      ⊎_elim
      (λ (some : k - at < length ws).
      inl (takes_up ws words f old new by k (omega arith)
      (grind (arith, put, was, joined (k - at), length-take, length-drop))))
      (λ (past : length ws ≤ k - at).
      inr (record {
        none = λ i h. and_right _ _ (has_bit-past ws _ (omega arith));
        left = inl (keeps, put ∙ rest (k - at) (omega arith) ∙ was);
      }))
      (cases_lt (k - at) (length ws)))
      (cases_lt k at))

-- a row that was moved up: word by word
pub IsJoined_moved_up : {f : ℕ → ℕ → ℕ} {t : Bool → Bool → Bool} {keep take : Bool} → IsWordOp f t keep take
    → (old : List ℕ) → AreWords old
    → (new : List ℕ) → length new ≡ length old → (by : ℕ)
    → ((k : ℕ) → k < length old → by ≤ 64 * k → get_or new k 0 ≡ f (get_or old k 0) (window old (64 * k - by)))
    → (by / 64 < length old → 0 < by % 64
    → get_or new (by / 64) 0 ≡ f (get_or old (by / 64) 0) (get_or old 0 0 * 2 ^ (by % 64) % 2 ^ 64))
    → ((k : ℕ) → k < length old → 64 * (k + 1) ≤ by → Rests keep old new k)
    → IsJoined t old (λ p. nat_le by p && has_bit old (p - by)) new
IsJoined_moved_up {f} {t} {keep} law old words new long by joined first rest =
    IsJoined_words law old words _ new long (λ k within. ⊎_elim
    (λ (lt : 64 * k < by). ⊎_elim
    (λ (below : 64 * (k + 1) < by + 1).
    inr (leaves_up old keep old new by k (omega arith) (rest k within (omega arith))))
    (λ (some : by + 1 ≤ 64 * (k + 1)).
    let here : k ≡ by / 64 = omega arith in
    rw here (inl (takes_first old words f old new by (first (omega arith) (omega arith)))))
    (cases_lt (64 * (k + 1)) (by + 1)))
    (λ (ge : by ≤ 64 * k). inl (takes_up old words f old new by k ge (joined k within ge)))
    (cases_lt (64 * k) by))
