-- Words made of two words that follow each other.
use Rattle.std.proofs.Common.{map, ◌≡◌, ℕ, ◌+◌, ◌-◌, ◌*◌, ◌/◌, ◌%◌, ◌^◌, ◌<◌, ◌≤◌, List, length, take}
use Rattle.std.proofs.Common.{drop, replicate, bit_or, get_or, set, refl, sym, ◌∙◌, arith, pow_pos}
use Rattle.std.specs.Int.Bits.{or_zero_r}
use Rattle.std.specs.Simd.Lanes.{zip2, chunk, put_chunk}
use Rattle.std.proofs.lemmas.List.{length-map, get_or-map, get_or-set_same, get_or-set_other}
use Rattle.std.proofs.lemmas.List.{get_or_past, get_or-drop, take_all, length-drop}
use Rattle.std.proofs.lemmas.Simd.{zip2_splat, map-map, get_or-zip2, length-zip2, length-chunk, get_or-chunk}
use Rattle.std.proofs.lemmas.Simd.{get_or-put_chunk_at, get_or-put_chunk_below, get_or-put_chunk_above}
use Rattle.bitlanes.specs.Shifts.{straddle, window}

-- word by word in a lane
module _ (low high : List ℕ) (r : ℕ) (four_low : length low ≡ 4) (four_high : length high ≡ 4) where
  abbrev lowered : ℕ → ℕ
  lowered x = x / 2 ^ r

  abbrev raised : ℕ → ℕ
  raised x = x * 2 ^ 1 % 2 ^ 64 * 2 ^ (63 - r) % 2 ^ 64

  abbrev both : List ℕ
  both =
      zip2 bit_or (zip2 (λ x n. x / 2 ^ n) low (replicate 4 r))
      (zip2 (λ x n. x * 2 ^ n % 2 ^ 64) (zip2 (λ x n. x * 2 ^ n % 2 ^ 64) high (replicate 4 1)) (replicate 4 (63 - r)))

  mapped : both ≡ zip2 bit_or (map lowered low) (map raised high)
  mapped =
      let doubled : List ℕ = map (λ x. x * 2 ^ 1 % 2 ^ 64) high in
      let once = zip2_splat (λ x n. x * 2 ^ n % 2 ^ 64) high 4 1 four_high in
      let twice = zip2_splat (λ x n. x * 2 ^ n % 2 ^ 64) doubled 4 (63 - r)
      (length-map high (λ x. x * 2 ^ 1 % 2 ^ 64) ∙ four_high) in
      rw (zip2_splat (λ x n. x / 2 ^ n) low 4 r four_low, once, twice, map-map) refl

  pub straddle_lanes : (k : ℕ) → k < 4 → get_or both k 0 ≡ straddle r (get_or low k 0) (get_or high k 0)
  unfolding straddle
  straddle_lanes k h =
      rw (
        mapped,
        get_or-zip2 bit_or (map lowered low) (map raised high) k 0 0 0 (omega (arith, length-map low lowered))
            (omega (arith, length-map high raised)),
      )
      (rw (get_or-map lowered low k 0 0 (omega arith), get_or-map raised high k 0 0 (omega arith)) refl)

  pub length-straddled : length both ≡ 4
  length-straddled =
      let same = length-zip2 bit_or (map lowered low) (map raised high)
      (omega (arith, length-map low lowered, length-map high raised)) in
      rw (mapped, same) (omega (arith, length-map low lowered))

-- the bits of a word with none behind it
pub straddle_last : (r low : ℕ) → low / 2 ^ r ≡ straddle r low 0
unfolding straddle
straddle_last r low =
    let none : 0 * 2 ^ 1 % 2 ^ 64 * 2 ^ (63 - r) % 2 ^ 64 ≡ 0 = omega arith in
    rw none (sym (or_zero_r (low / 2 ^ r)))

-- a row from word n on
pub up_to_end : (n : ℕ) (ws : List ℕ) → take (length ws - n) (drop n ws) ≡ drop n ws
up_to_end n ws = take_all (length ws - n) (drop n ws) (omega (arith, length-drop n ws))

-- the same bits, in the row from their first word on
pub window_dropped : (ws : List ℕ) (p k : ℕ)
    → straddle (p % 64) (get_or (drop (p / 64) ws) k 0) (get_or (drop (p / 64) ws) (k + 1) 0) ≡ window ws (p + 64 * k)
unfolding window
window_dropped ws p k =
    let quotient : (p + 64 * k) / 64 ≡ p / 64 + k = omega arith in
    let rest : (p + 64 * k) % 64 ≡ p % 64 = omega arith in
    let next : p / 64 + (k + 1) ≡ p / 64 + k + 1 = omega arith in
    rw (get_or-drop (p / 64) ws k 0, get_or-drop (p / 64) ws (k + 1) 0, quotient, rest, next) refl

-- past the row there is none
pub window_past : (ws : List ℕ) (p : ℕ) → length ws ≤ p / 64 → 0 ≡ window ws p
unfolding straddle window
window_past ws p past =
    let some : 0 < 2 ^ (p % 64) = pow_pos (p % 64) in
    let right : 0 / 2 ^ (p % 64) ≡ 0 = omega arith in
    let left : 0 * 2 ^ 1 % 2 ^ 64 * 2 ^ (63 - p % 64) % 2 ^ 64 ≡ 0 = omega arith in
    rw (get_or_past ws (p / 64) 0 past, get_or_past ws (p / 64 + 1) 0 (omega arith), right, left) refl

-- ---- a row joined word by word

-- the words from `low` up to and without `high` are joined with those that were moved there, and the others stay
pub record AreJoined (f : ℕ → ℕ → ℕ) (moved : ℕ → ℕ) (old : List ℕ) (low high : ℕ) (new : List ℕ) : Type 0 where
  pub joined : (k : ℕ) → low ≤ k → k < high → get_or new k 0 ≡ f (get_or old k 0) (moved k)
  pub below : (k : ℕ) → k < low → get_or new k 0 ≡ get_or old k 0
  pub above : (k : ℕ) → high ≤ k → get_or new k 0 ≡ get_or old k 0

module _ {f : ℕ → ℕ → ℕ} {moved : ℕ → ℕ} {old : List ℕ} where
  -- a lane
  pub lane_joined : (at high : ℕ) (lane new : List ℕ) → length lane ≡ 4 → high ≡ at + 4 → high ≤ length old
      → ((k : ℕ) → k < 4 → get_or lane k 0 ≡ moved (at + k))
      → new ≡ put_chunk at old (zip2 f (chunk at 4 old) lane) → AreJoined f moved old at high new
  lane_joined at high lane new four end within are is =
      let row : List ℕ = zip2 f (chunk at 4 old) lane in
      let long_chunk : length (chunk at 4 old) ≡ 4 = length-chunk at 4 old (omega arith) in
      let long : length row ≡ 4 = length-zip2 f (chunk at 4 old) lane (long_chunk ∙ sym four) ∙ long_chunk in
      rw is record {
        joined = λ k from to.
            grind (
              arith,
              get_or-put_chunk_at at old row (k - at) 0,
              get_or-zip2 f (chunk at 4 old) lane (k - at) 0 0 0,
              get_or-chunk at 4 old (k - at) 0,
              are (k - at),
            );
        below = λ k h. get_or-put_chunk_below at old row k 0 h;
        above = λ k h. get_or-put_chunk_above at old row k 0 (omega arith);
      }

  -- a word
  pub word_joined : (at high new word : ℕ) → high ≡ at + 1 → at < length old → word ≡ moved at
      → new ≡ f (get_or old at 0) word → AreJoined f moved old at high (set old at new)
  word_joined at high new word end within is made = record {
    joined = λ k from to. let here : k ≡ at = omega arith in rw here (cc (get_or-set_same old at new 0 within));
    below = λ k h. get_or-set_other old at k new 0 (omega arith);
    above = λ k h. get_or-set_other old at k new 0 (omega arith);
  }

  -- words behind those joined
  pub joined_behind : {low at high : ℕ} {mid new : List ℕ} → low ≤ at → at ≤ high → AreJoined f moved old low at mid
      → AreJoined f moved mid at high new → AreJoined f moved old low high new
  joined_behind order upto before put = record {
    joined = λ k from to. grind (arith, before.joined k, before.above k, put.joined k, put.below k);
    below = λ k h. put.below k (omega arith) ∙ before.below k h;
    above = λ k h. put.above k h ∙ before.above k (omega arith);
  }

  -- words before those joined
  pub joined_before : {low at high : ℕ} {mid new : List ℕ} → low ≤ at → at ≤ high → AreJoined f moved old at high mid
      → AreJoined f moved mid low at new → AreJoined f moved old low high new
  joined_before order upto behind put = record {
    joined = λ k from to. grind (arith, behind.joined k, behind.below k, put.joined k, put.above k);
    below = λ k h. put.below k h ∙ behind.below k (omega arith);
    above = λ k h. put.above k (omega arith) ∙ behind.above k h;
  }
