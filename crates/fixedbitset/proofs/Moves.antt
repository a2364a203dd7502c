-- Words that are moved, and then cut at a length: what that does to the value.
use Rattle.std.proofs.Common.{◌≡◌, ℕ, ◌+◌, ◌-◌, ◌*◌, ◌/◌, ◌%◌, ◌^◌, ◌<◌, ◌≤◌, Bool, true, false, ◌&&◌}
use Rattle.std.proofs.Common.{◌||◌, nat_lt, nat_le, min, if◌then◌else◌, List, length, ◌++◌, take}
use Rattle.std.proofs.Common.{[], ◌∷◌, drop, refl, sym, ap, ◌∙◌, arith, ⊎_elim, get_or-drop, length-drop, pow_mono}
use Rattle.std.proofs.lemmas.Bool.Decides.{nat_tests}
use Rattle.std.proofs.lemmas.List.{length-take-le, get_or-take, length-append as length-appended}
use Rattle.std.proofs.lemmas.List.{get_or_append_left, get_or-append_right}
use Rattle.std.proofs.lemmas.Bool.{cases_lt}
use Rattle.std.proofs.lemmas.Nat.Bits.{same_from_bits_below, bit_at-lt, bit_at_above}
use Rattle.std.specs.Int.{div_ceil}
use Rattle.bitlanes.specs.Bits.{bit}
use Rattle.bitlanes.specs.Shifts.{up_steps}
use Rattle.bitlanes.specs.Words.{lane_steps}
use Rattle.bitwords.specs.Steps.{join_steps, join_up_steps}
use Rattle.bitwords.specs.Rows.{has_bit, IsJoined, IsCopied}
use Rattle.bitwords.specs.RowFacts.{has_bit-past}
use Rattle.fixedbitset.specs.Bits.{Bits, contains, grow, having, number_at, of_words, storage_words, words_needed}
use Rattle.fixedbitset.specs.BlocksFacts.{has_bit-take}
use Rattle.fixedbitset.specs.BitsFacts.{same_bits, contains-grow, length-grow, contains-past}
use Rattle.fixedbitset.specs.Parts.{shift_up, shift_down, union_with_shifted}
use Rattle.fixedbitset.specs.Parts.{slice, copy_range, store, append, truncate, resize}
use Rattle.fixedbitset.specs.PartsFacts.{length-shift_up, contains-shift_up, length-shift_down, contains-shift_down}
use Rattle.fixedbitset.specs.PartsFacts.{length-union_with_shifted, contains-union_with_shifted, length-copy_range}
use Rattle.fixedbitset.specs.PartsFacts.{contains-copy_range, length-append, contains-append, length-truncate}
use Rattle.fixedbitset.specs.PartsFacts.{length-store, contains-store}
use Rattle.fixedbitset.specs.PartsFacts.{contains-truncate, length-resize, contains-resize}
use Rattle.fixedbitset.specs.Ranges.{insert_range}
use Rattle.fixedbitset.specs.RangesFacts.{length-insert_range, contains-insert_range}
use Rattle.fixedbitset.specs.Stored.{IsClean}
use Rattle.fixedbitset.specs.WordsFacts.{length-having, contains-having, length-of_words}
use Rattle.fixedbitset.specs.WordsFacts.{number_at-lt, bit_at-number_at}
use Rattle.fixedbitset.proofs.Words.{Keeps, keeps, having_is, contains_word}

-- a row joined with the positions of a test, and then cut at n
pub keeps_moved : (n : ℕ) → n < 2 ^ 64 → (ws mid new : List ℕ) (f : Bool → Bool → Bool) (test : ℕ → Bool)
    → length ws ≡ storage_words n → IsJoined f ws test mid → IsJoined (λ x y. x && y) mid (λ p. nat_lt p n) new
    → Keeps n new (having n (λ p. f (has_bit ws p) (test p)))
keeps_moved n fits ws mid new f test count moved cut =
    let passes : ℕ → Bool = λ p. f (has_bit ws p) (test p) in
    keeps n new (having n passes) fits (cut.long ∙ moved.long ∙ count) (length-having n passes)
    (λ p.
    grind (
      arith,
      nat_tests,
      count,
      moved.long,
      moved.bits p,
      cut.long,
      cut.bits p,
      has_bit-past new p,
      contains-having n passes p,
    ))

-- ---- words of which those that the length needs are written

-- the bits of a row whose first words were written
has_bit-front : (part rest : List ℕ) (p : ℕ) → p / 64 < length part → has_bit (part ++ rest) p ≡ has_bit part p
unfolding has_bit
has_bit-front part rest p within = ap (λ w. bit w (p % 64)) (grind (arith, within, get_or_append_left))

has_bit-behind : (part ws : List ℕ) (k p : ℕ) → length part ≡ k → k ≤ p / 64
    → has_bit (part ++ drop k ws) p ≡ has_bit ws p
unfolding has_bit
has_bit-behind part ws k p long behind =
    let at : k + (p / 64 - k) ≡ p / 64 = omega (arith, behind) in
    ap (λ w. bit w (p % 64)) (grind (arith, long, behind, at, get_or-append_right, get_or-drop))

-- the words that the length needs have all the positions
module _ (n : ℕ) (ws : List ℕ) (clean : IsClean n ws) (k : ℕ) (count : k ≡ words_needed n) where
  pub length-used : length (take k ws) ≡ k
  length-used = length-take-le k ws (omega (arith, clean.count, count))

  pub has_bit-used : (p : ℕ) → has_bit (take k ws) p ≡ has_bit ws p
  has_bit-used p = ⊎_elim
      (λ (below : p < n). has_bit-take n k p ws (omega (arith, count)) below)
      (λ (past : n ≤ p). ⊎_elim
      (λ (held : p < 64 * k). has_bit-take (64 * k) k p ws (omega arith) held)
      (λ (behind : 64 * k ≤ p). has_bit-past (take k ws) p (omega (arith, length-used)) ∙ sym (clean.tail p past))
      (cases_lt p (64 * k)))
      (cases_lt p n)

  -- those behind them stay
  pub keeps_used : (part : List ℕ) (v : Bits) → length part ≡ k → v.length ≡ n
      → ((p : ℕ) → p < 64 * k → has_bit part p ≡ contains v p) → Keeps n (part ++ drop k ws) v
  keeps_used part v long same_length same =
      keeps n (part ++ drop k ws) v clean.fits
      (omega (arith, length-appended part (drop k ws), length-drop k ws, long, clean.count, count)) same_length
      (λ p. ⊎_elim
      (λ (below : p < 64 * k). has_bit-front part (drop k ws) p (omega (arith, long)) ∙ same p below)
      (λ (behind : 64 * k ≤ p).
      has_bit-behind part ws k p long (omega (arith, behind)) ∙ clean.tail p (omega (arith, count))
      ∙ sym (contains-past v p (omega (arith, count, same_length))))
      (cases_lt p (64 * k)))

  -- a row joined with the positions of a test, and then cut at n
  pub keeps_used_moved : (mid part : List ℕ) (f : Bool → Bool → Bool) (test on : ℕ → Bool)
      → IsJoined f (take k ws) test mid → IsJoined (λ x y. x && y) mid (λ p. nat_lt p n) part
      → ((p : ℕ) → test p ≡ on p) → Keeps n (part ++ drop k ws) (having n (λ p. f (has_bit ws p) (on p)))
  keeps_used_moved mid part f test on moved cut same =
      let passes : ℕ → Bool = λ p. f (has_bit ws p) (on p) in
      keeps_used part (having n passes) (cut.long ∙ moved.long ∙ length-used) (length-having n passes)
      (λ p within.
      grind (
        arith,
        nat_tests,
        count,
        length-used,
        moved.long,
        moved.bits p,
        cut.bits p,
        contains-having n passes p,
        same p,
        has_bit-used p,
      ))

-- words that the length needs, written over with the positions of a test and then cut at n, and zeros behind them
pub keeps_over_zeros : (n : ℕ) → n < 2 ^ 64 → (ws mid part : List ℕ) (k : ℕ) (test : ℕ → Bool)
    → length ws ≡ storage_words n → k ≡ words_needed n
    → ((p : ℕ) → 64 * words_needed n ≤ p → has_bit ws p ≡ false)
    → IsJoined (λ x y. y) (take k ws) test mid → IsJoined (λ x y. x && y) mid (λ p. nat_lt p n) part
    → Keeps n (part ++ drop k ws) (having n test)
keeps_over_zeros n fits ws mid part k test count used zeros moved cut =
    let taken : length (take k ws) ≡ k = length-take-le k ws (omega (arith, count, used)) in
    let short : length part ≡ k = cut.long ∙ moved.long ∙ taken in
    keeps n (part ++ drop k ws) (having n test) fits
    (omega (arith, length-appended part (drop k ws), length-drop k ws, short, count, used)) (length-having n test)
    (λ p. ⊎_elim
    (λ (front : p < 64 * k).
    has_bit-front part (drop k ws) p (omega (arith, short))
    ∙ grind (arith, nat_tests, taken, moved.long, cut.bits p, moved.bits p, contains-having n test p))
    (λ (behind : 64 * k ≤ p).
    has_bit-behind part ws k p short (omega (arith, behind)) ∙ zeros p (omega (arith, used))
    ∙ grind (arith, nat_tests, used, contains-having n test p))
    (cases_lt p (64 * k)))

-- ---- the steps of these, and those of the lanes that are not moved

swap : (o a b c : ℕ) → a ≤ b → o + (b - a) + (a + c) ≡ o + (b + c)
swap o a b c less = omega (arith, less)

swap_behind : (o a b c : ℕ) → a ≤ b → o + (b - a) + a + c ≡ o + b + c
swap_behind o a b c less = omega (arith, less)

lanes_less : (a b : ℕ) → a ≤ b → lane_steps a ≤ lane_steps b
lanes_less a b less = omega (arith, less)

-- a row and its whole lanes, up to a place
lanes_upto : (k q : ℕ) → lane_steps (min k q) ≡ lane_steps (min (4 * div_ceil k 4) q)
lanes_upto k q = ⊎_elim
    (λ (lt : k < q).
    let low : min k q ≡ k = omega arith in
    rw low (omega arith))
    (λ (ge : q ≤ k).
    let low : min k q ≡ q = omega arith in
    let high : min (4 * div_ceil k 4) q ≡ q = omega arith in
    rw (low, high) refl)
    (cases_lt k q)

pub down_cost : (n q k long words old mid new : ℕ) → k ≡ words_needed n → long ≡ k → words ≡ storage_words n
    → mid ≡ old + (lane_steps (words - q) - lane_steps (k - q)) → new ≡ mid + join_steps false long (long - q)
    → new ≡ old + join_steps false (storage_words n) (storage_words n - q)
down_cost n q k long words old mid new used same count left moved =
    let low : ℕ = words_needed n in
    let kept : (m : ℕ) → min m (m - q) ≡ m - q = λ m. omega arith in
    let behind : (m : ℕ) → m - (m - q) ≡ min m q = λ m. omega arith in
    let more = lanes_less (low - q) (4 * div_ceil low 4 - q) (omega arith) in
    rw (
      moved,
      left,
      same,
      count,
      used,
      kept low,
      kept (4 * div_ceil low 4),
      behind low,
      behind (4 * div_ceil low 4),
      lanes_upto low q,
    )
    (swap old (lane_steps (low - q)) (lane_steps (4 * div_ceil low 4 - q)) _ more)

-- q words of which some are left for a row of k and the rest of its lane, and one step more where that has none
lanes_over : (k q : ℕ) → k ≤ q → q < 4 * div_ceil k 4
    → lane_steps k + 1 ≡ lane_steps q + lane_steps (4 * div_ceil k 4 - q)
lanes_over k q fit over = omega (arith, fit, over)

lanes_over_cost : (old mid k q : ℕ) → k ≤ q → (q < 4 * div_ceil k 4 → mid ≡ old + 1)
    → (4 * div_ceil k 4 ≤ q → mid ≡ old)
    → mid + join_steps false k q ≡ old + join_steps false (4 * div_ceil k 4) q
lanes_over_cost old mid k q fit more none =
    let low : min k q ≡ k = omega (arith, fit) in
    let rest : k - q ≡ 0 = omega (arith, fit) in
    ⊎_elim
    (λ (lt : q < 4 * div_ceil k 4).
    let high : min (4 * div_ceil k 4) q ≡ q = omega (arith, lt) in
    rw (more lt, low, rest, high) (omega (arith, lanes_over k q fit lt)))
    (λ (ge : 4 * div_ceil k 4 ≤ q).
    let high : min (4 * div_ceil k 4) q ≡ 4 * div_ceil k 4 = omega (arith, ge) in
    let behind : 4 * div_ceil k 4 - q ≡ 0 = omega (arith, ge) in
    rw (none ge, low, rest, high, behind) (omega arith))
    (cases_lt q (4 * div_ceil k 4))

-- the same where m positions from `start` on are written over the words that they need
pub slice_cost : (n m start k long to words old mid new : ℕ) → start + m ≤ n → k ≡ words_needed m → long ≡ k
    → to ≡ storage_words m → words ≡ storage_words n
    → (words - start / 64 < to → mid ≡ old + 1) → (to ≤ words - start / 64 → mid ≡ old)
    → new ≡ mid + join_steps false long (words - start / 64)
    → new ≡ old + join_steps false (storage_words m) (storage_words n - start / 64)
slice_cost n m start k long to words old mid new within used same count count_words more none moved =
    let fit : words_needed m ≤ storage_words n - start / 64 = omega (arith, within) in
    rw (moved, same, count_words, used)
    (lanes_over_cost old mid (words_needed m) (storage_words n - start / 64) fit
    (λ lt. more (rw (count, count_words) lt)) (λ ge. none (rw (count, count_words) ge)))

-- the same where they are moved up, and those below are cleared or not
up_less : (a b by : ℕ) → a ≤ b → up_steps a by ≤ up_steps b by
up_less a b by less = ⊎_elim
    (λ (lt : a < div_ceil by 64). grind (arith, nat_tests, lt))
    (λ (ge : div_ceil by 64 ≤ a).
    grind (arith, nat_tests, ge, less, lanes_less (a - div_ceil by 64) (b - div_ceil by 64) (omega (arith, less))))
    (cases_lt a (div_ceil by 64))

pub up_cost : (keep : Bool) (n by k long words old mid new : ℕ) → k ≡ words_needed n → long ≡ k
    → words ≡ storage_words n
    → mid ≡ old + (up_steps words by - up_steps k by)
    → new ≡ mid + up_steps long by + (if keep then 0 else lane_steps (min long (by / 64)))
    → new ≡ old + up_steps (storage_words n) by + (if keep then 0 else lane_steps (min (storage_words n) (by / 64)))
up_cost keep n by k long words old mid new used same count left moved =
    let low : ℕ = words_needed n in
    let more = up_less low (4 * div_ceil low 4) by (omega arith) in
    rw (moved, left, same, count, used, lanes_upto low (by / 64))
    (swap_behind old (up_steps low by) (up_steps (4 * div_ceil low 4) by) _ more)

-- the same where they are joined with m words of another row that are moved up
pub join_up_cost : (n m by k long words other old mid new : ℕ) → k ≡ words_needed n → long ≡ k
    → words ≡ storage_words n → other ≡ storage_words m
    → mid ≡ old + (join_up_steps words other by - join_up_steps k other by)
    → new ≡ mid + join_up_steps long other by → new ≡ old + join_up_steps (storage_words n) (storage_words m) by
join_up_cost n m by k long words other old mid new used same count count_other left moved =
    let low : ℕ = words_needed n in
    let high : ℕ = storage_words n in
    let split : ℕ = min (by % 64) 1 in
    let lanes = lanes_less (min (low - by / 64 - split) other) (min (high - by / 64 - split) other) (omega arith) in
    let less : join_up_steps low other by ≤ join_up_steps high other by = omega (arith, lanes) in
    rw (← count_other, moved, left, same, count, used) (omega (arith, less))

-- ---- what the tests of moved rows mean

module _ (n : ℕ) (ws : List ℕ) (clean : IsClean n ws) where
  long : n ≡ (of_words n ws).length
  long = sym (length-of_words n ws)

  same : (p : ℕ) → has_bit ws p ≡ contains (of_words n ws) p
  same p = contains_word n ws p clean

  pub having_up : (by : ℕ) → having n (λ p. nat_le by p && has_bit ws (p - by)) ≡ shift_up (of_words n ws) by
  unfolding shift_up
  having_up by = λ i. having (long i) (λ p. nat_le by p && same (p - by) i)

  pub having_with_own : (by : ℕ) → having n (λ p. has_bit ws p || (nat_le by p && has_bit ws (p - by)))
      ≡ union_with_shifted (of_words n ws) (of_words n ws) by
  unfolding union_with_shifted
  having_with_own by = λ i. having (long i) (λ p. same p i || (nat_le by p && same (p - by) i))

  pub having_with_shifted : (m : ℕ) (xs : List ℕ) → IsClean m xs → (by : ℕ)
      → having n (λ p. has_bit ws p || (nat_le by p && has_bit xs (p - by)))
      ≡ union_with_shifted (of_words n ws) (of_words m xs) by
  unfolding union_with_shifted
  having_with_shifted m xs other by =
      λ i. having (long i) (λ p. same p i || (nat_le by p && contains_word m xs (p - by) other i))

  pub having_slice : (start end : ℕ)
      → having (end - start) (λ p. has_bit ws (start + p)) ≡ slice (of_words n ws) start end
  unfolding slice
  having_slice start end = λ i. having (end - start) (λ p. same (start + p) i)

  -- copied to another length
  pub having_copy : (m : ℕ) → having m (has_bit ws) ≡ resize (of_words n ws) m false
  having_copy m =
      having_is m (has_bit ws) (resize (of_words n ws) m false) (length-resize _ m false)
      (λ p below. grind (arith, nat_tests, same p, contains-resize (of_words n ws) m false p))

  -- moved down, no position stands past the length
  pub keeps_down_used : (k : ℕ) → k ≡ words_needed n → (by : ℕ) (part : List ℕ)
      → IsJoined (λ x y. y) (take k ws) (λ p. has_bit (take k ws) (by + p)) part
      → Keeps n (part ++ drop k ws) (shift_down (of_words n ws) by)
  keeps_down_used k count by part moved =
      keeps_used n ws clean k count part (shift_down (of_words n ws) by) (moved.long ∙ length-used n ws clean k count)
      (length-shift_down (of_words n ws) by ∙ sym long) (λ p within.
      let turned : by + p ≡ p + by = omega arith in
      grind (
        arith,
        nat_tests,
        turned,
        length-used n ws clean k count,
        moved.bits p,
        has_bit-used n ws clean k count (by + p),
        clean.tail (by + p),
        same (by + p),
        contains-shift_down (of_words n ws) by p,
        long,
      ))

  -- moved by 0, the value stays
  pub stays_up : of_words n ws ≡ shift_up (of_words n ws) 0
  stays_up = same_bits (of_words n ws) (shift_up (of_words n ws) 0) (sym (length-shift_up (of_words n ws) 0))
      (λ p. grind (arith, nat_tests, contains-shift_up (of_words n ws) 0 p, contains-past (of_words n ws) p))

  pub stays_with_own : of_words n ws ≡ union_with_shifted (of_words n ws) (of_words n ws) 0
  stays_with_own =
      same_bits (of_words n ws) (union_with_shifted (of_words n ws) (of_words n ws) 0)
      (sym (length-union_with_shifted (of_words n ws) (of_words n ws) 0))
      (λ p.
      grind (
        arith,
        nat_tests,
        contains-union_with_shifted (of_words n ws) (of_words n ws) 0 p,
        contains-past (of_words n ws) p,
      ))

-- ---- positions written over with those of another row

pub keeps_copied : (n m : ℕ) (old ws new : List ℕ) → IsClean n old → IsClean m ws → (start end at : ℕ)
    → at + (end - start) ≤ n → IsCopied ws start at (at + (end - start)) old new
    → Keeps n new (copy_range (of_words n old) (of_words m ws) start end at)
keeps_copied n m old ws new clean other start end at room done =
    let v : Bits = of_words n old in
    let w : Bits = of_words m ws in
    keeps n new (copy_range v w start end at) clean.fits (done.long ∙ clean.count)
    (length-copy_range v w start end at ∙ length-of_words n old) (λ p.
    grind (
      arith,
      nat_tests,
      done.before p,
      done.copied p,
      done.behind p,
      clean.tail p,
      contains_word n old p clean,
      contains_word m ws (start + (p - at)) other,
      contains-copy_range v w start end at p,
      length-of_words n old,
    ))

-- ---- at most 64 positions as a number

has_bit-single : (number i : ℕ) → i < 64 → has_bit (number ∷ []) i ≡ bit number i
unfolding has_bit
has_bit-single number i within =
    let first : i / 64 ≡ 0 = omega arith in
    let at : i % 64 ≡ i = omega arith in
    rw (first, at) refl

pub keeps_stored : (n : ℕ) (old new : List ℕ) → IsClean n old → (start width number : ℕ) → width ≤ 64
    → start + width ≤ n → IsCopied (number ∷ []) 0 start (start + width) old new
    → Keeps n new (store (of_words n old) start width number)
keeps_stored n old new clean start width number short room done =
    let v : Bits = of_words n old in
    keeps n new (store v start width number) clean.fits (done.long ∙ clean.count)
    (length-store v start width number ∙ length-of_words n old) (λ p.
    grind (
      arith,
      nat_tests,
      done.before p,
      done.copied p,
      done.behind p,
      has_bit-single number (p - start),
      clean.tail p,
      contains_word n old p clean,
      contains-store v start width number p,
      length-of_words n old,
    ))

-- a number with the bits of the positions
pub number_is : (n : ℕ) (ws : List ℕ) → IsClean n ws → (start width number : ℕ) → width ≤ 64 → number < 2 ^ 64
    → ((i : ℕ) → bit number i ≡ (nat_lt i width && has_bit ws (start + i)))
    → number ≡ number_at (of_words n ws) start width
number_is n ws clean start width number short fits bits =
    let v : Bits = of_words n ws in
    let less : 2 ^ width ≤ 2 ^ 64 = pow_mono short in
    same_from_bits_below 64 _ _ fits (omega (arith, number_at-lt v start width, less)) (λ i _. ⊎_elim
    (λ (below : i < width).
    grind (
      arith,
      nat_tests,
      bits i,
      bit_at-lt number i,
      contains_word n ws (start + i) clean,
      bit_at-number_at v start width i below,
    ))
    (λ (past : width ≤ i).
    grind (
      arith,
      nat_tests,
      bits i,
      bit_at-lt number i,
      bit_at_above (number_at v start width) width i (number_at-lt v start width) past,
    ))
    (cases_lt i width))

-- ---- parts put together

-- the positions of w behind those of v, where v has grown
pub append_grown : (v w : Bits) (n : ℕ) → n ≡ v.length + w.length
    → union_with_shifted (grow v n) w v.length ≡ append v w
append_grown v w n total =
    let long : (grow v n).length ≡ v.length + w.length = omega (arith, length-grow v n) in
    same_bits (union_with_shifted (grow v n) w v.length) (append v w)
    (length-union_with_shifted (grow v n) w v.length ∙ long ∙ sym (length-append v w)) (λ p.
    grind
    (arith, long, contains-union_with_shifted (grow v n) w v.length p, contains-grow v n p, contains-append v w p))

-- words cut at a length
module _ (n m : ℕ) (ws cut new : List ℕ) (clean : IsClean n ws) (shorter : m < n)
    (kept : cut ≡ take (storage_words m) ws) (done : IsJoined (λ x y. x && y) cut (λ p. nat_lt p m) new) where
  long_cut : length cut ≡ storage_words m
  long_cut = ap length kept ∙ length-take-le (storage_words m) ws (omega (arith, clean.count))

  has_bit-kept : (p : ℕ) → p < m → has_bit cut p ≡ has_bit ws p
  unfolding has_bit
  has_bit-kept p below = rw (kept, get_or-take (storage_words m) ws (p / 64) 0 (omega arith)) refl

  pub keeps_truncated : Keeps m new (truncate (of_words n ws) m)
  keeps_truncated =
      keeps m new (truncate (of_words n ws) m) (omega (arith, clean.fits)) (done.long ∙ long_cut)
      (omega (arith, length-truncate (of_words n ws) m, length-of_words n ws)) (λ p.
      grind (
        arith,
        nat_tests,
        long_cut,
        done.long,
        done.bits p,
        has_bit-past new p,
        has_bit-kept p,
        contains_word n ws p clean,
        contains-truncate (of_words n ws) m p,
        length-of_words n ws,
      ))

-- a value no longer than n
pub truncate_longer : (v : Bits) (n : ℕ) → v.length ≤ n → v ≡ truncate v n
truncate_longer v n longer =
    same_bits v (truncate v n) (omega (arith, length-truncate v n))
    (λ p. grind (arith, nat_tests, contains-truncate v n p, contains-past v p))

-- a value of another length, with the new positions set or not
module _ (v : Bits) (n : ℕ) where
  pub resize_shorter : (enabled : Bool) → n ≤ v.length → truncate v n ≡ resize v n enabled
  resize_shorter enabled shorter =
      same_bits (truncate v n) (resize v n enabled) (omega (arith, length-truncate v n, length-resize v n enabled))
      (λ p. grind (arith, nat_tests, contains-truncate v n p, contains-resize v n enabled p))

  pub resize_with : v.length < n → insert_range (grow v n) v.length n ≡ resize v n true
  resize_with longer =
      same_bits (insert_range (grow v n) v.length n) (resize v n true)
      (omega (arith, length-insert_range (grow v n) v.length n, length-grow v n, length-resize v n true)) (λ p.
      grind (
        arith,
        nat_tests,
        contains-insert_range (grow v n) v.length n p,
        contains-grow v n p,
        length-grow v n,
        contains-resize v n true p,
      ))

  pub resize_without : v.length < n → grow v n ≡ resize v n false
  resize_without longer =
      same_bits (grow v n) (resize v n false) (omega (arith, length-grow v n, length-resize v n false))
      (λ p. grind (arith, nat_tests, contains-grow v n p, contains-past v p, contains-resize v n false p))
