-- The first place with room, searched word by word.
use Rattle.std.proofs.Common.{◌%◌, ◌≡◌, ℕ, suc, inl, inr, ◌⊎◌, ◌+◌, ◌-◌, ◌*◌, ◌/◌, ◌^◌, ◌<◌, ◌≤◌, ◌==◌}
use Rattle.std.proofs.Common.{◌&&◌, not, nat_le, nat_lt, Bool, true, false, ◌||◌, bit_or, bit_and, get_or}
use Rattle.std.proofs.Common.{map, take, length, Some, None, List, slice_get, refl, sym, ap, ◌∙◌, arith}
use Rattle.std.specs.Int.{bit_at, bit_not, w64}
use Rattle.std.proofs.lemmas.Bool.{cases_lt, lt-ltb, le-ltb, le-leb, not-true, not-false, true≢false}
use Rattle.std.proofs.Math.Bool.{and-false, or-true, not-not}
use Rattle.std.proofs.lemmas.Bool.Decides.{nat_tests, leb_tells}
use Rattle.std.proofs.lemmas.Nat.Bits.{bit_at-zero, bit_at_above, bit_at_ones}
use Rattle.std.proofs.lemmas.List.{get_or_past, get_or-take, length-take-le}
use lib.Dec.{leb}
use Rattle.bitlanes.specs.Bits.{bit, bit_without}
use Rattle.bitlanes.specs.BitLaws.{bit-not, bit-or, laws_of_and, laws_of_without}
use Rattle.bitlanes.specs.Word.{IsLowestBit, IsHighestBit}
use Rattle.bitlanes.specs.Words.{lane_steps}
use Rattle.bitwords.specs.AscendingFacts.{ascending-none, first-from}
use Rattle.bitwords.specs.Rows.{has_bit, bit_test}
use Rattle.bitwords.specs.RowFacts.{AreWords, has_bit-at}
use Rattle.bitwords.specs.Gaps.{all_pass, has_run, has_room_in, first_room}
use Rattle.bitwords.specs.Steps.{range_words}
use Rattle.bitwords.specs.GapsFacts.{pass-fails}
use Rattle.bitwords.proofs.RunStarts.{pass-holds, pass-same}
use Rattle.bitwords.proofs.Neighbouring.{none_in_words}

-- the numbers at or past `from` that are not taken
abbrev pub free : (ℕ → Bool) → ℕ → ℕ → Bool
free taken from p = nat_le from p && not (taken p)

module _ (taken : ℕ → Bool) (length count from : ℕ) where
  same_room : (q : ℕ) → from ≤ q → all_pass (λ p. not (taken p)) count q ≡ all_pass (free taken from) count q
  same_room q after =
      pass-same (λ p. not (taken p)) (free taken from) count q q
      (λ x below. let e : nat_le from (q + x) ≡ true = le-leb from (q + x) (omega arith) in
      sym (ap (λ b. b && not (taken (q + x))) e))

  no_room : (q : ℕ) → from ≤ q → (q + count ≤ length → all_pass (free taken from) count q ≡ false)
      → has_room_in taken length count q ≡ false
  unfolding has_room_in
  no_room q after none = by_end (leb_tells (q + count) length)
    where
      by_end : ((leb (q + count) length ≡ true) × (q + count ≤ length))
          ⊎ ((leb (q + count) length ≡ false) × (length < q + count)) → has_room_in taken length count q ≡ false
      by_end (inl (_, within)) = ap (λ x. nat_le (q + count) length && x) (same_room q after ∙ none within)
          ∙ and-false (nat_le (q + count) length)
      by_end (inr (past, _)) = ap (λ x. x && all_pass (λ p. not (taken p)) count q) past

  pub room_found : (p : ℕ) → from ≤ p → p + count ≤ length → all_pass (free taken from) count p ≡ true
      → ((q : ℕ) → from ≤ q → q < p → all_pass (free taken from) count q ≡ false)
      → Some p ≡ first_room taken length count from
  unfolding first_room has_room_in
  room_found p after within room none =
      let fits : nat_le (p + count) length ≡ true = le-leb (p + count) length within in
      let has : has_room_in taken length count p ≡ true = (let r = same_room p after ∙ room in λ j. fits j && r j) in
      sym (first-from (has_room_in taken length count) from (length + 1 - from) p after (omega arith) has
      (λ q above below. no_room q above (λ _. none q above below)))

  pub room_none : ((q : ℕ) → from ≤ q → q + count ≤ length → all_pass (free taken from) count q ≡ false)
      → None ≡ first_room taken length count from
  unfolding first_room
  room_none none =
      sym (ap (λ xs. slice_get xs 0) (ascending-none (has_room_in taken length count) from (length + 1 - from)
      (λ q above below. no_room q above (λ within. none q above within))))

-- ---- one word further

-- no number before `begin` has room, and each from there up to `at` is free
pub record IsOpen (f : ℕ → Bool) (count at begin : ℕ) : Type 0 where
  pub none : (q : ℕ) → q < begin → all_pass f count q ≡ false
  pub clear : (p : ℕ) → begin ≤ p → p < at → f p ≡ true

module _ (f : ℕ → Bool) (count at word begin : ℕ) (some : 1 ≤ count) (is : (i : ℕ) → i < 64
    → bit word i ≡ not (f (at + i))) (opened : IsOpen f count at begin) where
  unset : (p : ℕ) → at ≤ p → p < at + 64 → bit_at word (p - at) ≡ 0 → f p ≡ true
  unset p from to zero_bit =
      let here : at + (p - at) ≡ p = omega arith in
      let e : not (f p) ≡ false = sym (is (p - at) (omega arith) ∙ ap (λ i. not (f i)) here)
      ∙ ap (λ b. b == 1) zero_bit in
      not-false (f p) e

  set : (i : ℕ) → i < 64 → bit_at word i ≡ 1 → f (at + i) ≡ false
  set i below one =
      let e : not (f (at + i)) ≡ true = sym (is i below) ∙ ap (λ b. b == 1) one in
      not-true (f (at + i)) e

  -- where enough bits are clear before the first that is set, the stretch has room
  pub room_before : (low : ℕ) → low ≤ 64 → ((i : ℕ) → i < low → bit_at word i ≡ 0) → begin + count ≤ at + low
      → all_pass f count begin ≡ true
  room_before low within clear enough = pass-holds f count begin (λ r from to. by_word r from to (leb_tells at r))
    where
      by_word : (r : ℕ) → begin ≤ r → r < begin + count → ((leb at r ≡ true) × (at ≤ r))
          ⊎ ((leb at r ≡ false) × (r < at)) → f r ≡ true
      by_word r from to (inr (_, before)) = opened.clear r from before
      by_word r from to (inl (_, behind)) = unset r behind (omega arith) (clear (r - at) (omega arith))

  -- a word of zeros is free
  pub open_on : word ≡ 0 → IsOpen f count (at + 64) begin
  open_on zeros = record { none = opened.none; clear = λ p from to. by_word p from to (leb_tells at p) }
    where
      no_bit : (i : ℕ) → bit_at word i ≡ 0
      no_bit i = ap (λ w. bit_at w i) zeros ∙ bit_at-zero i

      by_word : (p : ℕ) → begin ≤ p → p < at + 64 → ((leb at p ≡ true) × (at ≤ p)) ⊎ ((leb at p ≡ false) × (p < at))
          → f p ≡ true
      by_word p from to (inr (_, before)) = opened.clear p from before
      by_word p from to (inl (_, behind)) = unset p behind to (no_bit (p - at))

  -- otherwise no number up to the lowest bit has room
  none_before : (low : ℕ) → IsLowestBit word low → at + low < begin + count → (q : ℕ) → q ≤ at + low
      → all_pass f count q ≡ false
  none_before low lowest short q below = by_open (leb_tells begin q)
    where
      by_open : ((leb begin q ≡ true) × (begin ≤ q)) ⊎ ((leb begin q ≡ false) × (q < begin))
          → all_pass f count q ≡ false
      by_open (inr (_, before)) = opened.none q before
      by_open (inl (_, behind)) = pass-fails f count q (at + low) below (omega arith) (set low lowest.within lowest.set)

  module _ (low : ℕ) (lowest : IsLowestBit word low) (short : at + low < begin + count) (fits : word < 2 ^ 64) where
    -- the runs within the word
    inner : (i : ℕ) → i + count ≤ 64 → has_run (bit_not w64 word) count i ≡ all_pass f count (at + i)
    inner i within = pass-same (bit (bit_not w64 word)) f count i (at + i) (λ x below.
        let e : at + (i + x) ≡ at + i + x = omega arith in
        bit-not word (i + x) fits (omega arith) ∙ ap not (is (i + x) (omega arith))
        ∙ not-not (f (at + (i + x))) ∙ ap f e)

    -- the first run within the word
    module _ (starts k : ℕ) (runs : (i : ℕ) → bit starts i ≡ has_run (bit_not w64 word) count i)
        (first : IsLowestBit starts k) (within : k + count ≤ 64) where
      pub room_inside : all_pass f count (at + k) ≡ true
      room_inside = sym (inner k within) ∙ sym (runs k) ∙ ap (λ b. b == 1) first.set

      pub none_inside : (q : ℕ) → q < at + k → all_pass f count q ≡ false
      none_inside q before = by_word (leb_tells at q)
        where
          by_word : ((leb at q ≡ true) × (at ≤ q)) ⊎ ((leb at q ≡ false) × (q < at)) → all_pass f count q ≡ false
          by_word (inr (_, early)) = none_before low lowest short q (omega arith)
          by_word (inl (_, late)) =
              let here : at + (q - at) ≡ q = omega arith in
              sym (ap (all_pass f count) here) ∙ sym (inner (q - at) (omega arith)) ∙ sym (runs (q - at))
              ∙ ap (λ b. b == 1) (first.lowest (q - at) (omega arith))

    -- no run within the word, and the stretch behind the highest bit
    pub open_behind : (high : ℕ) → IsHighestBit word high
        → ((i : ℕ) → i + count ≤ 64 → has_run (bit_not w64 word) count i ≡ false)
        → IsOpen f count (at + 64) (at + high + 1)
    open_behind high highest no_runs = record {
      none = λ q before. by_word q before (leb_tells at q) (leb_tells (at + high + 1) (q + count));
      clear = λ p from to. unset p (omega arith) to (highest.highest (p - at) (omega arith));
    }
      where
        by_word : (q : ℕ) → q < at + high + 1 → ((leb at q ≡ true) × (at ≤ q)) ⊎ ((leb at q ≡ false) × (q < at))
            → ((leb (at + high + 1) (q + count) ≡ true) × (at + high + 1 ≤ q + count))
            ⊎ ((leb (at + high + 1) (q + count) ≡ false) × (q + count < at + high + 1)) → all_pass f count q ≡ false
        by_word q before (inr (_, early)) over = none_before low lowest short q (omega arith)
        by_word q before (inl (_, late)) (inl (_, over)) =
            pass-fails f count q (at + high) (omega arith) (omega arith) (set high highest.within highest.set)
        by_word q before (inl (_, late)) (inr (_, inside)) =
            let here : at + (q - at) ≡ q = omega arith in
            sym (ap (all_pass f count) here) ∙ sym (inner (q - at) (omega (arith, highest.within)))
            ∙ no_runs (q - at) (omega (arith, highest.within))

    -- then that stretch ends in a word behind
    pub ends_later : (high : ℕ) → IsHighestBit word high
        → ((i : ℕ) → i + count ≤ 64 → has_run (bit_not w64 word) count i ≡ false) → 64 < high + 1 + count
    ends_later high highest no_runs = by_end (leb_tells (high + 1 + count) 64)
      where
        by_end : ((leb (high + 1 + count) 64 ≡ true) × (high + 1 + count ≤ 64))
            ⊎ ((leb (high + 1 + count) 64 ≡ false) × (64 < high + 1 + count)) → 64 < high + 1 + count
        by_end (inr (_, past)) = past
        by_end (inl (_, within)) =
            let room = pass-holds f count (at + (high + 1))
            (λ r above below. unset r (omega arith) (omega arith) (highest.highest (r - at) (omega arith))) in
            absurd (true≢false (sym room ∙ sym (inner (high + 1) within) ∙ no_runs (high + 1) within))

    -- a run within the word ends within it
    pub run_within : (starts k : ℕ) → ((i : ℕ) → bit starts i ≡ has_run (bit_not w64 word) count i)
        → IsLowestBit starts k → k + count ≤ 64
    run_within starts k runs first = by_end (leb_tells (k + count) 64)
      where
        by_end : ((leb (k + count) 64 ≡ true) × (k + count ≤ 64)) ⊎ ((leb (k + count) 64 ≡ false) × (64 < k + count))
            → k + count ≤ 64
        by_end (inl (_, within)) = within
        by_end (inr (_, past)) =
            let none : bit (bit_not w64 word) 64 ≡ false =
            ap (λ d. d == 1) (bit_at_above (bit_not w64 word) 64 64 (omega arith) (omega arith)) in
            let fails = pass-fails (bit (bit_not w64 word)) count k 64 (omega (arith, first.within)) past none in
            absurd (true≢false (sym (ap (λ b. b == 1) first.set) ∙ runs k ∙ fails))

-- where there is a run of free numbers, it is past `from`
pub room_after : (taken : ℕ → Bool) (count from p : ℕ) → 1 ≤ count → all_pass (free taken from) count p ≡ true
    → from ≤ p
room_after taken count from p some room = by_order (leb_tells from p)
  where
    by_order : ((leb from p ≡ true) × (from ≤ p)) ⊎ ((leb from p ≡ false) × (p < from)) → from ≤ p
    by_order (inl (_, after)) = after
    by_order (inr (before, _)) =
        absurd (true≢false (sym room
        ∙ pass-fails (free taken from) count p p (omega arith) (omega arith) (λ j. before j && not (taken p))))

-- ---- the word that is looked at

module _ (ws : List ℕ) (from x mask : ℕ) (masked : (i : ℕ) → bit mask i ≡ nat_lt (64 * x + i) from) where
  pub word_is : (i : ℕ) → i < 64 → bit (bit_or (get_or ws x 0) mask) i ≡ not (free (has_bit ws) from (64 * x + i))
  word_is i below =
      let a : bit (get_or ws x 0) i ≡ has_bit ws (64 * x + i) = sym (has_bit-at ws x i below) in
      let b = masked i in
      bit-or (get_or ws x 0) mask i ∙ (λ j. a j || b j)
      ∙ by_order (has_bit ws (64 * x + i)) (leb_tells from (64 * x + i))
    where
      by_order : (h : Bool) → ((leb from (64 * x + i) ≡ true) × (from ≤ 64 * x + i))
          ⊎ ((leb from (64 * x + i) ≡ false) × (64 * x + i < from))
          → (h || nat_lt (64 * x + i) from) ≡ not (nat_le from (64 * x + i) && not h)
      by_order true (inl (e, _)) = (λ j. not (sym e j && false))
      by_order false (inl (e, after)) = grind (arith, nat_tests)
      by_order true (inr (e, _)) = (λ j. not (sym e j && false))
      by_order false (inr (e, before)) = grind (arith, nat_tests)

  -- a word of zeros stands at or behind the place where the stretch begins
  pub begins_before : (begin : ℕ) → bit_or (get_or ws x 0) mask ≡ 0 → (64 * x < begin → begin ≡ from) → begin ≤ 64 * x
  begins_before begin zeros near = by_order (leb_tells begin (64 * x))
    where
      by_order : ((leb begin (64 * x) ≡ true) × (begin ≤ 64 * x)) ⊎ ((leb begin (64 * x) ≡ false) × (64 * x < begin))
          → begin ≤ 64 * x
      by_order (inl (_, within)) = within
      by_order (inr (_, past)) =
          let is : begin ≡ from = near past in
          let set_bit : nat_lt (64 * x + 0) from ≡ true = le-leb (suc (64 * x + 0)) from (omega arith) in
          let unset_bit : bit (bit_or (get_or ws x 0) mask) 0 ≡ false = ap (λ w. bit w 0) zeros in
          absurd (true≢false (sym (or-true (bit (get_or ws x 0) 0))
          ∙ (let b = masked 0 ∙ set_bit in λ j. bit (get_or ws x 0) 0 || sym b j) ∙ sym (bit-or (get_or ws x 0) mask 0)
          ∙ unset_bit))

  -- the positions before `from` are all before the next stretch
  pub begins_past : (high : ℕ) → IsHighestBit (bit_or (get_or ws x 0) mask) high → from ≤ 64 * x + high + 1
  begins_past high highest = by_order (leb_tells from (64 * x + high + 1))
    where
      by_order : ((leb from (64 * x + high + 1) ≡ true) × (from ≤ 64 * x + high + 1))
          ⊎ ((leb from (64 * x + high + 1) ≡ false) × (64 * x + high + 1 < from)) → from ≤ 64 * x + high + 1
      by_order (inl (_, within)) = within
      by_order (inr (_, before)) =
          let set_bit : bit mask (high + 1) ≡ true = masked (high + 1)
          ∙ le-leb (suc (64 * x + (high + 1))) from (omega arith) in
          let unset_bit : bit (bit_or (get_or ws x 0) mask) (high + 1) ≡ false =
          ap (λ d. d == 1) (highest.highest (high + 1) (omega arith)) in
          absurd (true≢false (sym (or-true (bit (get_or ws x 0) (high + 1)))
          ∙ (λ j. bit (get_or ws x 0) (high + 1) || sym set_bit j) ∙ sym (bit-or (get_or ws x 0) mask (high + 1))
          ∙ unset_bit))

-- ---- full words passed over

-- the mask is spent where all words begin past `from`
pub mask_behind : (from next : ℕ) → from ≤ 64 * next → (i : ℕ) → bit 0 i ≡ nat_lt (64 * next + i) from
mask_behind from next past i =
    let none : bit 0 i ≡ false = ap (λ d. d == 1) (bit_at-zero i) in
    none ∙ grind (arith, nat_tests)

module _ (ws : List ℕ) (from x mask next : ℕ) (masked : (i : ℕ) → bit mask i ≡ nat_lt (64 * x + i) from)
    (all_set : bit_or (get_or ws x 0) mask ≡ 2 ^ 64 - 1) (full : (p : ℕ) → 64 * (x + 1) ≤ p → p < 64 * next
    → has_bit ws p ≡ true) where
  pub none_free : (p : ℕ) → 64 * x ≤ p → p < 64 * next → free (has_bit ws) from p ≡ false
  none_free p above below = by_word (leb_tells (64 * x + 64) p)
    where
      by_word : ((leb (64 * x + 64) p ≡ true) × (64 * x + 64 ≤ p)) ⊎ ((leb (64 * x + 64) p ≡ false) × (p < 64 * x + 64))
          → free (has_bit ws) from p ≡ false
      by_word (inr (_, here)) =
          let at : 64 * x + (p - 64 * x) ≡ p = omega arith in
          let one : bit (bit_or (get_or ws x 0) mask) (p - 64 * x) ≡ true = ap (λ w. bit w (p - 64 * x)) all_set
          ∙ ap (λ d. d == 1) (bit_at_ones 64 (p - 64 * x) (omega arith)) in
          let is = word_is ws from x mask masked (p - 64 * x) (omega arith) in
          sym (ap (free (has_bit ws) from) at)
          ∙ not-true (free (has_bit ws) from (64 * x + (p - 64 * x))) (sym is ∙ one)
      by_word (inl (_, later)) = (let set_there = full p (omega arith) below in λ j. nat_le from p && not (set_there j))
          ∙ and-false (nat_le from p)

  pub open_past : (count begin low : ℕ) → 1 ≤ count → IsOpen (free (has_bit ws) from) count (64 * x) begin
      → IsLowestBit (bit_or (get_or ws x 0) mask) low → 64 * x + low < begin + count
      → IsOpen (free (has_bit ws) from) count (64 * next) (64 * next)
  open_past count begin low some opened lowest short = record {
    none = λ q before. by_word q before (leb_tells (64 * x) q);
    clear = λ p above below. absurd (omega arith);
  }
    where
      by_word : (q : ℕ) → q < 64 * next → ((leb (64 * x) q ≡ true) × (64 * x ≤ q))
          ⊎ ((leb (64 * x) q ≡ false) × (q < 64 * x)) → all_pass (free (has_bit ws) from) count q ≡ false
      by_word q before (inl (_, late)) =
          pass-fails (free (has_bit ws) from) count q q (omega arith) (omega arith) (none_free q late before)
      by_word q before (inr (_, early)) =
          none_before (free (has_bit ws) from) count (64 * x) _ begin some (word_is ws from x mask masked) opened low
          lowest short q (omega arith)

-- ---- clear words passed over

-- behind a word that is free, positions that are clear are free too
pub open_over : (ws : List ℕ) (from count at next begin : ℕ) → from ≤ begin
    → IsOpen (free (has_bit ws) from) count at begin → ((p : ℕ) → at ≤ p → p < next → has_bit ws p ≡ false)
    → IsOpen (free (has_bit ws) from) count next begin
open_over ws from count at next begin after opened clear = record {
  none = opened.none;
  clear = λ p above below. by_word p above below (leb_tells at p);
}
  where
    by_word : (p : ℕ) → begin ≤ p → p < next → ((leb at p ≡ true) × (at ≤ p)) ⊎ ((leb at p ≡ false) × (p < at))
        → free (has_bit ws) from p ≡ true
    by_word p above below (inr (_, early)) = opened.clear p above early
    by_word p above below (inl (_, late)) =
        (let e = le-leb from p (omega arith) in let c = clear p late below in λ j. e j && not (c j))

-- what a search over the first words of the row tells of it
module _ (ws : List ℕ) (words : AreWords ws) (at next stop : ℕ) (order : next ≤ stop) (within : stop ≤ length ws) where
  same_bits : (p : ℕ) → p < 64 * stop → has_bit (take stop ws) p ≡ has_bit ws p
  unfolding has_bit
  same_bits p below = ap (λ w. bit w (p % 64)) (get_or-take stop ws (p / 64) 0 (omega arith))

  words_first : AreWords (take stop ws)
  words_first k = by_end (leb_tells stop k)
    where
      by_end : ((leb stop k ≡ true) × (stop ≤ k)) ⊎ ((leb stop k ≡ false) × (k < stop))
          → get_or (take stop ws) k 0 < 2 ^ 64
      by_end (inr (_, below)) = rw (get_or-take stop ws k 0 below) (words k)
      by_end (inl (_, past)) =
          rw (get_or_past (take stop ws) k 0 (omega (arith, length-take-le stop ws within))) (omega arith)

  pub clear_over : ((i : ℕ) → at ≤ i → i < next → get_or (map (bit_and (2 ^ 64 - 1)) (take stop ws)) i 0 ≡ 0) → (p : ℕ)
      → 64 * at ≤ p → p < 64 * next → has_bit ws p ≡ false
  unfolding bit_test
  clear_over zeros p above below =
      sym (same_bits p (omega arith))
      ∙ none_in_words laws_of_and refl (take stop ws) words_first at next (omega (arith, length-take-le stop ws within))
      zeros p above below

  pub full_over : ((i : ℕ) → at ≤ i → i < next → get_or (map (bit_without (2 ^ 64 - 1)) (take stop ws)) i 0 ≡ 0)
      → (p : ℕ) → 64 * at ≤ p → p < 64 * next → has_bit ws p ≡ true
  unfolding bit_test
  full_over zeros p above below =
      sym (same_bits p (omega arith))
      ∙ not-false (has_bit (take stop ws) p) (none_in_words laws_of_without refl (take stop ws) words_first at next
      (omega (arith, length-take-le stop ws within)) zeros p above below)

-- ---- the steps

-- how many words hold a position of a range that ends in word k
module _ (from end k : ℕ) (first : from / 64 ≤ k) where
  words_most : end ≤ 64 * (k + 1) → range_words from end ≤ k - from / 64 + 1
  words_most within =
      elim (cases_lt from end) [
        | inl some ↦ rw (lt-ltb from end some) (omega (arith, within))
        | inr none ↦ rw (le-ltb from end none) (omega arith)
      ]

  words_least : from < end → 64 * k < end → k - from / 64 + 1 ≤ range_words from end
  words_least some behind = rw (lt-ltb from end some) (omega (arith, behind))

  module _ (steps after : ℕ) (spent : after ≡ steps + lane_steps (k - from / 64 + 1)) where
    -- where the range ends within that word or before, its lanes were all looked at
    pub steps_least : end ≤ 64 * (k + 1) → steps + lane_steps (range_words from end) ≤ after
    steps_least within = grow (words_most within)
      where
        grow : {m : ℕ} → m ≤ k - from / 64 + 1 → steps + lane_steps m ≤ after
        grow less = omega (arith, spent, less)

    -- where it ends within that word or behind, no others were
    pub steps_most : from < end → 64 * k < end → after ≤ steps + lane_steps (range_words from end)
    steps_most some behind = grow (words_least some behind)
      where
        grow : {m : ℕ} → k - from / 64 + 1 ≤ m → after ≤ steps + lane_steps m
        grow more = omega (arith, spent, more)

    pub steps_exact : from < end → 64 * k < end → end ≤ 64 * (k + 1) → after ≡ steps + lane_steps (range_words from end)
    steps_exact some behind within = omega (arith, steps_least within, steps_most some behind)

-- the lane of one word more, and of the words that are passed over behind it
pub spent_at : (steps before after words : ℕ) → before ≡ steps + lane_steps words
    → after + lane_steps words ≡ before + lane_steps (words + 1) → after ≡ steps + lane_steps (words + 1)
spent_at steps before after words was is = omega (arith, was, is)

pub spent_over : (steps before after from x next : ℕ) → from ≤ x → x + 1 ≤ next
    → before ≡ steps + lane_steps (x - from + 1) → 4 * after ≡ 4 * before + (next - (x + 1))
    → after ≡ steps + lane_steps (next - from)
spent_over steps before after from x next first order was is = omega (arith, first, order, was, is)
