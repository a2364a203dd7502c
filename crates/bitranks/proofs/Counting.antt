-- Counts of positions as a directory has them, the position to which one leads, and a
-- value with its words and a directory of them.
use Rattle.std.proofs.Common.{◌≡◌, ◌==◌, ℕ, ◌+◌, ◌-◌, ◌*◌, ◌/◌, ◌<◌, ◌≤◌, Bool, true, false, ◌&&◌}
use Rattle.std.proofs.Common.{nat_lt, bit_and, min, Option, Some, None, IfSome, IfNone, List, length}
use Rattle.std.proofs.Common.{get_or, set, slice_index, refl, sym, subst, ap, ◌∙◌, arith, ⊎_elim}
use Rattle.std.specs.List.{slice_get}
use Rattle.std.specs.Int.Count.{ones}
use Rattle.std.proofs.lemmas.Bool.{cases_lt, lt-ltb}
use Rattle.std.proofs.lemmas.Bool.Decides.{nat_tests}
use Rattle.std.proofs.lemmas.List.{get_or-set_same, get_or-set_other}
use Rattle.bitlanes.specs.Bits.{bit}
use Rattle.bitwords.specs.Ascending.{ascending}
use Rattle.bitwords.specs.AscendingFacts.{ascending-cut}
use Rattle.bitwords.specs.CountFacts.{count-same, count-shorter}
use Rattle.bitwords.specs.Neighbours.{IsNth}
use Rattle.bitwords.specs.NthFacts.{nth-ascending, none-ascending, ones-below, count-within}
use Rattle.bitwords.specs.RowFacts.{AreWords, has_bit-past}
use Rattle.bitwords.specs.Rows.{has_bit, bit_test, count_below}
use Rattle.bitwords.specs.Steps.{range_words}
use Rattle.fixedbitset.specs.Bits.{Bits, contains, asc, words_needed}
use Rattle.fixedbitset.specs.BitsFacts.{contains-past}
use Rattle.fixedbitset.specs.WordsFacts.{has_bit-words, length-words}
use Rattle.bitranks.specs.Ranks.{IsDirectory, IsKept, rank, select, entries}
use Rattle.bitranks.specs.RanksFacts.{rank-count}

-- ---- the entries of a directory

-- a position past the end counts as the end
pub count-min : (ws : List ℕ) (n : ℕ) → count_below (has_bit ws) (min n (64 * length ws)) ≡ count_below (has_bit ws) n
count-min ws n =
    sym (count-shorter (has_bit ws) (min n (64 * length ws)) n (omega arith)
    (λ p from below. has_bit-past ws p (omega arith)))

-- one number more is written behind those that are as they should be
pub written_more : (f : ℕ → ℕ) (xs : List ℕ) (n x : ℕ) → n < length xs → ((k : ℕ) → k < n → get_or xs k 0 ≡ f k)
    → x ≡ f n → (k : ℕ) → k < n + 1 → get_or (set xs n x) k 0 ≡ f k
written_more f xs n x within before here k below =
    let was = before k in grind (arith, was, get_or-set_same xs n x 0, get_or-set_other xs n k x 0)

-- the count before eight words and that of the eight is the count before the next
pub next_entry : (ws : List ℕ) (n had more : ℕ) → 0 < n → had ≡ count_below (has_bit ws) (64 * (8 * (n - 1)))
    → more + count_below (bit_test (λ y. true && y) ws) (512 * (n - 1))
    ≡ count_below (bit_test (λ y. true && y) ws) (512 * (n - 1) + 512)
    → had + more ≡ count_below (has_bit ws) (64 * (8 * n))
unfolding bit_test
next_entry ws n had more some before counted =
    let start : 512 * (n - 1) ≡ 64 * (8 * (n - 1)) = omega arith in
    let end : 512 * (n - 1) + 512 ≡ 64 * (8 * n) = omega arith in
    omega (arith, before, counted, ap (count_below (has_bit ws)) start, ap (count_below (has_bit ws)) end)

pub not_zero : (n : ℕ) → (n == 0) ≡ false → 0 < n
not_zero n some = grind (arith, nat_tests)

-- the positions of one entry stand in eight words
pub eight_words : (n : ℕ) → range_words (512 * n) (512 * n + 512) ≡ 8
eight_words n = rw (lt-ltb (512 * n) (512 * n + 512) (omega arith)) (omega arith)

-- ---- the words of a row

module _ (ws : List ℕ) (words : AreWords ws) (k : ℕ) where
  -- up to a position, where word k has it or is the last one
  pub count-upto : (position n mask total at : ℕ) → total ≡ count_below (has_bit ws) (64 * at) → at ≡ k
      → k ≡ min (position / 64) (length ws - 1) → 0 < length ws
      → n ≡ min (position - 64 * k) 64 → ((i : ℕ) → bit mask i ≡ nat_lt i n)
      → total + ones (bit_and (get_or ws k 0) mask) ≡ count_below (has_bit ws) position
  count-upto position n mask total at had here last some below masked =
      let end : 64 * k + n ≡ min position (64 * length ws) = omega arith in
      let ones = ones-below (get_or ws k 0) mask n (words k) (omega arith) masked in
      omega (
        arith,
        ap (λ j. count_below (has_bit ws) (64 * j)) here,
        count-within ws words k n (omega arith),
        ones,
        ap (count_below (has_bit ws)) end,
        count-min ws position,
      )

-- ---- the position that a directory leads to

module _ (ws directory : List ℕ) (is : IsDirectory ws directory) where
  -- where none is found, the entry is the last
  pub last_entry : (index entry end left : ℕ) → entry < length directory → slice_index directory entry ≤ index
      → (entry + 1 < length directory → index < slice_index directory (entry + 1))
      → end ≡ min (length ws) (8 * entry + 8) → left ≡ index - slice_index directory entry
      → count_below (has_bit ws) (64 * end) ≤ count_below (has_bit ws) (64 * (8 * entry)) + left
      → entry + 1 ≡ length directory
  last_entry index entry end left within low high ends rest none =
      let few : count_below (has_bit ws) (64 * end) ≤ index = omega (arith, none, is.counts entry within) in
      ⊎_elim
      (λ (more : entry + 1 < length directory).
      let e : 64 * (8 * (entry + 1)) ≡ 64 * end = omega (arith, is.long) in
      absurd (omega (arith, high more, is.counts (entry + 1) more, ap (count_below (has_bit ws)) e)))
      (λ (last : length directory ≤ entry + 1). omega (arith, within, last))
      (cases_lt (entry + 1) (length directory))

  -- what is found among the words of one entry, and what is not
  pub selected : (index entry end left : ℕ) → entry < length directory → slice_index directory entry ≤ index
      → (entry + 1 < length directory → index < slice_index directory (entry + 1))
      → end ≡ min (length ws) (8 * entry + 8) → left ≡ index - slice_index directory entry
      → (found : Option ℕ)
      → IfSome found (IsNth (has_bit ws) (count_below (has_bit ws) (64 * (8 * entry)) + left))
      → IfSome found (λ p. p < 64 * end)
      → IfNone found (count_below (has_bit ws) (64 * end) ≤ count_below (has_bit ws) (64 * (8 * entry)) + left)
      → found ≡ slice_get (ascending (has_bit ws) 0 (64 * length ws)) index
  selected index entry end left within low high ends rest (Some p) nth below none =
      let all : count_below (has_bit ws) (64 * (8 * entry)) + left ≡ index = omega (arith, is.counts entry within) in
      sym (nth-ascending (has_bit ws) (64 * length ws) index p (omega (arith, below))
      (subst (λ k. IsNth (has_bit ws) k p) all nth))
  selected index entry end left within low high ends rest None nth below none =
      let c : ℕ → Bool = has_bit ws in
      let few : count_below c (64 * end) ≤ index = omega (arith, none, is.counts entry within) in
      let last = last_entry index entry end left within low high ends rest none in
      let e : 64 * length ws ≡ 64 * end = omega (arith, is.long) in
      sym (none-ascending c (64 * length ws) index (omega (arith, few, ap (count_below c) e)))

-- ---- a value, its words and a directory

module _ (v : Bits) (ws directory : List ℕ) (is : IsKept v ws directory) where
  -- the positions of the words are those of the value
  same_bit : (p : ℕ) → has_bit ws p ≡ contains v p
  same_bit p = ap (λ xs. has_bit xs p) is.of_value ∙ has_bit-words v p

  pub kept_rank : (position count : ℕ) → count ≡ count_below (has_bit ws) position → count ≡ rank v position
  kept_rank position count counted =
      counted ∙ count-same (has_bit ws) (contains v) position (λ p _. same_bit p) ∙ sym (rank-count v position)

  pub kept_select : (index : ℕ) (found : Option ℕ) → found ≡ slice_get (ascending (has_bit ws) 0 (64 * length ws)) index
      → found ≡ select v index
  unfolding select asc
  kept_select index found is_item =
      let whole : 64 * length ws ≡ v.length + (64 * length ws - v.length) =
      omega (arith, ap length is.of_value, length-words v) in
      is_item
      ∙ ap (λ xs. slice_get xs index)
      (ap (ascending (has_bit ws) 0) whole
      ∙ ascending-cut (has_bit ws) (contains v) 0 v.length (64 * length ws - v.length) (λ i _ _. same_bit i)
      (λ i past _. same_bit i ∙ contains-past v i (omega (arith, past))))

  -- as many words as the value needs, and as many entries as these ask for
  pub kept_words : length ws ≡ words_needed v.length
  kept_words = ap length is.of_value ∙ length-words v

  pub kept_entries : length directory ≡ entries (words_needed v.length)
  kept_entries = is.directory.long ∙ ap entries kept_words
