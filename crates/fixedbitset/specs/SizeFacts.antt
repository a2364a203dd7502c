-- How many positions are set and how many are not, and what a change of one position makes of these numbers.
use Rattle.std.proofs.Common.{◌≡◌, ℕ, zero, suc, ◌+◌, ◌-◌, ◌<◌, ◌≤◌, min, Bool, true, false, not}
use Rattle.std.proofs.Common.{◌&&◌, ◌==◌, length, nat_cmp, eq-eqb, eqb-true, sym, ap, ◌∙◌, arith}
use Rattle.std.specs.Cmp.{nat_cmp_total, unsigned_tied}
use Rattle.std.specs.FinSet as set
use Rattle.std.specs.FinSet.{FinSet}
use Rattle.std.proofs.lemmas.Bool.Decides.{nat_tests}
use Rattle.bitwords.specs.AscendingFacts.{length-count}
use Rattle.bitwords.specs.Rows.{count_below}
use Rattle.bitwords.specs.CountFacts.{count-zero, count-suc, count-same}
use Rattle.fixedbitset.specs.Numbers.{numbers_below, numbers_between, contains-numbers_below}
use Rattle.fixedbitset.specs.NumbersFacts.{same_set, same_truth, contains-numbers_between}
use Rattle.fixedbitset.specs.NumbersFacts.{len-below, none_len, some_len}
use Rattle.fixedbitset.specs.Bits.{Bits, contains, empty, insert, remove, is_clear, is_full, complement, asc}
use Rattle.fixedbitset.specs.BitsFacts.{contains_below, same_bits, length-empty, length-insert, length-remove}
use Rattle.fixedbitset.specs.BitsFacts.{contains-empty, contains-insert, contains-remove, contains-complement}
use Rattle.fixedbitset.specs.Ranges.{count_ones, count_zeroes}

-- ---- a set split in two by another one

count-parts : (r c : ℕ → Bool) (n : ℕ) → count_below (λ p. r p && c p) n + count_below (λ p. r p && not (c p)) n
    ≡ count_below r n
count-parts r c zero = omega (arith, count-zero (λ p. r p && c p), count-zero (λ p. r p && not (c p)), count-zero r)
count-parts r c (suc n) =
    grind (arith, count-suc (λ p. r p && c p) n, count-suc (λ p. r p && not (c p)) n, count-suc r n, count-parts r c n)

-- the members of s in t and those outside t
pub len-split : (n : ℕ) (s t : FinSet nat_cmp) → ((p : ℕ) → set.contains s p ≡ true → p < n)
    → set.len s ≡ set.len (set.intersection s t) + set.len (set.difference s t)
len-split n s t below =
    let inside = set.contains-intersection nat_cmp_total s t in
    let outside = set.contains-difference nat_cmp_total s t in
    omega (
      arith,
      len-below n s below,
      len-below n (set.intersection s t) (λ p one. let low = below p in grind (arith, inside p)),
      count-same _ (λ p. set.contains s p && set.contains t p) n (λ p _. inside p),
      len-below n (set.difference s t) (λ p one. let low = below p in grind (arith, outside p)),
      count-same _ (λ p. set.contains s p && not (set.contains t p)) n (λ p _. outside p),
      count-parts (set.contains s) (set.contains t) n,
    )

-- ---- ranges

pub len-numbers_below : (n : ℕ) → set.len (numbers_below n) ≡ n
unfolding numbers_below
len-numbers_below zero = set.len-empty nat_cmp
len-numbers_below (suc n) =
    rw (set.len-insert nat_cmp_total, contains-numbers_below n n) (grind (arith, nat_tests, len-numbers_below n))

-- the numbers below both bounds
below_both : (n m : ℕ) → set.intersection (numbers_below n) (numbers_below m) ≡ numbers_below (min n m)
below_both n m =
    same_set _ _ (λ p. rw (set.contains-intersection nat_cmp_total) (grind (arith, nat_tests, contains-numbers_below)))

-- a range has as many numbers as its end is past its start
pub len-numbers_between : (start end : ℕ) → set.len (numbers_between start end) ≡ end - start
unfolding numbers_between
len-numbers_between start end =
    let low = len-split end (numbers_below end) (numbers_below start)
    (λ p one. grind (arith, nat_tests, contains-numbers_below end p)) in
    omega (arith, low, ap set.len (below_both end start), len-numbers_below)

-- of the positions of a range those that are set and those that are not add up to the length of the range
pub range_counts_add_up : (v : Bits) (start end : ℕ) → count_ones v start end + count_zeroes v start end ≡ end - start
unfolding count_ones count_zeroes
range_counts_add_up v start end =
    let parts = len-split end (numbers_between start end) v.positions
    (λ p one. grind (arith, nat_tests, contains-numbers_between start end p)) in
    omega (arith, parts, len-numbers_between start end)

-- ---- one set

-- the positions of the range of all are all positions
pub count_ones-all : (v : Bits) → count_ones v 0 v.length ≡ set.len v.positions
unfolding count_ones contains
count_ones-all v =
    ap set.len (same_set _ _ (λ p. rw (set.contains-intersection nat_cmp_total, contains-numbers_between)
    (grind (arith, nat_tests, contains_below v p))))

-- no more positions are set than there are
pub count_ones-most : (v : Bits) → count_ones v 0 v.length ≤ v.length
count_ones-most v = omega (arith, range_counts_add_up v 0 v.length)

-- nor are more not set
pub count_zeroes-most : (v : Bits) → count_zeroes v 0 v.length ≤ v.length
count_zeroes-most v = omega (arith, range_counts_add_up v 0 v.length)

pub count_ones-empty : (n : ℕ) → count_ones (empty n) 0 n ≡ 0
unfolding count_ones contains
count_ones-empty n = eqb-true _ _
    ((none_len _).1 (λ p. rw (set.contains-intersection nat_cmp_total) (grind (arith, contains-empty n p))))

pub count_zeroes-empty : (n : ℕ) → count_zeroes (empty n) 0 n ≡ n
count_zeroes-empty n = omega (arith, range_counts_add_up (empty n) 0 n, count_ones-empty n)

-- ---- one position more, and one fewer

positions-insert : (v : Bits) (bit : ℕ) → bit < v.length → (insert v bit).positions ≡ set.insert v.positions bit
unfolding contains
positions-insert v bit below =
    same_set _ _ (λ p. rw (set.contains-insert nat_cmp_total, unsigned_tied)
    (grind (arith, nat_tests, contains-insert v bit p, contains_below v p)))

positions-remove : (v : Bits) (bit : ℕ) → (remove v bit).positions ≡ set.remove v.positions bit
unfolding contains
positions-remove v bit =
    same_set _ _ (λ p. rw (set.contains-remove nat_cmp_total, unsigned_tied) (contains-remove v bit p))

-- one that was not set is set, and one more is
pub count_ones-insert : (v : Bits) (bit : ℕ) → bit < v.length → contains v bit ≡ false
    → count_ones (insert v bit) 0 (insert v bit).length ≡ count_ones v 0 v.length + 1
unfolding contains
count_ones-insert v bit below off = grind (arith, set.members, count_ones-all, positions-insert v bit below)

-- and one fewer is not
pub count_zeroes-insert : (v : Bits) (bit : ℕ) → bit < v.length → contains v bit ≡ false
    → count_zeroes (insert v bit) 0 (insert v bit).length + 1 ≡ count_zeroes v 0 v.length
count_zeroes-insert v bit below off =
    omega (arith, count_ones-insert v bit below off, count_ones-most (insert v bit), range_counts_add_up, length-insert)

-- one that was set is not, and one fewer is
pub count_ones-remove : (v : Bits) (bit : ℕ) → contains v bit ≡ true
    → count_ones (remove v bit) 0 (remove v bit).length + 1 ≡ count_ones v 0 v.length
unfolding contains
count_ones-remove v bit on = grind (arith, set.members, some_len v.positions bit on, count_ones-all, positions-remove)

-- and one more is not
pub count_zeroes-remove : (v : Bits) (bit : ℕ) → contains v bit ≡ true
    → count_zeroes (remove v bit) 0 (remove v bit).length ≡ count_zeroes v 0 v.length + 1
count_zeroes-remove v bit on =
    omega (arith, count_ones-remove v bit on, count_ones-most v, range_counts_add_up, length-remove)

-- one that was set before changes nothing
pub insert-set : (v : Bits) (bit : ℕ) → contains v bit ≡ true → insert v bit ≡ v
insert-set v bit on = same_bits (insert v bit) v (length-insert v bit)
    (λ p. grind (arith, nat_tests, contains-insert, contains_below v p))

-- one that was not set before is not set after
pub remove-clear : (v : Bits) (bit : ℕ) → contains v bit ≡ false → remove v bit ≡ v
remove-clear v bit off =
    same_bits (remove v bit) v (length-remove v bit) (λ p. grind (arith, nat_tests, contains-remove))

-- ---- none and all

pub is_clear-counts : (v : Bits) → is_clear v ≡ (count_ones v 0 v.length == 0)
unfolding is_clear
is_clear-counts v = ap (λ n. n == 0) (sym (count_ones-all v))

-- a set is full if and only if as many positions are set as there are
pub is_full-counts : (v : Bits) → is_full v ≡ (count_ones v 0 v.length == v.length)
unfolding is_full contains
is_full-counts v = same_truth _ _
    (λ full. let has = set.is_subset-contains nat_cmp_total (numbers_below v.length) v.positions full in
    let same = same_set v.positions (numbers_below v.length) (λ p. let one = has p in
    grind (arith, nat_tests, contains_below v p, contains-numbers_below)) in
    eq-eqb _ _ (count_ones-all v ∙ ap set.len same ∙ len-numbers_below v.length))
    (λ even. set.contains-is_subset nat_cmp_total _ _ (λ p low. let more = count_ones-insert v p in
    let most = count_ones-most (insert v p) in
    grind (arith, nat_tests, more, most, contains-numbers_below, length-insert)))

-- each position is set: none is not
pub count_zeroes-full : (v : Bits) → is_full v ≡ true → count_zeroes v 0 v.length ≡ 0
count_zeroes-full v full = omega (arith, range_counts_add_up v 0 v.length, eqb-true _ _ (sym (is_full-counts v) ∙ full))

-- ---- the items of an iterator

-- an iterator over the positions that are set has as many items as are counted
pub items_counted : (v : Bits) → length (asc v) ≡ count_ones v 0 v.length
unfolding asc contains
items_counted v = length-count (contains v) v.length ∙ sym (len-below v.length v.positions (contains_below v))
    ∙ sym (count_ones-all v)

-- those that are set in the complement are those that are not set
count_ones-complement : (v : Bits) → count_ones (complement v) 0 (complement v).length ≡ count_zeroes v 0 v.length
unfolding count_zeroes contains
count_ones-complement v =
    count_ones-all (complement v)
    ∙ ap
    set.len (same_set _ _ (λ p. rw (set.contains-difference nat_cmp_total, contains-numbers_between)
    (grind (arith, nat_tests, contains-complement v p))))

-- and one over those that are not set has as many as there are of these
pub zero_items_counted : (v : Bits) → length (asc (complement v)) ≡ count_zeroes v 0 v.length
zero_items_counted v = items_counted (complement v) ∙ count_ones-complement v

-- what a caller needs of how many positions are set
pub ruleset sizes = (
  count_ones-empty,
  count_zeroes-empty,
  count_ones-insert,
  count_zeroes-insert,
  count_ones-remove,
  count_zeroes-remove,
  count_ones-most,
  count_zeroes-most,
  count_zeroes-full,
  insert-set,
  remove-clear,
  length-empty,
  length-insert,
  length-remove,
)

-- what a caller needs of a loop that sets positions until none is left
pub ruleset falls = (count_zeroes-insert, insert-set, length-insert)
