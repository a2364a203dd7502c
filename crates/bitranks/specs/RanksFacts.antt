-- Rank as a count and select by rank, for those who call them.
use Rattle.std.proofs.Common.{◌≡◌, ℕ, ◌<◌, ◌≤◌, true, ◌&&◌, ◌↔◌, Some, None, sym, ap, ◌∙◌, arith, ⊎_elim}
use Rattle.std.specs.Cmp.{nat_cmp_total}
use Rattle.std.specs.FinSet as set
use Rattle.std.proofs.lemmas.Bool.{cases_lt, le-leb, lt-ltb, ltb-true, and_parts, and_from}
use Rattle.bitwords.specs.CountFacts.{count-same, count-mono, count-shorter}
use Rattle.bitwords.specs.NthFacts.{nth-below, nth-ascending, none-ascending, item-nth}
use Rattle.bitwords.specs.Rows.{count_below, in_range}
use Rattle.fixedbitset.specs.Bits.{Bits, contains, asc}
use Rattle.fixedbitset.specs.BitsFacts.{contains_below, contains-past}
use Rattle.fixedbitset.specs.Numbers.{numbers_between}
use Rattle.fixedbitset.specs.NumbersFacts.{contains-numbers_between, len-below}
use Rattle.fixedbitset.specs.Ranges.{count_ones}
use Rattle.bitranks.specs.Ranks.{rank, select}

-- ---- the ranks of a value

-- the rank is a count
pub rank-count : (v : Bits) (p : ℕ) → rank v p ≡ count_below (contains v) p
unfolding rank count_ones contains
rank-count v p =
    let common = set.intersection (numbers_between 0 p) v.positions in
    let member : (q : ℕ) → set.contains common q ≡ (in_range 0 p q && contains v q) = λ q.
    set.contains-intersection nat_cmp_total (numbers_between 0 p) v.positions q
    ∙ ap (λ b. b && contains v q) (contains-numbers_between 0 p q) in
    len-below p common
    (λ q one. ltb-true q p ((and_parts _ _ ((and_parts (in_range 0 p q) _ (sym (member q) ∙ one)).0)).1))
    ∙ count-same (set.contains common) (contains v) p
    (λ q below. member q ∙ ap (λ b. b && contains v q) (and_from _ _ (le-leb 0 q (omega arith)) (lt-ltb q p below)))

-- from the length on it is the number of positions
pub rank-size : (v : Bits) (p : ℕ) → v.length ≤ p → rank v p ≡ set.len v.positions
unfolding contains
rank-size v p past =
    rank-count v p
    ∙ count-shorter (contains v) v.length p past (λ q from _. contains-past v q from)
    ∙ sym (len-below v.length v.positions (contains_below v))

pub rank-mono : (v : Bits) (p q : ℕ) → p ≤ q → rank v p ≤ rank v q
rank-mono v p q le = omega (arith, rank-count v p, rank-count v q, count-mono (contains v) p q le)

pub rank-select : (v : Bits) (k p : ℕ) → select v k ≡ Some p → rank v p ≡ k
unfolding select asc
rank-select v k p item = rank-count v p ∙ (item-nth (contains v) v.length k p item).before

pub select-rank : (v : Bits) (p : ℕ) → contains v p ≡ true → select v (rank v p) ≡ Some p
unfolding select asc
select-rank v p one = nth-ascending (contains v) v.length (rank v p) p (contains_below v p one)
    (record { passes = one; before = sym (rank-count v p) })

pub select-none : (v : Bits) (k : ℕ) → (select v k ≡ None) ↔ (set.len v.positions ≤ k)
unfolding select asc
select-none v k =
    let size : count_below (contains v) v.length ≡ set.len v.positions = sym (rank-count v v.length)
    ∙ rank-size v v.length (omega arith) in (
      λ none. ⊎_elim
          (λ (more : k < count_below (contains v) v.length).
          let found = nth-below (contains v) v.length k more in
          let some = nth-ascending (contains v) v.length k found.0 found.1 found.2 in
          cc)
          (λ (few : count_below (contains v) v.length ≤ k). omega arith)
          (cases_lt k (count_below (contains v) v.length)),
      λ few. none-ascending (contains v) v.length k (omega arith),
    )

-- what a caller needs of rank and select
pub ruleset facts = (rank-select, select-rank, select-none, rank-mono, rank-size)
