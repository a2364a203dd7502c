-- What the iterators over the positions give, for those who call them.
use Rattle.std.proofs.Common.{IsTrue, ◌↔◌, ◌≡◌, ℕ, zero, suc, ◌+◌, ◌-◌, ◌<◌, ◌≤◌, Bool, true}
use Rattle.std.proofs.Common.{false, cond, List, ◌∷◌, [], length, Contains, true≢false, refl}
use Rattle.std.proofs.Common.{◌⊎◌, ⊎_elim, inl, inr, arith, get_or, sym, ap, subst}
use Rattle.std.specs.List.{range_with_len}
use Rattle.std.proofs.lemmas.Bool.{cases_Bool}
use Rattle.std.proofs.lemmas.Bool.Decides.{nat_tests}
use Rattle.std.proofs.lemmas.List.Elements.{All-get_or, filter_passes}
use Rattle.bitwords.specs.Ascending.{ascending}
use Rattle.bitwords.specs.AscendingFacts.{length-ascending}
use Rattle.bitwords.specs.Neighbours.{IsNext}
pub use Rattle.bitwords.specs.WalkFacts.{list_forwards, walk_list}
use Rattle.fixedbitset.specs.Bits.{Bits, contains, asc, complement}
use Rattle.fixedbitset.specs.BitsFacts.{contains_below, length-complement, contains-complement}

-- an iterator gives at most as many positions as there are
pub length-asc : (v : Bits) → length (asc v) ≤ v.length
unfolding asc
length-asc v = length-ascending (contains v) 0 v.length

-- each item is a position of the set
pub contains_item : (v : Bits) (k d : ℕ) → k < length (asc v) → contains v (get_or (asc v) k d) ≡ true
unfolding asc
contains_item v k d within =
    All-get_or (λ p. contains v p ≡ true) (asc v) k d within (filter_passes (contains v) (range_with_len 0 v.length))

-- and below the length
pub item_below : (v : Bits) (k d : ℕ) → k < length (asc v) → get_or (asc v) k d < v.length
item_below v k d within = contains_below v _ (contains_item v k d within)

-- ---- each position is an item

-- one number in front or none: it is that number, or one of the others
one_more : (b : Bool) (x p : ℕ) (xs : List ℕ)
    → Contains (cond b (x ∷ xs) xs) p ↔ (((b ≡ true) × (x ≡ p)) ⊎ Contains xs p)
one_more false x p xs =
    (λ member. inr member, λ other. ⊎_elim (λ here. absurd (true≢false (sym here.0))) (λ member. member) other)
one_more true x p xs = (
  first_or_later,
  λ other. ⊎_elim (λ here. (0, omega arith, here.1)) (λ later. (suc later.0, omega (arith, later.1), later.2)) other,
)
  where
    first_or_later : Contains (x ∷ xs) p → ((true ≡ true) × (x ≡ p)) ⊎ Contains xs p
    first_or_later (zero, within, is) = inl (refl, is)
    first_or_later (suc k, within, is) = inr (k, omega arith, is)

-- the items of an ascending list are those of its numbers that pass
pub in_ascending : (test : ℕ → Bool) (low n p : ℕ)
    → Contains (ascending test low n) p ↔ ((test p ≡ true) × (low ≤ p) × (p < low + n))
in_ascending test low zero p = (λ member. absurd (omega (arith, member.1)), λ h. absurd (omega (arith, h)))
in_ascending test low (suc n) p =
    let more = one_more (test low) low p (ascending test (low + 1) n) in
    let rest = in_ascending test (low + 1) n p in
    (λ member. grind (arith, more.0 member, rest.0), λ h. more.1 (grind (arith, rest.1)))

pub item_of : (v : Bits) (p : ℕ) → contains v p ≡ true → (k : ℕ) × (k < length (asc v)) × (get_or (asc v) k p ≡ p)
unfolding asc
item_of v p one = (in_ascending (contains v) 0 v.length p).1 (one, omega arith, omega (arith, contains_below v p one))

-- what a caller needs of an iterator over the positions that are set
pub ruleset items = (contains_item, item_below, item_of)

-- ---- a loop over the positions, said by members

-- each position of the set is among the items left, or P holds of it
pub record AreDone (v : Bits) (P : ℕ → Type 0) (items : List ℕ) : Type 0 where
  pub each : (p : ℕ) → IsTrue (contains v p) → Contains items p ⊎ P p

-- at first all are left
pub all_left : (v : Bits) (P : ℕ → Type 0) → AreDone v P (asc v)
all_left v P = record { each = λ p one. inl (item_of v p one) }

-- an item is taken: P may come to hold of more positions, and of this one it does
pub one_done : (v : Bits) (P Q : ℕ → Type 0) (t : ℕ) (rest : List ℕ) → AreDone v P (t ∷ rest) → ((p : ℕ) → P p → Q p)
    → Q t → AreDone v Q rest
one_done v P Q t rest done keeps here = record {
  each = λ p one.
      ⊎_elim
      (λ left. ⊎_elim (λ first. inr (subst Q first.1 here)) (λ later. inl later) ((one_more true t p rest).0 left))
      (λ was. inr (keeps p was))
      (done.each p one);
}

-- where none is left, P holds of all
pub all_done : (v : Bits) (P : ℕ → Type 0) → AreDone v P [] → (p : ℕ) → IsTrue (contains v p) → P p
all_done v P done p one =
    ⊎_elim (λ (none : Contains [] p). absurd (omega (arith, none.1))) (λ (holds : P p). holds) (done.each p one)

-- what is left of an iterator: the members from `low` on
abbrev pub left_from : Bits → ℕ → List ℕ
left_from v low = ascending (contains v) low (v.length - low)

-- the first item is the next number that passes, and those that pass behind it are left
pub step_of : (test : ℕ → Bool) (low n t : ℕ) (rest : List ℕ) → ascending test low n ≡ t ∷ rest
    → IsNext test low (low + n) t × (rest ≡ ascending test (t + 1) (low + n - (t + 1)))
step_of test low zero t rest same = cc
step_of test low (suc n) t rest same =
    ⊎_elim
    (λ (passes : test low ≡ true).
    let e : low ∷ ascending test (low + 1) n ≡ t ∷ rest = rw passes at same in
    let here : low ≡ t = cc in
    let many : n ≡ low + suc n - (t + 1) = omega arith in (
      record { after = omega arith; below = omega arith; passes = cc; none = λ i from before. absurd (omega arith) },
      cc (ap (ascending test (t + 1)) many),
    ))
    (λ (fails : test low ≡ false).
    let e : ascending test (low + 1) n ≡ t ∷ rest = rw fails at same in
    let step = step_of test (low + 1) n t rest e in
    let next = step.0 in
    let none = next.none in
    let many : low + 1 + n ≡ low + suc n = omega arith in (
      record {
        after = omega arith;
        below = omega arith;
        passes = next.passes;
        none = λ i from before. let later = none i in grind arith;
      },
      rw (← many) step.1,
    ))
    (cases_Bool (test low))

-- the members from `low` on are the items left
pub in_left : (v : Bits) (low p : ℕ) → Contains (left_from v low) p ↔ (IsTrue (contains v p) × (low ≤ p))
in_left v low p =
    let items = in_ascending (contains v) low (v.length - low) p in
    let below = contains_below v p in
    (λ member. let item = items.0 member in (item.0, item.1), λ both. items.1 (grind (arith, below)))

-- an item is a member, none is between, and what is left are the members behind it
pub walk_step : (v : Bits) (low t : ℕ) (rest : List ℕ) → left_from v low ≡ t ∷ rest
    → IsTrue (contains v t) × (low ≤ t) × (rest ≡ left_from v (t + 1))
    × ((p : ℕ) → Contains rest p ↔ (IsTrue (contains v p) × (t < p)))
walk_step v low t rest same =
    let step = step_of (contains v) low (v.length - low) t rest same in
    let next = step.0 in
    let many : low + (v.length - low) - (t + 1) ≡ v.length - (t + 1) = omega arith in
    let left : rest ≡ left_from v (t + 1) = rw (← many) step.1 in
    let members = in_left v (t + 1) in (
      next.passes,
      next.after,
      left,
      λ p. rw left (λ member. grind (arith, (members p).0 member), λ both. (members p).1 (grind arith)),
    )

-- ---- the iterator over the zeros

-- each item of it is below the length
pub zero_below : (v : Bits) (k d : ℕ) → k < length (asc (complement v)) → get_or (asc (complement v)) k d < v.length
zero_below v k d within = omega (arith, item_below (complement v) k d within, length-complement v)

-- and not set
pub clear_item : (v : Bits) (k d : ℕ) → k < length (asc (complement v))
    → contains v (get_or (asc (complement v)) k d) ≡ false
clear_item v k d within =
    grind (arith, contains-complement v (get_or (asc (complement v)) k d), contains_item (complement v) k d within)

-- each such position is an item
pub zero_item_of : (v : Bits) (p : ℕ) → p < v.length → contains v p ≡ false
    → (k : ℕ) × (k < length (asc (complement v))) × (get_or (asc (complement v)) k p ≡ p)
zero_item_of v p below clear = item_of (complement v) p (grind (arith, nat_tests, contains-complement))

-- what a caller needs of it
pub ruleset zero_items = (zero_below, clear_item, zero_item_of)

-- what a caller needs of a loop over the positions, said by members
pub ruleset done = (all_left, one_done, all_done)
