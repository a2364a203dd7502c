-- There is one strictly ascending list with given members.
use Rattle.std.proofs.Common.{inl, inr, ◌≡◌, ℕ, zero, suc, ◌+◌, ◌<◌, ◌≤◌, ◌⊎◌, Bool, true, false, cond}
use Rattle.std.proofs.Common.{IsTrue, List, [], ◌∷◌, length, get_or, refl, ap, ◌∙◌, arith, ⊎_elim}
use Rattle.std.specs.List.{range_with_len, slice_index_or, Contains, AllPairs}
use Rattle.std.specs.List.Sorted.{IsStrictlyIncreasing}
use Rattle.std.proofs.lemmas.Bool.{cases_eq}
use Rattle.std.proofs.lemmas.List.Elements.{Contains-append_right, All-contains, filter_passes}
use Rattle.std.proofs.lemmas.List.Kept.{AllPairs-from_increasing, IsStrictlyIncreasing-filter}
use Rattle.std.proofs.lemmas.List.FromFn.{length-range_with_len, get_or-range_with_len}
use Rattle.bitwords.specs.Ascending.{ascending}
use Rattle.fixedbitset.specs.Bits.{Bits, contains, asc}
use Rattle.fixedbitset.specs.BitsFacts.{contains_below}
use Rattle.bitlaws.specs.AscendingLaws.{IsAscendingListOf, OneAscendingList}

abbrev pub Ascends : List ℕ → Type 0
Ascends xs = AllPairs (λ x y. x < y) xs

-- a member is the head, or a member of the others
pub Contains-cases : (x : ℕ) (xs : List ℕ) (p : ℕ) → Contains (x ∷ xs) p → (x ≡ p) ⊎ Contains xs p
Contains-cases x xs p member = by_index member.0 member.1 member.2
  where
    by_index : (k : ℕ) → k < length (x ∷ xs) → slice_index_or (x ∷ xs) k p ≡ p → (x ≡ p) ⊎ Contains xs p
    by_index zero within is = inl is
    by_index (suc k) within is = inr (k, omega arith, is)

pub Contains-head : (x : ℕ) (xs : List ℕ) → Contains (x ∷ xs) x
Contains-head x xs = (0, omega arith, refl)

pub Contains-later : (x : ℕ) (xs : List ℕ) (p : ℕ) → Contains xs p → Contains (x ∷ xs) p
Contains-later x xs p member = Contains-append_right (x ∷ []) xs p member

-- the head of an ascending list is below the others
pub head_below : (x : ℕ) (xs : List ℕ) (p : ℕ) → Ascends (x ∷ xs) → Contains xs p → x < p
head_below x xs p ascends member =
    let below : x < get_or xs member.0 p = ascends 0 (suc member.0) p (omega arith) (omega (arith, member.1)) in
    omega (arith, below, member.2)

pub Ascends-tail : (x : ℕ) (xs : List ℕ) → Ascends (x ∷ xs) → Ascends xs
Ascends-tail x xs ascends = λ i j d before within. ascends (suc i) (suc j) d (omega arith) (omega arith)

-- so a member is the head or greater, and a greater one is a member of the others
head_least : (x : ℕ) (xs : List ℕ) (p : ℕ) → Ascends (x ∷ xs) → Contains (x ∷ xs) p → (x ≤ p) × (x < p → Contains xs p)
head_least x xs p ascends member = ⊎_elim
    (λ (here : x ≡ p). (omega arith, λ less. absurd (omega arith)))
    (λ later. (omega (arith, head_below x xs p ascends later), λ less. later))
    (Contains-cases x xs p member)

-- two ascending lists with the same members are one list
same_lists : (xs ys : List ℕ) → Ascends xs → Ascends ys → ((p : ℕ) → Contains xs p → Contains ys p)
    → ((p : ℕ) → Contains ys p → Contains xs p) → xs ≡ ys
same_lists [] [] a b to from = refl
same_lists [] (y ∷ ys) a b to from = absurd (omega (arith, (from y (Contains-head y ys)).1))
same_lists (x ∷ xs) [] a b to from = absurd (omega (arith, (to x (Contains-head x xs)).1))
same_lists (x ∷ xs) (y ∷ ys) a b to from =
    let in_ys = λ (p : ℕ) (h : Contains (x ∷ xs) p). head_least y ys p b (to p h) in
    let in_xs = λ (p : ℕ) (h : Contains (y ∷ ys) p). head_least x xs p a (from p h) in
    let heads : x ≡ y = omega (arith, (in_ys x (Contains-head x xs)).0, (in_xs y (Contains-head y ys)).0) in
    let tails = same_lists xs ys (Ascends-tail x xs a) (Ascends-tail y ys b)
    (λ p h. (in_ys p (Contains-later x xs p h)).1 (omega (arith, heads, head_below x xs p a h)))
    (λ p h. (in_xs p (Contains-later y ys p h)).1 (omega (arith, heads, head_below y ys p b h))) in
    λ i. heads i ∷ tails i

-- each number that passes is listed
listed : (test : ℕ → Bool) (low n p : ℕ) → low ≤ p → p < low + n → test p ≡ true → Contains (ascending test low n) p
listed test low zero p from to passes = absurd (omega arith)
listed test low (suc n) p from to passes =
    let others = ascending test (low + 1) n in
    elim (cases_eq low p) [
      | inl here ↦ let at_low : test low ≡ true = ap test here ∙ passes in rw at_low (0, omega arith, here)
      | inr later ↦
          let rest = listed test (low + 1) n p (omega arith) (omega arith) passes in
          elim (test low) as (λ b. Contains (cond b (low ∷ others) others) p)
          [ true ↦ Contains-later low others p rest | false ↦ rest ]
    ]

IsStrictlyIncreasing-asc : (v : Bits) → IsStrictlyIncreasing (asc v)
unfolding asc
IsStrictlyIncreasing-asc v = IsStrictlyIncreasing-filter (contains v) (range_with_len 0 v.length) (λ k h.
    let long : length (range_with_len 0 v.length) ≡ v.length = length-range_with_len 0 v.length in
    let here : get_or (range_with_len 0 v.length) k 0 ≡ 0 + k = get_or-range_with_len 0 v.length k 0 (omega arith) in
    let next : get_or (range_with_len 0 v.length) (k + 1) 0 ≡ 0 + (k + 1) =
    get_or-range_with_len 0 v.length (k + 1) 0 (omega arith) in
    omega arith)

pub asc_is_one : (v : Bits) → IsAscendingListOf v (asc v)
unfolding asc
asc_is_one v = record {
  ascends = IsStrictlyIncreasing-asc v;
  members = λ p. (
    λ member. All-contains (λ x. IsTrue (contains v x)) (asc v) p
        (filter_passes (contains v) (range_with_len 0 v.length)) member,
    λ holds. let below : p < v.length = contains_below v p holds in
        listed (contains v) 0 v.length p (omega arith) (omega arith) holds,
  );
}

pub one_ascending_list : OneAscendingList
one_ascending_list = λ v.
    let one = asc_is_one v in (
      one,
      λ xs other. same_lists xs (asc v) (AllPairs-from_increasing xs other.ascends)
          (AllPairs-from_increasing (asc v) one.ascends)
          (λ p member. (one.members p).1 ((other.members p).0 member))
          (λ p member. (other.members p).1 ((one.members p).0 member)),
    )
