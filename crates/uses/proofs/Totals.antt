-- The totals of a list, number after number.
use Rattle.std.proofs.Common.{◌≡◌, ◌∙◌, ℕ, ◌+◌, ◌-◌, ◌<◌, ◌≤◌, ◌⊎◌, ◌↔◌, ◌||◌, ◌&&◌, nat_lt, nat_le, inl, inr}
use Rattle.std.proofs.Common.{List, [], ◌∷◌, ◌++◌, length, get_or, take, sum, refl, sym, ap, subst, arith, ⊎_elim}
use Rattle.std.specs.Prelude.{IsTrue}
use Rattle.std.proofs.lemmas.Bool.{lt-ltb, le-leb, leb-true, and_parts, and_from, or_cases, or_left, or_right}
use Rattle.std.proofs.lemmas.List.{take_more}
use Rattle.std.proofs.lemmas.List.Sums.{sum_by-cons}
use Rattle.fixedbitset.specs.Bits.{Bits, contains, empty, insert}
use Rattle.fixedbitset.specs.BitsFacts.{length-empty, length-insert, contains_below}
use Rattle.fixedbitset.specs.MemberFacts.{in_empty, in_insert}
use Rattle.fixedbitset.specs.Parts.{union_with_shifted}
use Rattle.fixedbitset.specs.PartsFacts.{length-union_with_shifted, contains-union_with_shifted}
use Rattle.uses.specs.Sums.{HasTotal}

-- ---- totals

-- a number is left out, or it adds to a total of the others
abbrev WithOne : List ℕ → ℕ → ℕ → Type 0
WithOne numbers number total = HasTotal numbers total ⊎ ((rest : ℕ) × HasTotal numbers rest × (rest + number ≡ total))

-- of no numbers
pub total_none : (total : ℕ) → HasTotal [] total ↔ (total ≡ 0)
total_none total = (λ has. sym has.2 ∙ ap sum has.1, λ none. ([], refl, sym none))

-- one number more before the others
cons_cases : (number : ℕ) (numbers : List ℕ) (total : ℕ) → HasTotal (number ∷ numbers) total
    → WithOne numbers number total
cons_cases number numbers total has =
    ⊎_elim
    (λ out. inl (has.0, out, has.2))
    (λ taken.
    inr (
      sum taken.0,
      (taken.0, taken.2, refl),
      let e = ap sum taken.1 in let s = has.2 in omega (arith, sum_by-cons (λ x. x) number taken.0),
    ))
    has.1

cons_left : (number : ℕ) (numbers : List ℕ) (total : ℕ) → HasTotal numbers total → HasTotal (number ∷ numbers) total
cons_left number numbers total has = (has.0, inl has.1, has.2)

cons_taken : (number : ℕ) (numbers : List ℕ) (rest total : ℕ) → HasTotal numbers rest → rest + number ≡ total
    → HasTotal (number ∷ numbers) total
cons_taken number numbers rest total has adds =
    (number ∷ has.0, inr (has.0, refl, has.1), let s = has.2 in omega (arith, sum_by-cons (λ x. x) number has.0))

-- one number more behind the others
push_cases : (numbers : List ℕ) (number total : ℕ) → HasTotal (numbers ++ number ∷ []) total
    → WithOne numbers number total
push_cases [] number total has = cons_cases number [] total has
push_cases (first ∷ numbers) number total has =
    ⊎_elim
    (λ out.
    ⊎_elim
    (λ old. inl (cons_left first numbers total old))
    (λ new. inr (new.0, cons_left first numbers new.0 new.1, new.2))
    (push_cases numbers number total out))
    (λ taken.
    ⊎_elim
    (λ old. inl (cons_taken first numbers taken.0 total old taken.2))
    (λ new.
    inr (
      new.0 + first,
      cons_taken first numbers new.0 (new.0 + first) new.1 refl,
      let s = new.2 in let t = taken.2 in omega arith,
    ))
    (push_cases numbers number taken.0 taken.1))
    (cons_cases first (numbers ++ number ∷ []) total has)

push_left : (numbers : List ℕ) (number total : ℕ) → HasTotal numbers total → HasTotal (numbers ++ number ∷ []) total
push_left [] number total has = cons_left number [] total has
push_left (first ∷ numbers) number total has =
    ⊎_elim
    (λ out. cons_left first (numbers ++ number ∷ []) total (push_left numbers number total out))
    (λ taken.
    cons_taken first (numbers ++ number ∷ []) taken.0 total (push_left numbers number taken.0 taken.1) taken.2)
    (cons_cases first numbers total has)

push_taken : (numbers : List ℕ) (number rest total : ℕ) → HasTotal numbers rest → rest + number ≡ total
    → HasTotal (numbers ++ number ∷ []) total
push_taken [] number rest total has adds = cons_taken number [] rest total has adds
push_taken (first ∷ numbers) number rest total has adds =
    ⊎_elim
    (λ out. cons_left first (numbers ++ number ∷ []) total (push_taken numbers number rest total out adds))
    (λ taken. cons_taken first (numbers ++ number ∷ []) (taken.0 + number) total
    (push_taken numbers number taken.0 (taken.0 + number) taken.1 refl) (let s = taken.2 in omega arith))
    (cons_cases first numbers rest has)

-- ---- sets of totals

-- a set of the totals up to the limit
pub record AreTotals (limit : ℕ) (numbers : List ℕ) (set : Bits) : Type 0 where
  pub long : set.length ≡ limit + 1
  pub members : (total : ℕ) → IsTrue (contains set total) ↔ ((total ≤ limit) × HasTotal numbers total)

-- of no numbers
pub totals_none : (limit : ℕ) → AreTotals limit [] (insert (empty (limit + 1)) 0)
totals_none limit =
    let v : Bits = empty (limit + 1) in
    let long : v.length ≡ limit + 1 = length-empty (limit + 1) in
    let fits : 0 < v.length = omega arith in
    record {
      long = length-insert v 0 ∙ long;
      members = λ total. (
        λ one.
            let zero : total ≡ 0 = ⊎_elim (λ here. here) (λ old. absurd (in_empty (limit + 1) total old))
            ((in_insert v 0 total fits).0 one) in
            (omega arith, (total_none total).1 zero),
        λ has. (in_insert v 0 total fits).1 (inl ((total_none total).0 has.1)),
      );
    }

-- what a set and its own shift have
shifted_cases : (v : Bits) (by p : ℕ) → IsTrue (contains (union_with_shifted v v by) p)
    → IsTrue (contains v p) ⊎ ((by ≤ p) × IsTrue (contains v (p - by)))
shifted_cases v by p one =
    let both = and_parts (contains v p || (nat_le by p && contains v (p - by))) (nat_lt p v.length)
    (sym (contains-union_with_shifted v v by p) ∙ one) in
    ⊎_elim
    (λ old. inl old)
    (λ moved. let parts = and_parts (nat_le by p) (contains v (p - by)) moved in inr (leb-true by p parts.0, parts.1))
    (or_cases (contains v p) (nat_le by p && contains v (p - by)) both.0)

in_shifted : (v : Bits) (by p : ℕ) → p < v.length → IsTrue (contains v p) ⊎ ((by ≤ p) × IsTrue (contains v (p - by)))
    → IsTrue (contains (union_with_shifted v v by) p)
in_shifted v by p below either =
    contains-union_with_shifted v v by p
    ∙ and_from (contains v p || (nat_le by p && contains v (p - by))) (nat_lt p v.length)
    (⊎_elim
    (λ old. or_left (contains v p) (nat_le by p && contains v (p - by)) old)
    (λ moved. or_right (contains v p) (nat_le by p && contains v (p - by))
    (and_from (nat_le by p) (contains v (p - by)) (le-leb by p moved.0) moved.1))
    either)
    (lt-ltb p v.length below)

-- one number more
pub totals_more : (limit : ℕ) (numbers : List ℕ) (i : ℕ) (set : Bits) → i < length numbers
    → AreTotals limit (take i numbers) set
    → AreTotals limit (take (i + 1) numbers) (union_with_shifted set set (get_or numbers i 0))
totals_more limit numbers i set inside so_far =
    let x : ℕ = get_or numbers i 0 in
    let old : List ℕ = take i numbers in
    let long = so_far.long in
    rw (take_more numbers i 0 inside) record {
      long = length-union_with_shifted set set x ∙ so_far.long;
      members = λ total. (
        λ one.
            ⊎_elim
            (λ there. let has = (so_far.members total).0 there in (has.0, push_left old x total has.1))
            (λ moved.
            let has = (so_far.members (total - x)).0 moved.1 in
            let more : x ≤ total = moved.0 in
            let below : total < limit + 1 = let h = contains_below (union_with_shifted set set x) total one in
            let e = length-union_with_shifted set set x in omega arith in
            (omega arith, push_taken old x (total - x) total has.1 (omega arith)))
            (shifted_cases set x total one),
        λ has.
            let within : total ≤ limit = has.0 in
            in_shifted set x total (omega arith)
            (⊎_elim
            (λ out. inl ((so_far.members total).1 (within, out)))
            (λ taken.
            let adds : taken.0 + x ≡ total = taken.2 in
            let place : taken.0 ≡ total - x = omega arith in
            inr (
              omega arith,
              subst (λ p. IsTrue (contains set p)) place ((so_far.members taken.0).1 (omega arith, taken.1)),
            ))
            (push_cases old x total has.1)),
      );
    }
