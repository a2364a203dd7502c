-- The set of some numbers, made number after number.
use Rattle.std.proofs.Common.{◌≡◌, ◌∙◌, ℕ, ◌+◌, ◌<◌, ◌⊎◌, ◌↔◌, inl, inr, List, [], ◌∷◌, ◌++◌}
use Rattle.std.proofs.Common.{length, get_or, take, Contains, sym, subst, arith, ⊎_elim}
use Rattle.std.proofs.lemmas.List.{take_more}
use Rattle.std.proofs.lemmas.List.Elements.{Contains-push, Contains-push_cases, Contains-append_left}
use Rattle.fixedbitset.specs.Bits.{Bits, empty, insert}
use Rattle.fixedbitset.specs.BitsFacts.{length-empty, length-insert}
use Rattle.fixedbitset.specs.MemberFacts.{in_empty, in_insert}
use Rattle.uses.specs.Sets.{IsSetOf}

pub no_members : (n : ℕ) → IsSetOf n [] (empty n)
no_members n = record {
  sized = length-empty n;
  members = λ p. (λ one. absurd (in_empty n p one), λ there. absurd (let within = there.1 in omega arith));
}

-- one number more
contains_more : (xs : List ℕ) (y x : ℕ) → Contains (xs ++ y ∷ []) x ↔ (Contains xs x ⊎ (y ≡ x))
contains_more xs y x = (
  λ one. Contains-push_cases xs y x one,
  λ parts. ⊎_elim (λ old. Contains-append_left xs (y ∷ []) x old)
      (λ new. subst (Contains (xs ++ y ∷ [])) new (Contains-push xs y)) parts,
)

pub members_more : (n : ℕ) (numbers : List ℕ) (i : ℕ) (set : Bits) → i < length numbers → get_or numbers i 0 < n
    → IsSetOf n (take i numbers) set → IsSetOf n (take (i + 1) numbers) (insert set (get_or numbers i 0))
members_more n numbers i set inside below so_far =
    let x : ℕ = get_or numbers i 0 in
    let long = so_far.sized in
    let fits : x < set.length = omega arith in
    rw (take_more numbers i 0 inside) record {
      sized = length-insert set x ∙ so_far.sized;
      members = λ p. (
        λ one.
            (contains_more _ _ _).1 (⊎_elim (λ new. inr (sym new)) (λ old. inl ((so_far.members p).0 old))
            ((in_insert set x p fits).0 one)),
        λ there.
            (in_insert set x p fits).1
            (⊎_elim (λ old. inr ((so_far.members p).1 old)) (λ new. inl (sym new)) ((contains_more _ _ _).0 there)),
      );
    }
