-- Variables read letter after letter.
use Rattle.std.proofs.Common.{◌≡◌, ◌∙◌, ℕ, ◌+◌, ◌-◌, ◌<◌, ◌≤◌, inl, inr, List}
use Rattle.std.proofs.Common.{[], ◌∷◌, ◌++◌, Contains, subst, arith, ⊎_elim}
use Rattle.std.proofs.lemmas.List.Elements.{Contains-push, Contains-push_cases, Contains-append_left}
use Rattle.fixedbitset.specs.Bits.{Bits, empty, insert}
use Rattle.fixedbitset.specs.BitsFacts.{length-empty, length-insert}
use Rattle.fixedbitset.specs.MemberFacts.{in_empty, in_insert}
use Rattle.uses.specs.Variables.{AreVariables}

pub no_variables : AreVariables [] (empty 26)
no_variables = record {
  sized = length-empty 26;
  members = λ x. (λ one. absurd (in_empty 26 x one), λ there. absurd (let within = there.1.1 in omega arith));
}

-- one byte more, which is no variable
pub space_more : (text : List ℕ) (b : ℕ) (set : Bits) → b ≡ 32 → AreVariables text set
    → AreVariables (text ++ b ∷ []) set
space_more text b set space so_far = record {
  sized = so_far.sized;
  members = λ x. (
    λ one. let was = (so_far.members x).0 one in (was.0, Contains-append_left text (b ∷ []) (97 + x) was.1),
    λ there. ⊎_elim (λ old. (so_far.members x).1 (there.0, old))
        (λ (new : b ≡ 97 + x). absurd (omega arith)) (Contains-push_cases text b (97 + x) there.1),
  );
}

-- one letter more
pub letter_more : (text : List ℕ) (b : ℕ) (set : Bits) → 97 ≤ b → b < 97 + 26 → AreVariables text set
    → AreVariables (text ++ b ∷ []) (insert set (b - 97))
letter_more text b set from below so_far =
    let long = so_far.sized in
    let inside : b - 97 < set.length = omega arith in
    record {
      sized = length-insert set (b - 97) ∙ so_far.sized;
      members = λ x. (
        λ one. ⊎_elim
            (λ (new : x ≡ b - 97).
            let same : b ≡ 97 + x = omega arith in
            (omega arith, subst (Contains (text ++ b ∷ [])) same (Contains-push text b)))
            (λ old. let was = (so_far.members x).0 old in (was.0, Contains-append_left text (b ∷ []) (97 + x) was.1))
            ((in_insert set (b - 97) x inside).0 one),
        λ there.
            (in_insert set (b - 97) x inside).1 (⊎_elim (λ old. inr ((so_far.members x).1 (there.0, old)))
            (λ (new : b ≡ 97 + x). inl (omega arith)) (Contains-push_cases text b (97 + x) there.1)),
      );
    }
