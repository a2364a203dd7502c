-- The set of the states to which the edges so far lead.
use Rattle.std.proofs.Common.{◌≡◌, ◌∙◌, ℕ, ◌+◌, ◌<◌, IsTrue, inl, inr, [], ◌∷◌, ◌++◌}
use Rattle.std.proofs.Common.{length, get_or, take, sym, ap, subst, arith, ⊎_elim}
use Rattle.std.specs.Prelude.{Contains, All}
use Rattle.std.proofs.lemmas.List.{take_more}
use Rattle.std.proofs.lemmas.List.Elements.{Contains-push, Contains-append_left, Contains-push_cases}
use Rattle.fixedbitset.specs.Bits.{Bits, contains, empty, insert}
use Rattle.fixedbitset.specs.BitsFacts.{length-empty, length-insert}
use Rattle.fixedbitset.specs.MemberFacts.{in_empty, in_insert}
use Rattle.uses.specs.Automata.{Edges}
use Rattle.uses.specs.Subsets.{IsNext, IsStep}

-- along no edges
pub step_none : (states : ℕ) (set : Bits) (letter : ℕ) → IsStep states [] set letter (empty states)
step_none states set letter = record {
  sized = length-empty states;
  members = λ q.
      (λ has. absurd (in_empty states q has), λ next. absurd (let k = next.2.0 in let past = next.2.1 in omega arith));
}

module _ (states : ℕ) (edges : Edges) (set : Bits) (letter : ℕ) (new : Bits)
    (before : IsStep states edges set letter new) (e : ℕ × ℕ × ℕ) where
  old_next : (q : ℕ) → IsNext edges set letter q → IsNext (edges ++ e ∷ []) set letter q
  old_next q next = (next.0, next.1, Contains-append_left edges (e ∷ []) _ next.2)

  -- an edge by another letter, or from no state of the set
  edge_kept : ¬ ((e.1 ≡ letter) × IsTrue (contains set e.0)) → IsStep states (edges ++ e ∷ []) set letter new
  edge_kept apart = record {
    sized = before.sized;
    members = λ q. (
      λ has. old_next q ((before.members q).0 has),
      λ next.
          ⊎_elim
          (λ old. (before.members q).1 (next.0, next.1, old))
          (λ same.
          absurd (apart (ap (λ x. x.1) same, subst (λ p. IsTrue (contains set p)) (sym (ap (λ x. x.0) same)) next.1)))
          (Contains-push_cases edges e _ next.2),
    );
  }

  -- an edge by the letter from a state of the set
  edge_taken : e.1 ≡ letter → IsTrue (contains set e.0) → e.2 < states
      → IsStep states (edges ++ e ∷ []) set letter (insert new e.2)
  edge_taken by has_from to_below =
      let sized = before.sized in
      let below : e.2 < new.length = omega arith in
      record {
        sized = length-insert new e.2 ∙ before.sized;
        members = λ q. (
          λ has.
              ⊎_elim
              (λ same. (
                e.0,
                has_from,
                subst (λ b. Contains (edges ++ e ∷ []) (e.0, b, q)) by
                    (subst (λ t. Contains (edges ++ e ∷ []) (e.0, e.1, t)) (sym same) (Contains-push edges e)),
              ))
              (λ old. old_next q ((before.members q).0 old))
              ((in_insert new e.2 q below).0 has),
          λ next.
              (in_insert new e.2 q below).1
              (⊎_elim
              (λ old. inr ((before.members q).1 (next.0, next.1, old)))
              (λ same. inl (sym (ap (λ x. x.2) same)))
              (Contains-push_cases edges e _ next.2)),
        );
      }

-- the edge that a loop over these edges reads
module _ (states letters : ℕ) (edges read : Edges) (set : Bits) (letter n : ℕ) (new : Bits) (d : ℕ × ℕ × ℕ)
    (same : read ≡ edges) (within : n < length read) (before : IsStep states (take n edges) set letter new) where
  with_next : take (n + 1) edges ≡ take n edges ++ get_or read n d ∷ []
  with_next =
      ap (take (n + 1)) (sym same) ∙ take_more read n d within ∙ ap (λ es. take n es ++ get_or read n d ∷ []) same

  pub step_kept : ¬ (((get_or read n d).1 ≡ letter) × IsTrue (contains set (get_or read n d).0))
      → IsStep states (take (n + 1) edges) set letter new
  step_kept apart =
      subst (λ es. IsStep states es set letter new) (sym with_next)
      (edge_kept states (take n edges) set letter new before (get_or read n d) apart)

  pub step_taken : All (λ edge. (edge.0 < states) × (edge.1 < letters) × (edge.2 < states)) edges
      → (get_or read n d).1 ≡ letter → IsTrue (contains set (get_or read n d).0)
      → IsStep states (take (n + 1) edges) set letter (insert new (get_or read n d).2)
  step_taken valid by has_from =
      let many = ap length same in
      let below : (get_or read n d).2 < states =
      subst (λ es. (get_or es n d).2 < states) (sym same) (valid n d (omega arith)).2 in
      subst (λ es. IsStep states es set letter (insert new (get_or read n d).2)) (sym with_next)
      (edge_taken states (take n edges) set letter new before (get_or read n d) by has_from below)
