-- The flags of the first sets, each whether its set has an accepting state.
use Rattle.std.proofs.Common.{◌≡◌, ◌∙◌, ℕ, ◌<◌, ◌≤◌, List, [], ◌∷◌, ◌++◌, length, get_or}
use Rattle.std.proofs.Common.{◌↔◌, Bool, false, not, IsTrue, refl, sym, subst, arith, ⊎_elim}
use Rattle.std.proofs.lemmas.Bool.{cases_lt, not-true, not_from_false, false_from_ne_true}
use Rattle.fixedbitset.specs.Bits.{Bits, contains}
use Rattle.fixedbitset.specs.TwoSets.{is_disjoint}
use Rattle.fixedbitset.specs.TwoSetsFacts.{is_disjoint-tells}
use Rattle.fixedbitset.specs.MemberFacts.{common}
use Rattle.std.proofs.lemmas.List.{length_push, get_or_append_left, get_or_push}
use Rattle.uses.specs.Automata.{at}
use Rattle.uses.specs.Subsets.{IsNumbered}
use Rattle.uses.proofs.PartsBuilt.{at_old}

-- the two sets have a state in common
abbrev pub Meets : Bits → Bits → Type 0
Meets v w = (q : ℕ) × IsTrue (contains v q) × IsTrue (contains w q)

-- two sets that are not disjoint have a state in common
meets_told : (v w : Bits) (b : Bool) → b ≡ is_disjoint v w → IsTrue (not b) ↔ Meets v w
meets_told v w b is = (
  λ no. common v w (sym is ∙ not-true b no),
  λ both.
      not_from_false b (false_from_ne_true b (λ yes. (is_disjoint-tells v w).0 (sym is ∙ yes) both.0 both.1 both.2)),
)

-- each flag tells whether its set has an accepting state
pub record AreFlags (sets : List Bits) (accepting : Bits) (flags : List Bool) : Type 0 where
  pub tell : (k : ℕ) → k < length flags → IsTrue (get_or flags k false) ↔ Meets (at sets k) accepting

-- one flag more
pub flags_more : (sets : List Bits) (accepting : Bits) (flags : List Bool) (b : Bool) → AreFlags sets accepting flags
    → b ≡ is_disjoint (at sets (length flags)) accepting → AreFlags sets accepting (flags ++ not b ∷ [])
flags_more sets accepting flags b before is =
    let many = length_push flags (not b) in
    record {
      tell = λ k within.
          ⊎_elim
          (λ (less : k < length flags). subst (λ c. IsTrue c ↔ Meets (at sets k) accepting)
          (sym (get_or_append_left flags (not b ∷ []) false k less)) (before.tell k less))
          (λ (past : length flags ≤ k).
          let last : length flags ≡ k = omega arith in
          subst (λ j. IsTrue (get_or (flags ++ not b ∷ []) j false) ↔ Meets (at sets j) accepting) last
          (subst (λ c. IsTrue c ↔ Meets (at sets (length flags)) accepting)
          (sym (get_or_push flags (not b) false (length flags) refl))
          (meets_told (at sets (length flags)) accepting b is)))
          (cases_lt k (length flags));
    }

-- a set more leaves the flags of those before it
pub flags_kept : (old sets : List Bits) (accepting : Bits) (flags : List Bool) (x : Bits) (number : ℕ)
    → AreFlags old accepting flags → length flags ≤ length old → IsNumbered old x sets number
    → AreFlags sets accepting flags
flags_kept old sets accepting flags x number before within numbered =
    ⊎_elim
    (λ known. subst (λ ss. AreFlags ss accepting flags) (sym known.2) before)
    (λ added. subst (λ ss. AreFlags ss accepting flags) (sym added.1) (record {
      tell = λ k below. subst (λ s. IsTrue (get_or flags k false) ↔ Meets s accepting)
          (sym (at_old old x k (omega arith))) (before.tell k below);
    }))
    numbered
