-- Paths with one letter more, and the sets of states that words reach.
use Rattle.std.proofs.Common.{◌≡◌, ◌∙◌, ℕ, List, [], ◌∷◌, ◌++◌, refl, sym, subst, IsTrue}
use Rattle.std.specs.Prelude.{Contains}
use Rattle.std.proofs.lemmas.Bool.Decides.{same_from_decides}
use Rattle.fixedbitset.specs.Bits.{Bits, contains}
use Rattle.fixedbitset.specs.BitsFacts.{same_bits}
use Rattle.uses.specs.Automata.{Edges, IsPath, IsReached, IsSetOf, IsNfa}
use Rattle.uses.specs.Subsets.{IsStep}
use Rattle.uses.specs.declared.subsets.automata.Nfa.{Nfa}

path_more : (edges : Edges) (p : ℕ) (word : List ℕ) (letter r q : ℕ) → IsPath edges p word r
    → Contains edges (r, letter, q) → IsPath edges p (word ++ letter ∷ []) q
path_more edges p [] letter r q path edge = (q, subst (λ x. Contains edges (x, letter, q)) (sym path) edge, refl)
path_more edges p (a ∷ word) letter r q path edge = (path.0, path.1, path_more edges path.0 word letter r q path.2 edge)

path_last : (edges : Edges) (p : ℕ) (word : List ℕ) (letter q : ℕ) → IsPath edges p (word ++ letter ∷ []) q
    → (r : ℕ) × IsPath edges p word r × Contains edges (r, letter, q)
path_last edges p [] letter q path = (p, refl, subst (λ x. Contains edges (p, letter, x)) path.2 path.1)
path_last edges p (a ∷ word) letter q path =
    let last = path_last edges path.0 word letter q path.2 in (last.0, (path.0, path.1, last.1), last.2)

-- the empty word reaches the start states
pub set_first : (nfa : Nfa) → IsNfa nfa → IsSetOf nfa [] nfa.start
set_first nfa valid = record {
  sized = valid.start;
  members = λ q. (λ has. (q, has, refl), λ reached. subst (λ p. IsTrue (contains nfa.start p)) reached.2 reached.1);
}

-- a step leads from the set of a word to that of the word with one letter more
pub set_after : (nfa : Nfa) (word : List ℕ) (letter : ℕ) (set new : Bits) → IsSetOf nfa word set
    → IsStep nfa.states nfa.edges.items set letter new → IsSetOf nfa (word ++ letter ∷ []) new
set_after nfa word letter set new is_set step = record {
  sized = step.sized;
  members = λ q. (
    λ has.
        let next = (step.members q).0 has in
        let from = (is_set.members next.0).0 next.1 in
        (from.0, from.1, path_more nfa.edges.items from.0 word letter next.0 q from.2 next.2),
    λ reached.
        let last = path_last nfa.edges.items reached.0 word letter q reached.2 in
        (step.members q).1 (last.0, (is_set.members last.0).1 (reached.0, reached.1, last.1), last.2),
  );
}

-- a word has one set
pub set_same : (nfa : Nfa) (word : List ℕ) (v w : Bits) → IsSetOf nfa word v → IsSetOf nfa word w → v ≡ w
set_same nfa word v w first second =
    same_bits v w (first.sized ∙ sym second.sized)
    (λ q. same_from_decides {P = IsReached nfa word q} (contains v q) (contains w q) (first.members q)
    (second.members q))
