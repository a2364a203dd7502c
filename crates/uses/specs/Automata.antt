-- Nondeterministic and deterministic automata, and the words that they accept.
-- A word is a list of letters, and the letters are the numbers below `letters`.
use Rattle.std.specs.Prelude.{◌≡◌, ℕ, ◌+◌, ◌*◌, ◌<◌, ◌↔◌, false, IsTrue, IfOk, IfSome, Option, Result}
use Rattle.std.specs.Prelude.{List, [], ◌∷◌, length, slice_index, slice_index_or, All, Contains}
use Rattle.fixedbitset.specs.Bits.{Bits, contains, empty}
use Rattle.uses.specs.declared.subsets.automata.Nfa.{Nfa}
use Rattle.uses.specs.declared.subsets.automata.Dfa.{Dfa}

-- edges, each from its first state by a letter to its last state
abbrev pub Edges : Type 0
Edges = List (ℕ × ℕ × ℕ)

-- each letter of the word is below `letters`
abbrev pub IsOver : ℕ → List ℕ → Type 0
IsOver letters word = All (λ letter. letter < letters) word

-- ---- nondeterministic

-- both ends of each edge are below `states`, and its letter below `letters`; the two sets are sets of states
pub record IsNfa (nfa : Nfa) : Type 0 where
  pub edges : All (λ edge. (edge.0 < nfa.states) × (edge.1 < nfa.letters) × (edge.2 < nfa.states)) nfa.edges.items
  pub start : nfa.start.length ≡ nfa.states
  pub accepting : nfa.accepting.length ≡ nfa.states

-- edges lead from state p to state q along the letters of a word
abbrev pub IsPath : Edges → ℕ → List ℕ → ℕ → Type 0
IsPath edges p [] q = p ≡ q
IsPath edges p (letter ∷ word) q = (r : ℕ) × Contains edges (p, letter, r) × IsPath edges r word q

-- they lead to state q from one of these states
abbrev pub IsReachedFrom : Edges → Bits → List ℕ → ℕ → Type 0
IsReachedFrom edges set word q = (p : ℕ) × IsTrue (contains set p) × IsPath edges p word q

-- the word reaches state q
abbrev pub IsReached : Nfa → List ℕ → ℕ → Type 0
IsReached nfa word q = IsReachedFrom nfa.edges.items nfa.start word q

-- a word is accepted if it reaches an accepting state
abbrev pub IsAccepted : Nfa → List ℕ → Type 0
IsAccepted nfa word = (q : ℕ) × IsReached nfa word q × IsTrue (contains nfa.accepting q)

-- the set of the states that the word reaches
pub record IsSetOf (nfa : Nfa) (word : List ℕ) (set : Bits) : Type 0 where
  pub sized : set.length ≡ nfa.states
  pub members : (q : ℕ) → IsTrue (contains set q) ↔ IsReached nfa word q

-- the set of the states that some word reaches
abbrev pub IsOfSomeWord : Nfa → Bits → Type 0
IsOfSomeWord nfa set = (word : List ℕ) × IsOver nfa.letters word × IsSetOf nfa word set

-- ---- deterministic

-- set s (an empty one where there is none)
abbrev pub at : List Bits → ℕ → Bits
at sets s = slice_index_or sets s (empty 0)

-- no two sets are equal
abbrev pub AreDistinct : List Bits → Type 0
AreDistinct sets = (s t : ℕ) → s < length sets → t < length sets → at sets s ≡ at sets t → s ≡ t

-- there is a state 0; the table has a state for each state and letter, and there is a flag for each state
pub record IsDfa (dfa : Dfa) : Type 0 where
  pub some : 0 < length dfa.sets.items
  pub table : length dfa.next.items ≡ length dfa.sets.items * dfa.letters
  pub arrows : All (λ state. state < length dfa.sets.items) dfa.next.items
  pub flags : length dfa.accepting.items ≡ length dfa.sets.items

-- the state where a run over the word from state s ends
abbrev pub end_from : ℕ → List ℕ → ℕ → List ℕ → ℕ
end_from letters next s [] = s
end_from letters next s (letter ∷ word) = end_from letters next (slice_index next (s * letters + letter)) word

-- where a run from the first state ends
abbrev pub end_of : Dfa → List ℕ → ℕ
end_of dfa word = end_from dfa.letters dfa.next.items 0 word

-- a word is accepted if its run ends at an accepting state
abbrev pub IsAcceptedBy : Dfa → List ℕ → Type 0
IsAcceptedBy dfa word = IsTrue (slice_index_or dfa.accepting.items (end_of dfa word) false)

-- what holds of the automaton that was made, if one was
abbrev pub IfMade : {E : Type 0} → Result (Option Dfa) E → (Dfa → Type 0) → Type 0
IfMade result P = IfOk result (λ made. IfSome made P)

-- ---- size

-- words reach more than so many sets of states
pub record NeedsMore (nfa : Nfa) (limit : ℕ) : Type 0 where
  pub sets : List Bits
  pub more : limit < length sets
  pub distinct : AreDistinct sets
  pub of_words : All (IsOfSomeWord nfa) sets
