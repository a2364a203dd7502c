-- A run over a word ends at the set of that word.
use Rattle.std.proofs.lemmas.Bool.{cases_lt}
use Rattle.std.proofs.lemmas.List.{get_or_default, get_or_read, drop_more, drop_all, take_all}
use Rattle.std.proofs.lemmas.Nat.{div-add-mod'}
use Rattle.std.proofs.Common.{◌≡◌, ◌∙◌, ℕ, ◌+◌, ◌*◌, ◌/◌, ◌%◌, Bool, false, ⊎_elim, ◌<◌, ◌≤◌, ◌↔◌, IsTrue}
use Rattle.std.proofs.Common.{List, [], ◌∷◌, length, get_or, take, drop, refl, sym, ap, subst, arith}
use Rattle.std.specs.Prelude.{All}
use Rattle.std.proofs.lemmas.List.Elements.{All-head, All-tail, All-more}
use Rattle.fixedbitset.specs.Bits.{Bits, contains, empty}
use Rattle.uses.specs.Automata.{IsOver, IsReachedFrom, IsSetOf, IsAccepted, at, end_from}
use Rattle.uses.specs.declared.subsets.automata.Nfa.{Nfa}
use Rattle.uses.proofs.PartsBuilt.{IsPart, place_within}
use Rattle.uses.proofs.AcceptingSets.{Meets}
use Rattle.uses.proofs.WordPaths.{set_same}

-- set t has what edges reach from set s along the word
record RunsTo (nfa : Nfa) (sets : List Bits) (s : ℕ) (word : List ℕ) (t : ℕ) : Type 0 where
  within : t < length sets
  members : (q : ℕ) → IsTrue (contains (at sets t) q) ↔ IsReachedFrom nfa.edges.items (at sets s) word q

module _ (nfa : Nfa) (sets : List Bits) (next : List ℕ) (part : IsPart nfa sets next)
    (full : length next ≡ length sets * nfa.letters) where
  runs : (word : List ℕ) (s : ℕ) → s < length sets → IsOver nfa.letters word
      → RunsTo nfa sets s word (end_from nfa.letters next s word)
  runs [] s s_in over = record {
    within = s_in;
    members = λ q. (λ has. (q, has, refl), λ reached. subst (λ p. IsTrue (contains (at sets s) p)) reached.2 reached.1);
  }
  runs (letter ∷ word) s s_in over =
      let letter_in = All-head (λ a. a < nfa.letters) letter word over in
      let inside = place_within s (length sets) letter nfa.letters s_in letter_in in
      let arrow = part.arrows s letter letter_in (omega arith) in
      let rest = runs word (get_or next (s * nfa.letters + letter) 0) arrow.0
      (All-tail (λ a. a < nfa.letters) letter word over) in
      record {
        within = rest.within;
        members = λ q. (
          λ has.
              let reached = (rest.members q).0 has in
              let step = (arrow.1.members reached.0).0 reached.1 in
              (step.0, step.1, (reached.0, step.2, reached.2)),
          λ reached.
              (rest.members q).1
              (reached.2.0, (arrow.1.members reached.2.0).1 (reached.0, reached.1, reached.2.1), reached.2.2),
        );
      }

  pub end_within : (word : List ℕ) → IsOver nfa.letters word → end_from nfa.letters next 0 word < length sets
  end_within word over = (runs word 0 part.some over).within

  pub end_set : (word : List ℕ) → IsOver nfa.letters word
      → IsSetOf nfa word (at sets (end_from nfa.letters next 0 word))
  end_set word over =
      let run = runs word 0 part.some over in
      record {
        sized = (part.of_words _ (empty 0) run.within).2.sized;
        members = λ q.
            subst (λ start. IsTrue (contains (at sets (end_from nfa.letters next 0 word)) q)
            ↔ IsReachedFrom nfa.edges.items start word q) part.first (run.members q);
      }

  pub useful : (s : ℕ) → s < length sets → (word : List ℕ) × IsOver nfa.letters word
      × (end_from nfa.letters next 0 word ≡ s)
  useful s s_in =
      let from = part.of_words s (empty 0) s_in in (
        from.0,
        from.1,
        part.distinct _ s (end_within from.0 from.1) s_in (set_same nfa from.0 _ _ (end_set from.0 from.1) from.2),
      )

-- the set of a word has an accepting state exactly if the word is accepted
pub accepted_told : (nfa : Nfa) (word : List ℕ) (set : Bits) (b : Bool) → IsSetOf nfa word set
    → IsTrue b ↔ Meets set nfa.accepting → IsTrue b ↔ IsAccepted nfa word
accepted_told nfa word set b is_set told = (
  λ yes. let common = told.0 yes in (common.0, (is_set.members common.0).0 common.1, common.2),
  λ accepted. told.1 (accepted.0, (is_set.members accepted.0).1 accepted.1, accepted.2),
)

-- each place of the table has a state
pub arrows_within : (nfa : Nfa) (sets : List Bits) (next : List ℕ) → IsPart nfa sets next
    → All (λ state. state < length sets) next
arrows_within nfa sets next part i d within =
    let l : ℕ = nfa.letters in
    let place : i / l * l + i % l ≡ i = div-add-mod' i l in
    let table = part.table in
    let some_letter : 0 < l =
    ⊎_elim
    (λ (yes : 0 < l). yes)
    (λ (no : l ≤ 0). let none : l ≡ 0 = omega arith in let rows = ap (λ x. length sets * x) none in
    absurd (omega arith))
    (cases_lt 0 l)
    in
    let there : i / l * l + i % l < length next = omega arith in
    let arrow = part.arrows (i / l) (i % l) (omega arith) there in
    subst (λ t. t < length sets) (get_or_default next i 0 d within)
    (subst (λ j. get_or next j 0 < length sets) place arrow.0)

-- ---- a run letter by letter

-- a run over the word has come to this state after n letters
pub record IsRun (letters : ℕ) (sets : List Bits) (next word : List ℕ) (state n : ℕ) : Type 0 where
  pub within : state < length sets
  pub over : IsOver letters (take n word)
  pub rest : end_from letters next state (drop n word) ≡ end_from letters next 0 word

pub run_more : (letters : ℕ) (sets : List Bits) (next word : List ℕ) (state n to : ℕ) → All (λ s. s < length sets) next
    → length next ≡ length sets * letters → IsRun letters sets next word state n
    → n < length word → get_or word n 0 < letters → to ≡ get_or next (state * letters + get_or word n 0) to
    → IsRun letters sets next word to (n + 1)
run_more letters sets next word state n to arrows table run within below read =
    let inside = place_within state (length sets) (get_or word n 0) letters run.within below in
    let place : state * letters + get_or word n 0 < length next = omega arith in
    record {
      within = subst (λ t. t < length sets) (sym read) (arrows (state * letters + get_or word n 0) to place);
      over = All-more (λ a. a < letters) word n 0 within run.over below;
      rest =
          ap (λ t. end_from letters next t (drop (n + 1) word))
          (get_or_read next (state * letters + get_or word n 0) to place read 0)
          ∙ sym (ap (end_from letters next state) (drop_more word n 0 within))
          ∙ run.rest;
    }

pub run_done : (letters : ℕ) (sets : List Bits) (next word : List ℕ) (state n : ℕ) (accepting : List Bool) (b : Bool)
    → length accepting ≡ length sets → length word ≤ n → IsRun letters sets next word state n
    → b ≡ get_or accepting state b
    → IsTrue b ↔ (IsOver letters word × IsTrue (get_or accepting (end_from letters next 0 word) false))
run_done letters sets next word state n accepting b flags past run read =
    let state_in = run.within in
    let end : state ≡ end_from letters next 0 word = sym (ap (end_from letters next state) (drop_all n word past))
    ∙ run.rest in
    let same = get_or_read accepting state b (omega arith) read false ∙ ap (λ s. get_or accepting s false) end in
    (λ yes. (subst (IsOver letters) (take_all n word past) run.over, sym same ∙ yes), λ both. same ∙ both.1)
