-- The sets and the table while they are built, with one set or one place more.
use Rattle.std.proofs.Common.{◌≡◌, ◌∙◌, ℕ, ◌+◌, ◌*◌, ◌<◌, ◌≤◌, ◌⊎◌, inl, inr, List, []}
use Rattle.std.proofs.Common.{◌∷◌, ◌++◌, length, refl, sym, ap, subst, arith, ⊎_elim}
use Rattle.std.specs.Prelude.{Contains, All, slice_index}
use Rattle.std.proofs.Math.Nat.{mul-le-mul_left}
use Rattle.std.proofs.lemmas.Bool.{cases_lt, cases_order}
use Rattle.std.proofs.lemmas.List.{length_push, get_or_push, get_or_append_left}
use Rattle.std.proofs.lemmas.List.Elements.{All-push, Contains-get_or}
use Rattle.fixedbitset.specs.Bits.{Bits, empty}
use Rattle.uses.specs.Automata.{IsNfa, IsOfSomeWord, AreDistinct, NeedsMore, at}
use Rattle.uses.specs.Subsets.{IsStep, IsNumbered}
use Rattle.uses.specs.declared.subsets.automata.Nfa.{Nfa}
use Rattle.uses.proofs.WordPaths.{set_first, set_after}

-- set t is the step of set s by a letter
abbrev pub IsArrow : Nfa → List Bits → ℕ → ℕ → ℕ → Type 0
IsArrow nfa sets s letter t = (t < length sets) × IsStep nfa.states nfa.edges.items (at sets s) letter (at sets t)

-- the sets so far and the table as far as it goes
pub record IsPart (nfa : Nfa) (sets : List Bits) (next : List ℕ) : Type 0 where
  pub some : 0 < length sets
  pub first : at sets 0 ≡ nfa.start
  pub distinct : AreDistinct sets
  pub of_words : All (IsOfSomeWord nfa) sets
  pub table : length next ≤ length sets * nfa.letters
  pub arrows : (s letter : ℕ) → letter < nfa.letters → s * nfa.letters + letter < length next
      → IsArrow nfa sets s letter (slice_index next (s * nfa.letters + letter))

-- ---- places

not_before : (s t a b l : ℕ) → a < l → s * l + a ≡ t * l + b → ¬ (s < t)
not_before s t a b l a_in same less =
    let more : s + 1 ≤ t = omega arith in
    let row = mul-le-mul_left l more in
    absurd (omega arith)

-- a place has one row and one column
place_one : (s t a b l : ℕ) → a < l → b < l → s * l + a ≡ t * l + b → (s ≡ t) × (a ≡ b)
place_one s t a b l a_in b_in same =
    let row : s ≡ t =
    ⊎_elim
    (λ equal. equal)
    (λ order. ⊎_elim (λ less. absurd (not_before s t a b l a_in same less))
    (λ more. absurd (not_before t s b a l b_in (sym same) more)) order)
    (cases_order s t)
    in
    let start = ap (λ x. x * l) row in
    (row, omega arith)

-- a place in the row of one of n states
pub place_within : (s n a l : ℕ) → s < n → a < l → s * l + a < n * l
place_within s n a l less a_in =
    let more : s + 1 ≤ n = omega arith in
    let row = mul-le-mul_left l more in
    omega arith

-- ---- one set more

pub at_old : (sets : List Bits) (x : Bits) (s : ℕ) → s < length sets → at (sets ++ x ∷ []) s ≡ at sets s
at_old sets x s within = get_or_append_left sets (x ∷ []) (empty 0) s within

at_new : (sets : List Bits) (x : Bits) → at (sets ++ x ∷ []) (length sets) ≡ x
at_new sets x = get_or_push sets x (empty 0) (length sets) refl

contains_at : (sets : List Bits) (x : Bits) (s : ℕ) → s < length sets → at sets s ≡ x → Contains sets x
contains_at sets x s within same = subst (Contains sets) same (Contains-get_or sets s (empty 0) within)

last_or_old : (n s : ℕ) → s < n + 1 → (s < n) ⊎ (s ≡ n)
last_or_old n s within = ⊎_elim (λ less. inl less) (λ (past : n ≤ s). inr (omega arith)) (cases_lt s n)

distinct_more : (sets : List Bits) (x : Bits) → AreDistinct sets → ¬ (Contains sets x) → AreDistinct (sets ++ x ∷ [])
distinct_more sets x distinct fresh s t s_in t_in same =
    let many = length_push sets x in
    ⊎_elim
    (λ (s_old : s < length sets).
    ⊎_elim
    (λ (t_old : t < length sets). distinct s t s_old t_old (sym (at_old sets x s s_old) ∙ same ∙ at_old sets x t t_old))
    (λ (t_new : t ≡ length sets).
    absurd (fresh (contains_at sets x s s_old (sym (at_old sets x s s_old) ∙ same ∙ ap (at (sets ++ x ∷ [])) t_new
    ∙ at_new sets x))))
    (last_or_old (length sets) t (omega arith)))
    (λ (s_new : s ≡ length sets).
    ⊎_elim
    (λ (t_old : t < length sets).
    absurd (fresh (contains_at sets x t t_old (sym (at_old sets x t t_old) ∙ sym same ∙ ap (at (sets ++ x ∷ [])) s_new
    ∙ at_new sets x))))
    (λ (t_new : t ≡ length sets). s_new ∙ sym t_new)
    (last_or_old (length sets) t (omega arith)))
    (last_or_old (length sets) s (omega arith))

arrow_old : (nfa : Nfa) (sets : List Bits) (x : Bits) (s letter t : ℕ) → s < length sets → IsArrow nfa sets s letter t
    → IsArrow nfa (sets ++ x ∷ []) s letter t
arrow_old nfa sets x s letter t s_in arrow =
    let many = length_push sets x in
    let t_in = arrow.0 in (
      omega arith,
      subst (λ v. IsStep nfa.states nfa.edges.items v letter (at (sets ++ x ∷ []) t)) (sym (at_old sets x s s_in))
          (subst (λ v. IsStep nfa.states nfa.edges.items (at sets s) letter v) (sym (at_old sets x t t_in)) arrow.1),
    )

-- ---- parts

-- a row is that of a state that is there
row_in : (s n a l : ℕ) → s * l + a < n * l → s < n
row_in s n a l within =
    ⊎_elim
    (λ less. less)
    (λ (past : n ≤ s). let rows = mul-le-mul_left l past in absurd (omega arith))
    (cases_lt s n)

part_more : (nfa : Nfa) (sets : List Bits) (next : List ℕ) (x : Bits) → IsPart nfa sets next → ¬ (Contains sets x)
    → IsOfSomeWord nfa x → IsPart nfa (sets ++ x ∷ []) next
part_more nfa sets next x part fresh of_word =
    let many = length_push sets x in
    let some = part.some in
    let table = part.table in
    let larger : length sets ≤ length (sets ++ x ∷ []) = omega arith in
    let rows = mul-le-mul_left nfa.letters larger in
    record {
      some = omega arith;
      first = at_old sets x 0 part.some ∙ part.first;
      distinct = distinct_more sets x part.distinct fresh;
      of_words = All-push (IsOfSomeWord nfa) sets x part.of_words of_word;
      table = omega arith;
      arrows = λ s letter letter_in within.
          arrow_old nfa sets x s letter _ (row_in s (length sets) letter nfa.letters (omega arith))
          (part.arrows s letter letter_in within);
    }

module _ (nfa : Nfa) (sets : List Bits) (next : List ℕ) (s letter : ℕ) (part : IsPart nfa sets next)
    (s_in : s < length sets) (letter_in : letter < nfa.letters) (place : length next ≡ s * nfa.letters + letter) where
  part_placed : (k : ℕ) → IsArrow nfa sets s letter k → IsPart nfa sets (next ++ k ∷ [])
  part_placed k arrow =
      let many = length_push next k in
      let inside = place_within s (length sets) letter nfa.letters s_in letter_in in
      record {
        some = part.some;
        first = part.first;
        distinct = part.distinct;
        of_words = part.of_words;
        table = omega arith;
        arrows = λ t other other_in within.
            ⊎_elim
            (λ old. subst (λ u. IsArrow nfa sets t other u) (sym (get_or_append_left next (k ∷ []) 0 _ old))
            (part.arrows t other other_in old))
            (λ last.
            let same = place_one t s other letter nfa.letters other_in letter_in (last ∙ place) in
            subst (λ u. IsArrow nfa sets t other u) (sym (get_or_push next k 0 _ (sym last)))
            (subst (λ r. IsArrow nfa sets r other k) (sym same.0)
            (subst (λ a. IsArrow nfa sets s a k) (sym same.1) arrow)))
            (last_or_old (length next) (t * nfa.letters + other) (omega arith));
      }

  -- the step of a set is the set of a word too
  pub step_word : (x : Bits) → IsStep nfa.states nfa.edges.items (at sets s) letter x → IsOfSomeWord nfa x
  step_word x step =
      let from = part.of_words s (empty 0) s_in in (
        from.0 ++ letter ∷ [],
        All-push (λ a. a < nfa.letters) from.0 letter from.1 letter_in,
        set_after nfa from.0 letter (at sets s) x from.2 step,
      )

module _ (nfa : Nfa) (old sets : List Bits) (next : List ℕ) (s letter : ℕ) (x : Bits) (k : ℕ)
    (part : IsPart nfa old next) (s_in : s < length old) (letter_in : letter < nfa.letters)
    (place : length next ≡ s * nfa.letters + letter) (step : IsStep nfa.states nfa.edges.items (at old s) letter x)
    (numbered : IsNumbered old x sets k) where
  -- the number of a step is put into its place
  pub part_numbered : IsPart nfa sets (next ++ k ∷ [])
  part_numbered =
      ⊎_elim
      (λ known.
      subst (λ ss. IsPart nfa ss (next ++ k ∷ [])) (sym known.2)
      (part_placed nfa old next s letter part s_in letter_in place k
      (known.0, subst (IsStep nfa.states nfa.edges.items (at old s) letter) (sym known.1) step)))
      (λ added.
      let many = length_push old x in
      let arrow : IsArrow nfa (old ++ x ∷ []) s letter (length old) = (
        omega arith,
        subst (λ v. IsStep nfa.states nfa.edges.items v letter (at (old ++ x ∷ []) (length old)))
            (sym (at_old old x s s_in))
            (subst (IsStep nfa.states nfa.edges.items (at old s) letter) (sym (at_new old x)) step),
      )
      in
      subst (λ ss. IsPart nfa ss (next ++ k ∷ [])) (sym added.1)
      (part_placed nfa (old ++ x ∷ []) next s letter
      (part_more nfa old next x part added.0 (step_word nfa old next s letter part s_in letter_in place x step))
      (omega arith) letter_in place k
      (subst (IsArrow nfa (old ++ x ∷ []) s letter) (sym added.2) arrow)))
      numbered

  pub sets_more : length old ≤ length sets
  sets_more =
      ⊎_elim
      (λ known. let same = ap length known.2 in omega arith)
      (λ added. let same = ap length added.1 in let many = length_push old x in omega arith)
      numbered

-- ---- the start, and where the limit is too small

-- the word of no letters
of_no_letters : (nfa : Nfa) → IsNfa nfa → IsOfSomeWord nfa nfa.start
of_no_letters nfa valid = ([], λ k d within. absurd (omega arith), set_first nfa valid)

-- the set of the start states alone, and an empty table
pub part_first : (nfa : Nfa) → IsNfa nfa → IsPart nfa (nfa.start ∷ []) []
part_first nfa valid = record {
  some = omega arith;
  first = refl;
  distinct = λ s t s_in t_in same. omega arith;
  of_words = All-push (IsOfSomeWord nfa) [] nfa.start (λ k d within. absurd (omega arith)) (of_no_letters nfa valid);
  table = omega arith;
  arrows = λ s letter letter_in within. absurd (omega arith);
}

-- more sets than the limit
pub needs_more : (nfa : Nfa) (sets : List Bits) (next : List ℕ) (limit : ℕ) → IsPart nfa sets next → limit < length sets
    → NeedsMore nfa limit
needs_more nfa sets next limit part more = record {
  sets = sets;
  more = more;
  distinct = part.distinct;
  of_words = part.of_words;
}
