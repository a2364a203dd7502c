-- What a use reads and refuses of its text, and what it prints of a set.
use Rattle.std.proofs.Common.{◌≡◌, ◌∙◌, ◌↔◌, ℕ, suc, List, [], ◌∷◌, ◌++◌, IsTrue, All, Contains, Vec}
use Rattle.std.proofs.Common.{Result, Ok, Err, length, map, get_or, drop, refl, sym, ap, subst, arith}
use Rattle.std.specs.Prelude.{IfOk, IfErr, OnOk, None, slice_get}
use Rattle.std.specs.declared.alloc.Global.{Global}
use Rattle.std.specs.List.{concat, flat_map}
use Rattle.std.specs.Str.Lines.{lines}
use Rattle.std.proofs.lemmas.List.{length-map, get_or-map}
use Rattle.std.proofs.lemmas.List.Elements.{All-contains, All-map, Contains-append_right}
use Rattle.fixedbitset.specs.Bits.{Bits, contains, asc}
use Rattle.fixedbitset.specs.MemberFacts.{in_asc}
use Rattle.uses.specs.declared.text.Fault.{Fault}
use Rattle.uses.specs.declared.text.Fault.TheVariants.{Memory, Input, Line}
use Rattle.uses.specs.declared.text.Row.{Row}
use Rattle.uses.specs.Faults.{IsFirstOther, IsFaultOfLine, IsFaultOfRow, AreAll}
use Rattle.uses.specs.Rows.{IsRow, AreRowsOf}
use Rattle.uses.specs.Texts.{HasRows, HasFirst, IsOne, IsFaultOfFirst, IsRefusal, Prints}
use Rattle.uses.specs.Edges.{HasEdges, IsEdge}
use Rattle.uses.specs.Reach.{Graph, HasGraph, AreNodes}
use Rattle.uses.proofs.Pairs.{asc_rises}

-- the numbers of each row
abbrev pub numbers_in : List Row → List (List ℕ)
numbers_in rows = map (λ (row : Row). row.numbers.items) rows

-- ---- what is read

-- the text's rows, where the first one is a number alone
pub has_rows : (text : List ℕ) (rows : List Row) (number : ℕ) (others : List Row) → AreRowsOf (lines text) rows
    → HasFirst rows number others → HasRows text ((number ∷ []) ∷ numbers_in others)
has_rows text rows number others are first = record {
  each = are.each;
  numbers = sym are.numbers ∙ ap numbers_in first.parts ∙ ap (λ numbers. numbers ∷ numbers_in others) first.alone;
}

-- the first row and the others are those of the text
module _ (text : List ℕ) (first : Row) (others : List Row) (are : AreRowsOf (lines text) (first ∷ others)) (number : ℕ)
    (rest : List (List ℕ)) (has : HasRows text ((number ∷ []) ∷ rest)) where
  same : first.numbers.items ∷ numbers_in others ≡ (number ∷ []) ∷ rest
  same = are.numbers ∙ has.numbers

  pub same_first : first.numbers.items ≡ number ∷ []
  same_first = ap (λ rows. get_or rows 0 []) same

  pub same_others : numbers_in others ≡ rest
  same_others = ap (λ rows. drop 1 rows) same

-- a text with no row has no first row
pub no_first : (text : List ℕ) → AreRowsOf (lines text) [] → (row : List ℕ) (rest : List (List ℕ))
    → ¬ (HasRows text (row ∷ rest))
no_first text are row rest has =
    let same : [] ≡ row ∷ rest = are.numbers ∙ has.numbers in
    let none : 0 ≡ suc (length rest) = ap length same in
    absurd (omega arith)

-- rows of which none is the first are none
pub no_rows : (rows : List Row) → None ≡ slice_get rows 0 → rows ≡ []
no_rows [] none = refl
no_rows (row ∷ rows) none = cc

-- each row is as P says, as its numbers are
pub each_of : (P : List ℕ → Type 0) (rows : List Row) → All P (numbers_in rows) → AreAll P rows
each_of P rows all k d within =
    let long : length (numbers_in rows) ≡ length rows = length-map rows (λ (row : Row). row.numbers.items) in
    subst P (get_or-map (λ (row : Row). row.numbers.items) rows k d [] within) (all k [] (omega arith))

-- the numbers of all rows, one row after the other
pub concat_of : (rows : List Row) → flat_map (λ (row : Row). row.numbers.items) rows ≡ concat (numbers_in rows)
concat_of [] = refl
concat_of (row ∷ rows) = ap (λ numbers. row.numbers.items ++ numbers) (concat_of rows)

-- the rows behind the first are those of a graph that the text has
pub rows_of_graph : (text : List ℕ) (first : Row) (others : List Row) (start : ℕ) (graph : Graph)
    → AreRowsOf (lines text) (first ∷ others) → HasGraph text start graph → AreAll (AreNodes (length others)) others
rows_of_graph text first others start graph are has =
    let nodes : List (List ℕ) = map (λ (row : Vec ℕ Global). row.items) graph in
    let same : numbers_in others ≡ nodes = same_others text first others are start nodes has.rows in
    let long : length (numbers_in others) ≡ length others = length-map others (λ (row : Row). row.numbers.items) in
    let many : length nodes ≡ length graph = length-map graph (λ (row : Vec ℕ Global). row.items) in
    let equal : length graph ≡ length others = sym many ∙ sym (ap length same) ∙ long in
    each_of (AreNodes (length others)) others
    (subst (All (AreNodes (length others))) (sym same)
    (All-map (AreNodes (length others)) (λ (row : Vec ℕ Global). row.items) graph
    (subst (λ n. All (λ (row : Vec ℕ Global). AreNodes n row.items) graph) equal has.edges)))

-- the rows behind the first are the edges that the text has
pub edges_of : (text : List ℕ) (rows others : List Row) (nodes limit many : ℕ) (edges : List (List ℕ))
    → AreRowsOf (lines text) rows → HasFirst rows nodes others → HasEdges limit text many edges
    → AreAll (IsEdge nodes) others
edges_of text rows others nodes limit many edges are first has =
    let these = subst (AreRowsOf (lines text)) first.parts are in
    let alone : many ∷ [] ≡ nodes ∷ [] =
    sym (same_first text first.first others these many edges has.rows) ∙ first.alone in
    let same : many ≡ nodes = ap (λ numbers. get_or numbers 0 0) alone in
    each_of (IsEdge nodes) others
    (subst (All (IsEdge nodes)) (sym (same_others text first.first others these many edges has.rows))
    (subst (λ n. All (IsEdge n) edges) same has.each))

-- ---- what is answered

module _ {T E : Type 0} where
  -- what follows at `Ok`
  pub at_ok : (P R : T → Type 0) (Q : Type 0) (r : Result T E) → ((t : T) → P t → Q → R t) → IfOk r P → OnOk r Q
      → IfOk r R
  at_ok P R Q (Ok t) then p q = then t p q
  at_ok P R Q (Err e) then p q = tt

  -- what follows at `Err`
  pub at_err : (P R : E → Type 0) (r : Result T E) → ((e : E) → P e → R e) → IfErr r P → IfErr r R
  at_err P R (Ok t) then p = tt
  at_err P R (Err e) then p = then e p

-- ---- what is refused

-- one of them is other than P says
not_all : {X : Type 0} (P : X → Type 0) (xs before : List X) (x : X) → IsFirstOther P xs before x → ¬ (All P xs)
not_all {X} P xs before x first all =
    let inside : Contains (before ++ x ∷ first.after) x =
    Contains-append_right before (x ∷ first.after) x (0, omega arith, refl) in
    first.other (All-contains P xs x all (subst (λ (ys : List X). Contains ys x) (sym first.parts) inside))

-- a line is no row of numbers
pub unread : (text : List ℕ) (P : Type 0) (fault : Fault) → IsFaultOfLine IsRow (lines text) fault
    → (P → All IsRow (lines text)) → IsRefusal P fault
unread text P Memory is each = tt
unread text P Input is each = is
unread text P (Line number wrong) is each = λ p. not_all IsRow (lines text) is.0 is.1 is.2 (each p)

-- a row is not as Q says
pub other_than : (Q : List ℕ → Type 0) (rows : List Row) (P : Type 0) (fault : Fault) → IsFaultOfRow Q rows fault
    → (P → AreAll Q rows) → IsRefusal P fault
other_than Q rows P Memory is each = tt
other_than Q rows P Input is each = is
other_than Q rows P (Line number wrong) is each =
    λ p. not_all (λ (row : Row). Q row.numbers.items) rows is.0 is.1 is.2 (each p)

-- the first row is not one number as Q says
pub other_first : (text : List ℕ) (rows : List Row) (Q : ℕ → Type 0) (P : Type 0) (fault : Fault)
    → AreRowsOf (lines text) rows → IsFaultOfFirst (IsOne Q) rows fault
    → (P → (number : ℕ) × (rest : List (List ℕ)) × HasRows text ((number ∷ []) ∷ rest) × Q number)
    → IsRefusal P fault
other_first text rows Q P Memory are is has = tt
other_first text [] Q P Input are is has = is
other_first text (first ∷ others) Q P Input are is has = is.1
other_first text [] Q P (Line number wrong) are is has =
    λ p. let found = has p in no_first text are (found.0 ∷ []) found.1 found.2
other_first text (first ∷ others) Q P (Line number wrong) are is has =
    λ p.
    let found = has p in
    is.0 (subst (IsOne Q) (sym (same_first text first others are found.0 found.1 found.2)) (refl, found.3))

-- ---- what is printed

-- the positions of a set are the numbers that P holds of, and its ascending list is printed
pub prints : (text_of : List ℕ → List ℕ) (P : ℕ → Type 0) (v : Bits) (text : List ℕ) → text ≡ text_of (asc v)
    → ((p : ℕ) → IsTrue (contains v p) ↔ P p) → Prints text_of P text
prints text_of P v text is members = record {
  numbers = asc v;
  ascending = asc_rises v;
  members = λ n. (
    λ there. (members n).0 ((in_asc v n).0 there),
    λ holds. (in_asc v n).1 ((members n).1 holds),
  );
  is_text = is;
}
