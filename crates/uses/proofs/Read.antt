-- Words and lines read one after the other.
use Rattle.std.proofs.Common.{◌≡◌, ◌∙◌, ℕ, ◌+◌, ◌<◌, ◌≤◌, ◌==◌, Bool, true, cond, not, List}
use Rattle.std.proofs.Common.{[], ◌∷◌, ◌++◌, length, get_or, map, take, drop, filter, Some}
use Rattle.std.proofs.Common.{All, Contains, Bor, refl, sym, ap, subst, arith, ⊎_elim}
use Rattle.std.specs.List.{slice_split}
use Rattle.std.proofs.lemmas.Bool.{cases_lt}
use Rattle.std.proofs.lemmas.List.{map-append, length-map, length_push, get_or-map, get_or_push}
use Rattle.std.proofs.lemmas.List.{get_or_append_left, take_all, take_more, take-append-drop, drop_more}
use Rattle.std.proofs.lemmas.List.Elements.{All-contains, All-push, filter-append, Contains-push, Contains-append_left}
use Rattle.std.proofs.lemmas.Option.{slice_get_within, slice_get-get_or, get_or_from_slice_get}
use Rattle.uses.specs.declared.text.Row.{Row}
use Rattle.uses.specs.Rows.{IsNumber, IsRow, AreRowsOf, value, row_of, words}
use Rattle.uses.specs.Faults.{IsFirstOther}

-- those that are not empty
abbrev pub kept : List (List ℕ) → List (List ℕ)
kept pieces = filter (λ word. not (length word == 0)) pieces

-- each of the words is a number, and these are their values
pub record AreRead (texts : List (List ℕ)) (numbers : List ℕ) : Type 0 where
  pub each : All IsNumber texts
  pub values : numbers ≡ map value texts

pub read_more : (texts : List (List ℕ)) (numbers : List ℕ) (text : List ℕ) (number : ℕ) → IsNumber text
    → number ≡ value text → AreRead texts numbers → AreRead (texts ++ text ∷ []) (numbers ++ number ∷ [])
read_more texts numbers text number is same so_far = record {
  each = All-push IsNumber texts text so_far.each is;
  values = ap (λ xs. xs ++ number ∷ []) so_far.values ∙ ap (λ x. map value texts ++ x ∷ []) same
      ∙ sym (map-append value texts (text ∷ []));
}

-- the text at a place of what was collected
module _ (items : List (Bor (List ℕ))) (i : ℕ) (d : Bor (List ℕ)) (inside : i < length items) where
  abbrev texts : List (List ℕ)
  texts = map (λ x. x.now) items

  within : i < length texts
  within = let long : length texts ≡ length items = length-map items (λ x. x.now) in omega arith

  here : get_or texts i [] ≡ (get_or items i d).now
  here = get_or-map (λ x. x.now) items i d [] inside

  pub texts_more : take (i + 1) (map (λ x. x.now) items) ≡ take i (map (λ x. x.now) items)
      ++ (get_or items i d).now ∷ []
  texts_more = take_more texts i [] within ∙ ap (λ x. take i texts ++ x ∷ []) here

  pub kept_more : (b : Bool) → not (length (get_or items i d).now == 0) ≡ b
      → kept (take (i + 1) (map (λ x. x.now) items)) ≡ kept (take i (map (λ x. x.now) items))
      ++ cond b ((get_or items i d).now ∷ []) []
  kept_more b is =
      ap kept texts_more
      ∙ filter-append (λ word. not (length word == 0)) (take i texts) _
      ∙ ap (λ c. kept (take i texts) ++ cond c ((get_or items i d).now ∷ []) []) is

  -- a word that is not empty and no number
  pub not_a_row : (line : List ℕ) → texts ≡ slice_split (λ b. b == 32) line
      → not (length (get_or items i d).now == 0) ≡ true → ¬ (IsNumber (get_or items i d).now) → ¬ (IsRow line)
  not_a_row line same is other all =
      let there : Contains (kept texts) (get_or items i d).now =
      rw (
        sym (take-append-drop (i + 1) texts),
        filter-append (λ word. not (length word == 0)) (take (i + 1) texts) (drop (i + 1) texts),
        kept_more true is,
      )
      (Contains-append_left (kept (take i texts) ++ (get_or items i d).now ∷ []) _ _
      (Contains-push (kept (take i texts)) (get_or items i d).now))
      in
      other (All-contains IsNumber (kept texts) (get_or items i d).now
      (subst (λ ws. All IsNumber (kept ws)) (sym same) all) there)

  -- the first line that is none
  pub first_other : (lines : List (List ℕ)) → texts ≡ lines → All IsRow (take i texts)
      → ¬ (IsRow (get_or items i d).now) → IsFirstOther IsRow lines (take i texts) (get_or items i d).now
  first_other lines same each other = record {
    after = drop (i + 1) texts;
    parts = sym same ∙ sym (take-append-drop i texts)
        ∙ ap (λ r. take i texts ++ r) (drop_more texts i [] within ∙ ap (λ x. x ∷ drop (i + 1) texts) here);
    each = each;
    other = other;
  }

-- all words of the line are read
pub all_read : (items : List (Bor (List ℕ))) (i : ℕ) (line numbers : List ℕ) → length items ≤ i
    → map (λ x. x.now) items ≡ slice_split (λ b. b == 32) line
    → AreRead (kept (take i (map (λ x. x.now) items))) numbers → AreRead (words line) numbers
all_read items i line numbers past same read =
    let texts : List (List ℕ) = map (λ x. x.now) items in
    let long : length texts ≡ length items = length-map items (λ x. x.now) in
    subst (λ ws. AreRead ws numbers) (ap kept (take_all i texts (omega arith) ∙ same)) read

-- as many rows as lines
pub as_many : (lines : List (List ℕ)) (rows : List Row) → AreRowsOf lines rows → length rows ≡ length lines
as_many lines rows are =
    let long : length (map (λ (row : Row). row.numbers.items) rows) ≡ length rows = length-map rows (λ (row : Row).
    row.numbers.items) in
    let many : length (map row_of lines) ≡ length lines = length-map lines row_of in
    sym long ∙ ap length are.numbers ∙ many

-- no line, and no row
pub no_rows : AreRowsOf [] []
no_rows = record {
  each = λ k d h. absurd (omega arith);
  numbers = refl;
  counted = λ k row at. absurd (let inside = slice_get_within {A = Row} [] k row at in omega arith);
}

-- one line and one row more
pub rows_more : (lines : List (List ℕ)) (rows : List Row) (line : List ℕ) (row : Row) → AreRowsOf lines rows
    → IsRow line → row.numbers.items ≡ row_of line → row.line ≡ length rows + 1
    → AreRowsOf (lines ++ line ∷ []) (rows ++ row ∷ [])
rows_more lines rows line row are is same number = record {
  each = All-push IsRow lines line are.each is;
  numbers = map-append (λ (r : Row). r.numbers.items) rows (row ∷ []) ∙ ap (λ xs. xs ++ row.numbers.items ∷ [])
      are.numbers ∙ ap (λ x. map row_of lines ++ x ∷ []) same ∙ sym (map-append row_of lines (line ∷ []));
  counted = λ k r at.
      let inside = slice_get_within (rows ++ row ∷ []) k r at in
      let long = length_push rows row in
      let found = get_or_from_slice_get (rows ++ row ∷ []) k r row at in
      ⊎_elim
      (λ (old : k < length rows).
      are.counted k r
      (slice_get-get_or rows k row old ∙ ap Some (sym (get_or_append_left rows (row ∷ []) row k old) ∙ found)))
      (λ (last : length rows ≤ k).
      let place : length rows ≡ k = omega arith in
      ap (λ (x : Row). x.line) (sym found ∙ get_or_push rows row row k place) ∙ number ∙ ap (λ n. n + 1) place)
      (cases_lt k (length rows));
}
