-- The words of the rows of a table, and the value that they mean.
use Rattle.std.proofs.Common.{◌≡◌, ◌≢◌, ◌∙◌, ℕ, ◌+◌, ◌-◌, ◌*◌, ◌/◌, ◌%◌, ◌^◌, ◌<◌, ◌≤◌, false, not, List}
use Rattle.std.proofs.Common.{Vec, length, replicate, take, drop, get_or, set, refl, sym, ap, arith, ⊎_elim}
use Rattle.std.specs.Prelude.{All, slice_range}
use Rattle.std.specs.Vec.{with_items}
use Rattle.std.proofs.lemmas.Bool.{cases_eq}
use Rattle.std.proofs.lemmas.Grind.{common_steps}
use Rattle.std.proofs.lemmas.List.{drop-take, length-set, length-append, length-take, length-drop, length-replicate}
use Rattle.std.proofs.lemmas.List.{take-replicate, drop-replicate, get_or-replicate, get_or-set_same}
use Rattle.std.proofs.lemmas.List.{get_or-set_other, get_or_past, with_items_is, set-get_or, take-take, take_all}
use Rattle.std.proofs.lemmas.List.{drop-drop, length-take-le, get_or-take, get_or-drop}
use Rattle.std.proofs.lemmas.List.FromFn.{get_or-map-range_with_len, fill_by_all}
use Rattle.std.proofs.lemmas.Slice.{take-put_mid_below, drop-put_mid, between-put_mid}
use Rattle.std.proofs.lemmas.Nat.{mul-le, row_fits}
use Rattle.std.proofs.Math.Nat.{mul-sub}
use borrow.Rule.Slice.PartMut.{put_mid}
use Rattle.bitwords.specs.Rows.{has_bit}
use Rattle.bitwords.specs.RowFacts.{bit-zero}
use Rattle.fixedbitset.specs.Bits.{Bits, empty, of_words, storage_words}
use Rattle.fixedbitset.specs.BitsFacts.{same_bits, length-empty, contains-empty}
use Rattle.fixedbitset.specs.Stored.{IsClean}
use Rattle.fixedbitset.specs.TwoSets.{union, is_subset}
use Rattle.fixedbitset.specs.TwoSetsFacts.{union-same, is_subset-tells}
use Rattle.fixedbitset.specs.WordsFacts.{length-of_words, contains-of_words}
use Rattle.bitrows.specs.Tables.{Table, row_of, blank, with_row, rows_before, rows_from}
use Rattle.bitrows.specs.Stored.{row_words, put_row, AreRows, IsTable, table_of}
use Rattle.bitrows.specs.StoredFacts.{length-table, columns-table}

-- ---- where a row lies

pub row_within : (i count w : ℕ) → i < count → i * w + w ≤ count * w
row_within i count w below = row_fits i w count w below (omega arith)

-- the end of a row, where each keeps as many words as the columns need
pub row_end : {n rows i w : ℕ} {ws : List ℕ} → IsTable rows n ws → w ≡ storage_words n → i < rows
    → i * w + w ≤ length ws
row_end {n} {rows} {i} are wide below = rw wide omega (arith, row_within i rows (storage_words n) below, are.long)

pub row_is : (i v w : ℕ) (ws : List ℕ) → v ≡ w → slice_range ws (i * v) (i * v + v) ≡ row_words w ws i
row_is i v w ws wide =
    rw wide (let long : i * w + w - i * w ≡ w = omega arith in ap (λ k. take k (drop (i * w) ws)) long)

cut_is : (w i : ℕ) (ws : List ℕ) → row_words w ws i ≡ drop (i * w) (take (i * w + w) ws)
cut_is w i ws = sym (drop-take (i * w) w ws)

-- ---- one row replaced

module _ (w : ℕ) (ws : List ℕ) (i : ℕ) (row : List ℕ) (within : i * w + w ≤ length ws) (long : length row ≡ w) where
  length-put_row : length (put_row w ws i row) ≡ length ws
  length-put_row = simp (length-append, length-take, length-drop) (omega arith)

  put_same : row_words w (put_row w ws i row) i ≡ row
  put_same =
      sym (row_is i w w (put_row w ws i row) refl)
      ∙ between-put_mid (i * w) w ws row (i * w + w) (omega arith) (omega arith)

  put_other : (j : ℕ) → j ≢ i → row_words w (put_row w ws i row) j ≡ row_words w ws j
  put_other j other =
      let before = row_within j i w in
      let behind = row_within i j w in
      grind (
        arith,
        before,
        behind,
        cut_is w j (put_row w ws i row),
        cut_is w j ws,
        take-put_mid_below (i * w) w ws row (j * w + w),
        drop-put_mid (i * w) w ws row (j * w),
      )

-- ---- the table of words

module _ (n w count : ℕ) (ws : List ℕ) where
  pub get_or-table : (i : ℕ) (d : Bits) → i < count
      → get_or (table_of n w count ws).rows i d ≡ of_words n (row_words w ws i)
  unfolding table_of
  get_or-table i d below =
      get_or-map-range_with_len (λ i. of_words n (row_words w ws i)) 0 count i i d below (omega arith)

  table_is : (rows : List Bits) → length rows ≡ count
      → ((i : ℕ) → i < count → get_or rows i (empty 0) ≡ of_words n (row_words w ws i))
      → table_of n w count ws ≡ record { columns = n; rows = rows }
  unfolding table_of
  table_is rows long each =
      λ i.
      record {
        columns = n;
        rows = sym (fill_by_all (λ j. of_words n (row_words w ws j)) rows count (empty 0) long each) i;
      }

module _ (n w count : ℕ) (ws : List ℕ) (i : ℕ) (row : List ℕ) (are : AreRows n w count ws) (below : i < count)
    (clean : IsClean n row) where
  within : i * w + w ≤ length ws
  within = omega (arith, row_within i count w below, are.long)

  long : length row ≡ w
  long = clean.count ∙ sym are.wide

  pub are_rows-put : AreRows n w count (put_row w ws i row)
  are_rows-put = record {
    fits = are.fits;
    wide = are.wide;
    long = length-put_row w ws i row within long ∙ are.long;
    each = λ j inside.
        ⊎_elim
        (λ (e : j ≡ i). rw (e, put_same w ws i row within long) clean)
        (λ (ne : j ≢ i). rw (put_other w ws i row within long j ne) (are.each j inside))
        (cases_eq j i);
  }

  pub table_of-put : table_of n w count (put_row w ws i row) ≡ with_row (table_of n w count ws) i (of_words n row)
  table_of-put =
      let rows : List Bits = (table_of n w count ws).rows in
      let v : Bits = of_words n row in
      table_is n w count (put_row w ws i row) (set rows i v) (length-set rows i v ∙ length-table n w count ws)
      (λ j inside.
      let same = put_same w ws i row within long in
      let other = put_other w ws i row within long j in
      grind (
        arith,
        same,
        other,
        get_or-table n w count ws j (empty 0),
        get_or-set_same rows i v (empty 0),
        get_or-set_other rows i j v (empty 0),
        length-table,
      ))
      ∙ rw columns-table refl

-- ---- no bit yet

no_bit : (m p : ℕ) → has_bit (replicate m 0) p ≡ false
unfolding has_bit
no_bit m p =
    let zeros : List ℕ = replicate m 0 in
    let zero_at : get_or zeros (p / 64) 0 ≡ 0 =
    grind (arith, common_steps, get_or-replicate {A = ℕ} m (p / 64) 0 0, get_or_past zeros (p / 64) 0) in
    rw zero_at (bit-zero (p % 64))

row-zeros : (w count i : ℕ) → i < count → row_words w (replicate (count * w) 0) i ≡ replicate w 0
row-zeros w count i below =
    rw (drop-replicate {X = ℕ} (i * w) (count * w) 0)
    (take-replicate w (count * w - i * w) 0 (omega (arith, row_within i count w below)))

value-zeros : (n m : ℕ) → of_words n (replicate m 0) ≡ empty n
value-zeros n m =
    same_bits _ _ (cc (length-of_words n (replicate m 0), length-empty n))
    (λ p. grind (arith, contains-of_words n (replicate m 0) p, no_bit m p, contains-empty n p))

module _ (n w count : ℕ) (fits : n < 2 ^ 64) (wide : w ≡ storage_words n) where
  pub are_rows-zeros : AreRows n w count (replicate (count * w) 0)
  are_rows-zeros = record {
    fits = fits;
    wide = wide;
    long = length-replicate (count * w) 0;
    each = λ i below.
        rw (row-zeros w count i below)
        (record { fits = fits; count = length-replicate w 0 ∙ wide; tail = λ p _. no_bit w p });
  }

  pub table_of-zeros : table_of n w count (replicate (count * w) 0) ≡ blank count n
  table_of-zeros =
      table_is n w count (replicate (count * w) 0) (replicate count (empty n)) (length-replicate count (empty n))
      (λ i below. cc (row-zeros w count i below, value-zeros n w, get_or-replicate count i (empty n) (empty 0) below))

-- ---- what the view of a table tells of its fields

module _ (n w count : ℕ) (ws : List ℕ) (t : Table) (view : table_of n w count ws ≡ t) where
  pub viewed_columns : n ≡ t.columns
  viewed_columns = cc (columns-table n w count ws)

  pub viewed_rows : count ≡ length t.rows
  viewed_rows = cc (length-table n w count ws)

  pub viewed_all : All (λ row. row.length ≡ n) t.rows
  viewed_all i d inside = let below : i < count = omega (arith, viewed_rows) in
      cc (get_or-table n w count ws i d below, length-of_words n (row_words w ws i))

-- the words of a table that were lent and are given back
pub given_back : {Z : Type 0} (words : Vec ℕ Z) (rows n : ℕ) (new : List ℕ) → IsTable rows n words.items
    → IsTable rows n new → (with_items words new).items ≡ new
given_back words rows n new before after = with_items_is words new (after.long ∙ sym before.long ∙ sym words.ok.0)

-- one row of words is written anew
pub row_written : (w i v : ℕ) (ws row : List ℕ) → v ≡ w
    → put_mid (i * v) (i * v + v - i * v) ws row ≡ put_row w ws i row
row_written w i v ws row wide =
    rw wide (let long : i * w + w - i * w ≡ w = omega arith in ap (λ k. put_mid (i * w) k ws row) long)

-- ---- a part of the first words

pub row_of_low : (w from mid : ℕ) (ws : List ℕ) → from * w + w ≤ mid
    → slice_range (take mid ws) (from * w) (from * w + w) ≡ row_words w ws from
row_of_low w from mid ws within =
    cc (
      row_is from w w (take mid ws) refl,
      cut_is w from (take mid ws),
      take-take (from * w + w) mid ws within,
      cut_is w from ws,
    )

-- ---- the rows before one, and those from it on

module _ (w at : ℕ) (ws : List ℕ) where
  row-low : (i : ℕ) → i < at → row_words w (take (at * w) ws) i ≡ row_words w ws i
  row-low i below =
      sym (row_is i w w (take (at * w) ws) refl) ∙ row_of_low w i (at * w) ws (row_within i at w below)

  row-high : (i : ℕ) → row_words w (drop (at * w) ws) i ≡ row_words w ws (at + i)
  row-high i =
      let after : at * w + i * w ≡ (at + i) * w = omega arith in
      ap (take w) (drop-drop (i * w) (at * w) ws ∙ ap (λ k. drop k ws) after)

module _ (n w count at : ℕ) (ws : List ℕ) (within : at ≤ count) where
  pub words_before : AreRows n w count ws → at * w ≤ length ws
  words_before are = rw are.long (mul-le at w count w within (omega arith))

  pub are_rows-low : AreRows n w count ws → AreRows n w at (take (at * w) ws)
  are_rows-low are = record {
    fits = are.fits;
    wide = are.wide;
    long = length-take-le (at * w) ws (words_before are);
    each = λ i below. rw (row-low w at ws i below) (are.each i (omega arith));
  }

  pub are_rows-high : AreRows n w count ws → AreRows n w (count - at) (drop (at * w) ws)
  are_rows-high are =
      let others : count * w - at * w ≡ (count - at) * w = omega (arith, mul-sub w count at) in
      record {
        fits = are.fits;
        wide = are.wide;
        long = length-drop (at * w) ws ∙ ap (λ k. k - at * w) are.long ∙ others;
        each = λ i below. rw (row-high w at ws i) (are.each (at + i) (omega arith));
      }

  pub table_of-low : table_of n w at (take (at * w) ws) ≡ rows_before (table_of n w count ws) at
  table_of-low =
      let rows : List Bits = (table_of n w count ws).rows in
      table_is n w at (take (at * w) ws) (take at rows)
      (length-take-le at rows (omega (arith, length-table n w count ws)))
      (λ i below.
      get_or-take at rows i (empty 0) below
      ∙ get_or-table n w count ws i (empty 0) (omega arith)
      ∙ ap (of_words n) (sym (row-low w at ws i below)))
      ∙ rw columns-table refl

  pub table_of-high : table_of n w (count - at) (drop (at * w) ws) ≡ rows_from (table_of n w count ws) at
  table_of-high =
      let rows : List Bits = (table_of n w count ws).rows in
      table_is n w (count - at) (drop (at * w) ws) (drop at rows)
      (length-drop at rows ∙ ap (λ k. k - at) (length-table n w count ws))
      (λ i below.
      get_or-drop at rows i (empty 0)
      ∙ get_or-table n w count ws (at + i) (empty 0) (omega arith)
      ∙ ap (of_words n) (sym (row-high w at ws i)))
      ∙ rw columns-table refl

-- ---- a table of one row

module _ (n w count : ℕ) (ws : List ℕ) (one : count ≡ 1) (long : length ws ≡ count * w) where
  only_row : row_words w ws 0 ≡ ws
  only_row =
      let first : 0 * w ≡ 0 = omega arith in
      let all : length ws ≡ 1 * w = long ∙ ap (λ k. k * w) one in
      ap (λ k. take w (drop k ws)) first ∙ take_all w ws (omega (arith, all))

  pub only_clean : AreRows n w count ws → IsClean n ws
  only_clean are = let first = are.each 0 (omega (arith, one)) in rw only_row at first

  -- where it is a row of another table, that row is the set of its words
  pub only_value : (t : Table) (row : ℕ) → table_of n w count ws ≡ rows_before (rows_from t row) 1
      → of_words n ws ≡ row_of t row
  only_value t row same =
      let here : row + 0 ≡ row = omega arith in
      ap (of_words n) (sym only_row)
      ∙ sym (get_or-table n w count ws 0 (empty 0) (omega (arith, one)))
      ∙ ap (λ u. row_of u 0) same
      ∙ get_or-take 1 (drop row t.rows) 0 (empty 0) (omega arith)
      ∙ get_or-drop row t.rows 0 (empty 0)
      ∙ ap (row_of t) here

pub rows_after : (t : Table) (row : ℕ) → rows_from (rows_from t row) 1 ≡ rows_from t (row + 1)
rows_after t row = λ i. record { columns = t.columns; rows = drop-drop 1 row t.rows i }

-- ---- a row joined with itself

pub row_kept : (t : Table) (i : ℕ) → t ≡ with_row t i (union (row_of t i) (row_of t i))
row_kept t i = rw union-same (λ j. record { columns = t.columns; rows = sym (set-get_or t.rows i (empty 0)) j })

pub none_came : (v : Bits) → false ≡ not (is_subset v v)
none_came v = rw ((is_subset-tells v v).1 (λ p one. one)) refl
