-- The bits of tables after a change, for those who call one.
use Rattle.std.specs.Prelude.{◌≡◌, ℕ, ◌<◌, ◌≤◌, Bool, true, false, ◌&&◌, ◌||◌}
use Rattle.std.specs.Prelude.{◌==◌, cond, All, IsTrue, ◌↔◌, length, replicate}
use Rattle.std.proofs.Common.{◌≢◌, ◌⊎◌, inl, inr, ◌∙◌, get_or, set, sym, ap, arith, ⊎_elim}
use Rattle.std.proofs.lemmas.Bool.{cases_eq, cases_lt, eq-eqb, ne_eqb, eqb-true, or_cases}
use Rattle.std.proofs.lemmas.Bool.{or_left, or_right, and_parts, and_from, true≢false}
use Rattle.std.proofs.lemmas.List.{get_or-set_same, get_or-set_other, get_or-replicate}
use Rattle.std.proofs.lemmas.List.{get_or_past, length-replicate, length-set}
use Rattle.std.proofs.lemmas.List.Elements.{All-set}
use Rattle.fixedbitset.specs.Bits.{Bits, contains, empty, set_bit}
use Rattle.fixedbitset.specs.BitsFacts.{length-empty, length-set_bit, contains-empty, contains_below, contains-set_bit}
use Rattle.fixedbitset.specs.TwoSets.{union}
use Rattle.fixedbitset.specs.TwoSetsFacts.{contains-union}
use Rattle.bitrows.specs.Tables.{Table, row_of, has, blank, with_row, set_at}

-- a row past the last has no bit
pub has-past : (t : Table) (row column : ℕ) → length t.rows ≤ row → has t row column ≡ false
has-past t row column past =
    ap (λ v. contains v column) (get_or_past t.rows row (empty 0) past) ∙ contains-empty 0 column

pub has_row : (t : Table) (row column : ℕ) → has t row column ≡ true → row < length t.rows
has_row t row column one =
    ⊎_elim
    (λ (within : row < length t.rows). within)
    (λ (past : length t.rows ≤ row). absurd (true≢false (sym one ∙ has-past t row column past)))
    (cases_lt row (length t.rows))

-- each row is a set of the length that the table has columns, as `columns` says
pub has_below : (t : Table) (row column : ℕ) → All (λ v. v.length ≡ t.columns) t.rows → has t row column ≡ true
    → column < t.columns
has_below t row column all one =
    let below = contains_below (row_of t row) column one in
    let long = all row (empty 0) (has_row t row column one) in
    omega arith

pub has-blank : (rows columns row column : ℕ) → has (blank rows columns) row column ≡ false
has-blank rows columns row column =
    ⊎_elim
    (λ (within : row < rows). ap (λ v. contains v column) (get_or-replicate rows row (empty columns) (empty 0) within)
    ∙ contains-empty columns column)
    (λ (past : rows ≤ row).
    has-past (blank rows columns) row column (let long : length (replicate rows (empty columns)) ≡ rows =
    length-replicate rows (empty columns) in omega arith))
    (cases_lt row rows)

module _ (t : Table) (row : ℕ) where
  pub length-with_row : (v : Bits) → length (with_row t row v).rows ≡ length t.rows
  length-with_row v = length-set t.rows row v

  pub has-with_row : (v : Bits) (r column : ℕ) → row < length t.rows
      → has (with_row t row v) r column ≡ cond (r == row) (contains v column) (has t r column)
  has-with_row v r column within =
      ⊎_elim
      (λ (e : r ≡ row).
      ap (λ x. contains (get_or (set t.rows row v) x (empty 0)) column) e
      ∙ ap (λ u. contains u column) (get_or-set_same t.rows row v (empty 0) within)
      ∙ ap (λ b. cond b (contains v column) (has t r column)) (sym (eq-eqb r row e)))
      (λ (ne : r ≢ row).
      ap (λ u. contains u column) (get_or-set_other t.rows row r v (empty 0) ne)
      ∙ ap (λ b. cond b (contains v column) (has t r column)) (sym (ne_eqb r row ne)))
      (cases_eq r row)

  cond_both : (a b c d : Bool) → cond a (cond b c d) d ≡ cond (a && b) c d
  cond_both a b c d = grind arith

  pub has-set_at : (at : ℕ) (enabled : Bool) (r column : ℕ) → row < length t.rows → at < (row_of t row).length
      → has (set_at t row at enabled) r column ≡ cond (r == row && column == at) enabled (has t r column)
  has-set_at at enabled r column within below =
      has-with_row (set_bit (row_of t row) at enabled) r column within
      ∙ ⊎_elim
      (λ (e : r ≡ row).
      ap (λ b. cond (r == row) b (has t r column)) (contains-set_bit (row_of t row) at enabled column below
      ∙ ap (λ x. cond (column == at) enabled (has t x column)) (sym e))
      ∙ cond_both (r == row) (column == at) enabled (has t r column))
      (λ (ne : r ≢ row).
      ap (λ b. cond b (contains (set_bit (row_of t row) at enabled) column) (has t r column)) (ne_eqb r row ne)
      ∙ ap (λ b. cond (b && (column == at)) enabled (has t r column)) (sym (ne_eqb r row ne)))
      (cases_eq r row)

  -- the row takes in another one
  pub has-joined : (from r column : ℕ) → row < length t.rows
      → has (with_row t row (union (row_of t row) (row_of t from))) r column
      ≡ cond (r == row) (has t row column || has t from column) (has t r column)
  has-joined from r column within =
      has-with_row (union (row_of t row) (row_of t from)) r column within
      ∙ ap (λ b. cond (r == row) b (has t r column)) (contains-union (row_of t row) (row_of t from) column)

  -- the others stay at their lengths
  pub sized-set_at : (at : ℕ) (enabled : Bool) → row < length t.rows
      → All (λ (v : Bits). v.length ≡ t.columns) t.rows → All (λ (v : Bits).
      v.length ≡ t.columns) (set_at t row at enabled).rows
  sized-set_at at enabled within sized =
      All-set (λ (v : Bits).
      v.length ≡ t.columns) t.rows row (set_bit (row_of t row) at enabled)
      (length-set_bit (row_of t row) at enabled ∙ sized row (empty 0) within) sized

  either_true : (c h : Bool) → cond c true h ≡ (h || c)
  either_true c h = grind arith

  -- the bits that were, and the one that is set
  pub in_set : (at : ℕ) → row < length t.rows → at < t.columns → All (λ (v : Bits). v.length ≡ t.columns) t.rows
      → (r column : ℕ) → IsTrue (has (set_at t row at true) r column)
      ↔ (IsTrue (has t r column) ⊎ ((r ≡ row) × (column ≡ at)))
  in_set at within below sized r column =
      let long : (row_of t row).length ≡ t.columns = sized row (empty 0) within in
      let is : has (set_at t row at true) r column ≡ (has t r column || (r == row && column == at)) =
      has-set_at at true r column within (omega arith) ∙ either_true (r == row && column == at) (has t r column)
      in (
        λ one. ⊎_elim (λ old. inl old) (λ new. let both = and_parts _ _ new in
            inr (eqb-true r row both.0, eqb-true column at both.1)) (or_cases _ _ (sym is ∙ one)),
        λ either. is
            ∙ ⊎_elim (λ old. or_left _ _ old) (λ new.
            or_right (has t r column) _ (and_from _ _ (eq-eqb r row new.0) (eq-eqb column at new.1))) either,
      )

-- rows with no bit have their length
pub sized-blank : (rows columns : ℕ) → All (λ (v : Bits). v.length ≡ columns) (blank rows columns).rows
sized-blank rows columns i d within =
    let many : length (replicate rows (empty columns)) ≡ rows = length-replicate rows (empty columns) in
    ap (λ (v : Bits). v.length) (get_or-replicate rows i (empty columns) d (omega arith)) ∙ length-empty columns

-- what a caller needs of the bits that a call leaves
pub ruleset facts = (has-blank, has-set_at, has-joined, has_row, has_below, length-with_row, sized-blank, sized-set_at)
