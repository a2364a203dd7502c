-- The value of a table of bits: how many columns it has, and the set of columns of each row.
use Rattle.std.specs.Prelude.{◌≡◌, ℕ, Bool, List, length, replicate, take, drop, slice_set, slice_index_or}
use Rattle.std.specs.Coded.{Coded, code_by, coded×, coded_ℕ, coded_list}
use Rattle.std.proofs.Common.{refl}
use Rattle.fixedbitset.specs.Bits.{Bits, contains, empty, set_bit}
use Rattle.fixedbitset.specs.BitsCode as bits

-- how many columns there are, and for each row the set of those at which it has a bit
pub record Table : Type 0 where
  pub columns : ℕ
  pub rows : List Bits

-- the row of this number
abbrev pub row_of : Table → ℕ → Bits
row_of t row = slice_index_or t.rows row (empty 0)

-- whether the row has a bit at the column
abbrev pub has : Table → ℕ → ℕ → Bool
has t row column = contains (row_of t row) column

-- so many rows of so many columns, with no bit
abbrev pub blank : ℕ → ℕ → Table
blank rows columns = record { columns = columns; rows = replicate rows (empty columns) }

-- the row of this number is the given one, and the others stay
abbrev pub with_row : Table → ℕ → Bits → Table
with_row t row v = record { columns = t.columns; rows = slice_set t.rows row v }

-- the row has a bit at the column or not, as `enabled` says, and all else stays
abbrev pub set_at : Table → ℕ → ℕ → Bool → Table
set_at t row column enabled = with_row t row (set_bit (row_of t row) column enabled)

-- the rows before this one
abbrev pub rows_before : Table → ℕ → Table
rows_before t row = record { columns = t.columns; rows = take row t.rows }

-- the rows from this one on
abbrev pub rows_from : Table → ℕ → Table
rows_from t row = record { columns = t.columns; rows = drop row t.rows }

-- as many rows, and as many columns
abbrev pub HaveSameSize : Table → Table → Type 0
HaveSameSize old new = (length new.rows ≡ length old.rows) × (new.columns ≡ old.columns)

-- two tables are equal if these two are
abbrev pub code : Coded Table
code = code_by (ℕ × List Bits) (coded× coded_ℕ (coded_list bits.code)) (λ t. (t.columns, t.rows))
    (λ d. record { columns = d.0; rows = d.1 }) (λ _. refl)
