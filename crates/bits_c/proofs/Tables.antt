-- What the tests of an export say of a table.
use Rattle.std.proofs.Common.{◌≡◌, ℕ, ◌≤◌, false, List, sym, subst}
use Rattle.fixedbitset.specs.Bits.{storage_words}
use Rattle.bitrows.specs.Stored.{table_in}
use Rattle.bitrows.specs.StoredFacts.{length-table}
use Rattle.bitrows.specs.TableFacts.{has-past}
use Rattle.bitrows.specs.Tables.{has}

-- past the rows there is no bit
pub none_past : (rows columns : ℕ) (ws : List ℕ) (row column : ℕ) → rows ≤ row
    → false ≡ has (table_in rows columns ws) row column
none_past rows columns ws row column past =
    sym (has-past (table_in rows columns ws) row column
    (subst (λ n. n ≤ row) (sym (length-table columns (storage_words columns) rows ws)) past))
