-- A table and the words in which it is kept. Public clauses cite this module only where a caller keeps the words.
use Rattle.std.specs.Prelude.{◌≡◌, ℕ, ◌*◌, ◌^◌, ◌<◌, Bool, not, List, ◌++◌, length, map, take, drop}
use Rattle.std.specs.List.{range_with_len}
use Rattle.fixedbitset.specs.Bits.{of_words, storage_words}
use Rattle.fixedbitset.specs.Stored.{IsClean}
use Rattle.fixedbitset.specs.TwoSets.{union, is_subset}
use Rattle.bitrows.specs.Tables.{Table}

-- the words of row i, where each row keeps w
abbrev pub row_words : ℕ → List ℕ → ℕ → List ℕ
row_words w ws i = take w (drop (i * w) ws)

-- the words with those of row i replaced
abbrev pub put_row : ℕ → List ℕ → ℕ → List ℕ → List ℕ
put_row w ws i row = take (i * w) ws ++ (row ++ drop w (drop (i * w) ws))

-- whole lanes for each of so many rows, and no bit past the columns
pub record AreRows (n w count : ℕ) (ws : List ℕ) : Type 0 where
  pub fits : n < 2 ^ 64
  pub wide : w ≡ storage_words n
  pub long : length ws ≡ count * w
  pub each : (i : ℕ) → i < count → IsClean n (row_words w ws i)

-- the table that the words mean
unfoldable pub table_of : ℕ → ℕ → ℕ → List ℕ → Table
table_of n w count ws = record { columns = n; rows = map (λ i. of_words n (row_words w ws i)) (range_with_len 0 count) }

-- the words are those of a table of so many rows and columns
abbrev pub IsTable : ℕ → ℕ → List ℕ → Type 0
IsTable rows columns ws = AreRows columns (storage_words columns) rows ws

-- the table that they mean
abbrev pub table_in : ℕ → ℕ → List ℕ → Table
table_in rows columns ws = table_of columns (storage_words columns) rows ws

-- ---- what no public clause cites

-- row `into` took in what row `from` has, and all else stayed
pub record IsRowJoined (n w : ℕ) (old : List ℕ) (from into : ℕ) (changed : Bool) (new : List ℕ) : Type 0 where
  pub row : List ℕ
  pub words : new ≡ put_row w old into row
  pub clean : IsClean n row
  pub value : of_words n row ≡ union (of_words n (row_words w old into)) (of_words n (row_words w old from))
  pub answer : changed ≡ not (is_subset (of_words n (row_words w old from)) (of_words n (row_words w old into)))
