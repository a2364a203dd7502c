-- The table that words mean, for those who keep the words.
use Rattle.std.specs.Prelude.{◌≡◌, ℕ, List, length}
use Rattle.std.proofs.Common.{refl}
use Rattle.std.proofs.lemmas.List.FromFn.{length-map-range_with_len}
use Rattle.fixedbitset.specs.Bits.{of_words}
use Rattle.bitrows.specs.Stored.{row_words, table_of}

-- it has as many rows as were said
pub length-table : (n w count : ℕ) (ws : List ℕ) → length (table_of n w count ws).rows ≡ count
unfolding table_of
length-table n w count ws = length-map-range_with_len (λ i. of_words n (row_words w ws i)) 0 count

-- and as many columns
pub columns-table : (n w count : ℕ) (ws : List ℕ) → (table_of n w count ws).columns ≡ n
unfolding table_of
columns-table n w count ws = refl
