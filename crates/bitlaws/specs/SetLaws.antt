-- What holds of one set, for all values.
use Rattle.std.specs.Prelude.{◌≡◌, ℕ, ◌+◌, ◌%◌, ◌^◌, ◌<◌, ◌≤◌, true, false, IsTrue, ◌↔◌}
use Rattle.fixedbitset.specs.Bits.{Bits, contains, insert, remove, is_clear, is_full, words, of_words, number_at}
use Rattle.fixedbitset.specs.Parts.{store}
use Rattle.fixedbitset.specs.Ranges.{count_ones}

-- the value of a length and of its words
abbrev pub WordsReadBack : Type 0
WordsReadBack = (v : Bits) → of_words v.length (words v) ≡ v

-- how many positions of a value are set
abbrev pub size : Bits → ℕ
size v = count_ones v 0 v.length

-- a value is clear exactly if none of its positions is set
abbrev pub ClearHasNone : Type 0
ClearHasNone = (v : Bits) → IsTrue (is_clear v) ↔ (size v ≡ 0)

-- a value is full exactly if as many positions are set as there are
abbrev pub FullHasAll : Type 0
FullHasAll = (v : Bits) → IsTrue (is_full v) ↔ (size v ≡ v.length)

-- setting a position that was not set makes one more
abbrev pub InsertAddsOne : Type 0
InsertAddsOne = (v : Bits) (bit : ℕ) → bit < v.length → contains v bit ≡ false → size (insert v bit) ≡ size v + 1

-- setting one that was set changes nothing
abbrev pub InsertKeeps : Type 0
InsertKeeps = (v : Bits) (bit : ℕ) → contains v bit ≡ true → insert v bit ≡ v

-- clearing a position that was set makes one fewer
abbrev pub RemoveTakesOne : Type 0
RemoveTakesOne = (v : Bits) (bit : ℕ) → contains v bit ≡ true → size (remove v bit) + 1 ≡ size v

-- clearing one that was not set changes nothing
abbrev pub RemoveKeeps : Type 0
RemoveKeeps = (v : Bits) (bit : ℕ) → contains v bit ≡ false → remove v bit ≡ v

-- a number that is written over positions of the set is read there, without the bits that have no place
abbrev pub StoredReadsBack : Type 0
StoredReadsBack = (v : Bits) (start width number : ℕ) → start + width ≤ v.length
    → number_at (store v start width number) start width ≡ number % 2 ^ width

-- what is read at positions of the set, written over them, changes nothing
abbrev pub LoadedStays : Type 0
LoadedStays = (v : Bits) (start width : ℕ) → store v start width (number_at v start width) ≡ v
