-- What a contract sees of an iterator over a set.
use Rattle.std.specs.Prelude.{ℕ, List, map}
use Rattle.std.specs.Int.{bit_not, w64}
use Rattle.bitwords.specs.Walk.{Walk, between_ends, range_cut}
use Rattle.fixedbitset.specs.Bits.{Bits, asc, complement, words}
use Rattle.fixedbitset.specs.Ranges.{within}

-- the iterator over the positions of v, before its first call
abbrev pub begun : Bits → Walk
begun v = record { items = asc v; words = between_ends (words v); turns = 0; taken = 0 }

-- the positions of the range that are set, in ascending order
abbrev pub ones_of : Bits → (start end : ℕ) → List ℕ
ones_of v start end = asc (within v start end)

-- the positions of the range that are not set, in ascending order
abbrev pub zeroes_of : Bits → (start end : ℕ) → List ℕ
zeroes_of v start end = asc (within (complement v) start end)

-- the words that hold positions of the range, but for the first and the last
abbrev pub words_of : Bits → (start end : ℕ) → List ℕ
words_of v start end = between_ends (range_cut start end (words v))

-- the same of the inverted words
abbrev pub zero_words_of : Bits → (start end : ℕ) → List ℕ
zero_words_of v start end = between_ends (range_cut start end (map (bit_not w64) (words v)))
