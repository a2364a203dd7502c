-- Words of eight bytes, of which the lowest is the first.
use Rattle.std.specs.Prelude.{ℕ, ◌+◌, ◌*◌, ◌/◌, ◌%◌, ◌^◌, List, length, map, slice_index}
use Rattle.std.specs.Int.{from_le_bytes, w64}
use Rattle.std.specs.List.{range_with_len}

-- word k of bytes: that of the eight from byte 8 k on (past the last byte `slice_index` is 0)
unfoldable pub word_of : List ℕ → ℕ → ℕ
word_of bs k = from_le_bytes w64 (map (λ i. slice_index bs (8 * k + i)) (range_with_len 0 8))

-- byte j of words: that at bit 8 (j mod 8) of word j / 8
abbrev pub byte_of : List ℕ → ℕ → ℕ
byte_of ws j = slice_index ws (j / 8) / 2 ^ (8 * (j % 8)) % 256

-- all bytes of words
unfoldable pub bytes_of : List ℕ → List ℕ
bytes_of ws = map (byte_of ws) (range_with_len 0 (8 * length ws))
