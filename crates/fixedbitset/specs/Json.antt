-- The JSON form of a set: its length, and bytes that have eight positions each, the lowest position in the lowest bit.
use Rattle.std.specs.Prelude.{ℕ, ◌*◌, ◌/◌, ◌%◌, List, map, Result, Ok, slice_index, codes, decimal, ◌++◌}
use Rattle.std.specs.List.{join_with_byte, range_with_len}
use Rattle.serde_json.specs.Data.{Data}
use Rattle.bitlanes.specs.Bits.{bit}
use Rattle.bitjson.specs.Form.{form, object_of, ◌>>=◌}
use Rattle.bitjson.specs.declared.fault.JsonFault.{JsonFault}
use Rattle.fixedbitset.specs.Bits.{Bits, having, number_at, words_needed}

-- length n, and the positions p below it for which bit p mod 8 of byte p / 8 is
-- set (past the last byte `slice_index` is 0)
unfoldable pub of_bytes : ℕ → List ℕ → Bits
of_bytes n bs = having n (λ p. bit (slice_index bs (p / 8)) (p % 8))

-- the length of a value in the form, or the first error
abbrev pub length_of : Data → Result ℕ JsonFault
length_of d = form d >>= λ f. Ok f.0

-- what a value in the form means, or the first error
abbrev pub meaning : Data → Result Bits JsonFault
meaning d = form d >>= λ f. Ok (of_bytes f.0 f.1)

-- byte j: the sum of 2 ^ (p - 8 j) over the positions p with 8 j ≤ p < 8 j + 8
abbrev pub byte : Bits → ℕ → ℕ
byte v j = number_at v (8 * j) 8

-- the bytes, the first 8 positions first: eight for each word that the length needs
unfoldable pub bytes : Bits → List ℕ
bytes v = map (byte v) (range_with_len 0 (8 * words_needed v.length))

-- what is written: the object with the length and the bytes
unfoldable pub written : Bits → Data
written v = object_of v.length (bytes v)

-- its text without spaces
unfoldable pub json_text : Bits → List ℕ
json_text v =
    codes
    "{\"data\":["
    ++ (join_with_byte 44 (map decimal (bytes v)) ++ (codes "],\"length\":" ++ (decimal v.length ++ codes "}")))
