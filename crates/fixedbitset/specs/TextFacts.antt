-- The text of a value, for those who print sets.
use Rattle.std.proofs.Common.{◌≡◌, ℕ, ◌<◌, if◌then◌else◌, length, get_or, arith}
use Rattle.std.proofs.lemmas.List.FromFn.{length-map-range_with_len, get_or-map-range_with_len}
use Rattle.fixedbitset.specs.Bits.{Bits, contains}
use Rattle.fixedbitset.specs.Text.{digit, text}

-- one character for each position
pub length-text : (v : Bits) → length (text v) ≡ v.length
unfolding text
length-text v = length-map-range_with_len (digit v) 0 v.length

-- that of position p tells whether p is set: 49 is `1`, and 48 is `0`
pub get_or-text : (v : Bits) (p : ℕ) → p < v.length → get_or (text v) p 0 ≡ (if contains v p then 49 else 48)
unfolding text
get_or-text v p h = get_or-map-range_with_len (digit v) 0 v.length p p 0 h (omega arith)
