-- The text of a set: one character for each position below its length, from position 0 on.
use Rattle.std.specs.Prelude.{ℕ, Bool, if◌then◌else◌, List, [], ◌++◌, map, codes}
use Rattle.std.specs.List.{range_with_len}
use Rattle.fixedbitset.specs.Bits.{Bits, contains}

-- the character of a position: 49 is `1`, where it is set, and 48 is `0`
abbrev pub digit : Bits → ℕ → ℕ
digit v p = if contains v p then 49 else 48

-- the characters of all positions, that of position 0 first
unfoldable pub text : Bits → List ℕ
text v = map (digit v) (range_with_len 0 v.length)

-- what stands in front: `0b` where the alternate form is asked for
abbrev pub prefix : Bool → List ℕ
prefix alternate = if alternate then codes "0b" else []

-- the characters with what stands in front
abbrev pub styled_text : Bool → Bits → List ℕ
styled_text alternate v = prefix alternate ++ text v
