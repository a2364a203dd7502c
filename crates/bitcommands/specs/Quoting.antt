-- No public clause cites this module.
-- What stands in the quotes of JSON for each byte of a text.
use Rattle.std.specs.Prelude.{◌≡◌, ℕ, List, [], ◌∷◌, ◌++◌, refl}
use Rattle.std.specs.Char.{encode_utf8}
use Rattle.std.specs.List.{flat_map}
use Rattle.serde_json.specs.Data.{string}
use Rattle.serde_json.specs.Written.{compact_text}

-- the text of a string is made of its bytes one by one, between quotes
unfoldable pub quoting : (escape : ℕ → List ℕ)
    × ((s : List ℕ) → compact_text (string s) ≡ 34 ∷ (flat_map escape s ++ 34 ∷ []))
quoting = (_, λ s. refl)

-- what stands there for a byte
unfoldable pub escaped : ℕ → List ℕ
escaped = quoting.0

-- what stands there for a character
abbrev pub in_quotes : ℕ → List ℕ
in_quotes c = flat_map escaped (encode_utf8 c)
