-- The JSON value of a text, by whether it is UTF-8, and of words.
use Rattle.std.proofs.Common.{arith, ◌≡◌, ℕ, List, [], Some, None, cond, ap, ◌∙◌}
use Rattle.std.specs.Str.{IsUtf8}
use Rattle.std.proofs.lemmas.Str.{is_utf8-from_IsUtf8, IsUtf8-from_is_utf8}
use Rattle.std.proofs.lemmas.List.Splits.{join_with_byte-slice_split}
use Rattle.serde_json.specs.Data.{Data}
use Rattle.serde_json.specs.Read.{read}
use Rattle.serde_json.proofs.OnLiterals.{serde_json_on_literals}
use Rattle.bitlines.specs.Words.{words}
use Rattle.bitlines.specs.Arguments.{json_of, json_at}

pub read_here : (text : List ℕ) (d : Data) → IsUtf8 text → read text ≡ Some d → json_of text ≡ Some d
unfolding json_of
read_here text d utf8 e = ap (λ b. cond b (read text) None) (is_utf8-from_IsUtf8 text utf8) ∙ e

pub not_read_here : (text : List ℕ) → (IsUtf8 text → read text ≡ None) → json_of text ≡ None
unfolding json_of
not_read_here text h = grind (arith, h, IsUtf8-from_is_utf8 text)

-- the words of a text, with the spaces between them, are the text
pub json_at_words : (text : List ℕ) → json_at (words text) ≡ json_of text
unfolding json_at
json_at_words text = ap json_of (join_with_byte-slice_split 32 text)

-- no word gives no value
pub json_at_none : json_at [] ≡ None
unfolding json_at json_of serde_json_on_literals
json_at_none = grind arith
