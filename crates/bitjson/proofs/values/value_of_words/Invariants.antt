use Rattle.std.proofs.Common.{◌≡◌, map}
use Rattle.std.specs.List.{range_with_len}
use Rattle.serde_json.specs.Data.{number, unsigned}
use Rattle.serde_json.specs.View.{view}
use Rattle.bitjson.specs.Bytes.{byte_of}
use Rattle.bitjson.proofs.values.value_of_words.Given as goal

-- an item for each byte so far
abbrev pub invariant-loop-index : goal.invariant-loop-index
invariant-loop-index l =
    map view l.data.items ≡ map (λ j. number (unsigned (byte_of l.words j))) (range_with_len 0 l.index)
