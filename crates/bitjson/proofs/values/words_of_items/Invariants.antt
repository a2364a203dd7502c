use Rattle.std.proofs.Common.{◌≡◌, map, vec_len}
use Rattle.std.specs.List.{range_with_len}
use Rattle.bitjson.specs.Form.{item_byte}
use Rattle.bitjson.specs.Bytes.{word_of}
use Rattle.bitjson.proofs.values.words_of_items.Given as goal

abbrev pub invariant-loop-index : goal.invariant-loop-index
invariant-loop-index l = record {
  words : l.words.items ≡ map (word_of (map item_byte l.items)) (range_with_len 0 l.index);
  len : vec_len l.words ≡ l.index;
}
