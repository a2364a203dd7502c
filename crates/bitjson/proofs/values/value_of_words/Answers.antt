use Rattle.std.proofs.Common.{◌≡◌, ◌*◌, rules, length}
use Rattle.std.specs.List.{range_with_len}
use Rattle.std.proofs.lemmas.Simd.{map-map}
use Rattle.serde_json.specs.Data.{number, unsigned}
use Rattle.bitjson.specs.Form.{object_of}
use Rattle.bitjson.specs.Bytes.{bytes_of, byte_of}
use Rattle.bitjson.proofs.values.value_of_words.Goals as goal

pub returns : goal.returns
unfolding bytes_of object_of
returns c =
    let ws = c.args.words.now in
    let all : c.loop-index.index ≡ 8 * length ws = search rules in
    cc (
      c.in_ok-value.ensures,
      c.loop-index.invariant,
      all,
      map-map (λ n. number (unsigned n)) (byte_of ws) (range_with_len 0 (8 * length ws)),
    )
