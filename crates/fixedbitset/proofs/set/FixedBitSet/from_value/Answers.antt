use Rattle.std.proofs.Common.{rules, ◌≡◌, ◌<◌, ◌^◌, Ok, map, ap, ◌∙◌, sym}
use Rattle.std.specs.List.{range_with_len}
use Rattle.serde_json.specs.View.{view}
use Rattle.bitjson.specs.Form.{form, item_byte, ◌>>=◌}
use Rattle.bitjson.specs.FormFacts.{item_bytes_lt}
use Rattle.bitjson.specs.Bytes.{word_of}
use Rattle.fixedbitset.specs.Bits.{storage_words}
use Rattle.fixedbitset.specs.Json.{of_bytes}
use Rattle.fixedbitset.proofs.Texts.{keeps_vec}
use Rattle.fixedbitset.proofs.set.FixedBitSet.from_value.Goals as goal

pub invariant_of-result : goal.invariant_of-result
invariant_of-result c =
    let done = rw c.deref_mut.ensures.value at c.clear_from.ensures in
    let fits : c.in_ok-length.length < 2 ^ 64 = search rules in
    let made : c.in_ok-words.words.items ≡ map (word_of (map item_byte c.in_ok-length.items.now))
    (range_with_len 0 (storage_words c.in_ok-length.length)) = search rules in
    (keeps_vec _ (item_bytes_lt c.in_ok-length.items.now) _ fits c.in_ok-words.words _ made done).clean

pub returns-clause-ok : goal.returns-clause-ok
returns-clause-ok c =
    let done = rw c.deref_mut.ensures.value at c.clear_from.ensures in
    let fits : c.in_ok-length.length < 2 ^ 64 = search rules in
    let read : form (view c.args.value.now) ≡ Ok (c.in_ok-length.length, map item_byte c.in_ok-length.items.now) =
    search rules in
    let made : c.in_ok-words.words.items ≡ map (word_of (map item_byte c.in_ok-length.items.now))
    (range_with_len 0 (storage_words c.in_ok-length.length)) = search rules in
    ap (λ r. r >>= λ f. Ok (of_bytes f.0 f.1)) read
    ∙ ap Ok (sym ((keeps_vec _ (item_bytes_lt c.in_ok-length.items.now) _ fits c.in_ok-words.words _ made done).value))
