use Rattle.std.proofs.Common.{rules, ◌≡◌, map}
use Rattle.std.specs.List.{range_with_len}
use Rattle.bitjson.specs.Bytes.{word_of}
use Rattle.fixedbitset.specs.Bits.{storage_words}
use Rattle.fixedbitset.proofs.Texts.{keeps_vec}
use Rattle.fixedbitset.proofs.set.FixedBitSet.from_bytes.Goals as goal

pub invariant_of-result : goal.invariant_of-result
invariant_of-result c =
    let done = rw c.deref_mut.ensures.value at c.clear_from.ensures in
    let made : c.in_ok-words.words.items
    ≡ map (word_of c.args.source.now) (range_with_len 0 (storage_words c.args.bits)) = search rules in
    (keeps_vec c.args.source.now (λ j. search rules) _ c.ranges.bits.fits c.in_ok-words.words _ made done).clean

pub returns : goal.returns
returns c =
    let done = rw c.deref_mut.ensures.value at c.clear_from.ensures in
    let made : c.in_ok-words.words.items
    ≡ map (word_of c.args.source.now) (range_with_len 0 (storage_words c.args.bits)) = search rules in
    (keeps_vec c.args.source.now (λ j. search rules) _ c.ranges.bits.fits c.in_ok-words.words _ made done).value
