use Rattle.std.proofs.Common.{rules, ◌≡◌, ◌++◌, ℕ, List, drop, length, ap, ◌∙◌, arith}
use Rattle.std.specs.Vec.{with_items}
use Rattle.std.proofs.lemmas.List.{with_items_is}
use Rattle.fixedbitset.specs.Bits.{storage_words}
use Rattle.fixedbitset.proofs.Blocks.{keeps_cut, of_filled}
use Rattle.fixedbitset.proofs.Growth.{zeros}
use Rattle.fixedbitset.proofs.set.FixedBitSet.with_capacity_and_blocks.Goals as goal

pub invariant_of-result : goal.invariant_of-result
invariant_of-result g c =
    let words = c.in_ok-words.words in
    let long : length c.fill.new.words ≡ words.len = search rules steps 100000 in
    let needed : words.len ≡ storage_words c.args.bits = c.in_ok-words.ensures.len ∙ c.storage_words.ensures in
    let filled = with_items_is words c.fill.new.words long in
    let done = rw (c.deref_mut-2.ensures.value, filled) at c.clear_from.ensures in
    rw (with_items_is (with_items words c.fill.new.words) c.clear_from.new.words (done.long ∙ long))
    (keeps_cut _ c.ranges.bits.fits _ _ (long ∙ needed) done).clean

pub returns : goal.returns
returns g c =
    let words = c.in_ok-words.words in
    let long : length c.fill.new.words ≡ words.len = search rules steps 100000 in
    let needed : words.len ≡ storage_words c.args.bits = c.in_ok-words.ensures.len ∙ c.storage_words.ensures in
    let made : c.deref_mut.result.now ≡ zeros (storage_words c.args.bits) = search rules steps 800000 in
    let filled = with_items_is words c.fill.new.words long in
    let done = rw (c.deref_mut-2.ensures.value, filled) at c.clear_from.ensures in
    let run = c.fill.ensures in
    let is = run.2.2 ∙ ap (λ (old : List ℕ). run.0.items ++ drop (length run.0.items) old) made in (
      c.into_iter-items.result,
      c.into_iter-items.ensures.into_iter_gives,
      (
        run.0,
        run.1,
        (
          omega (arith, run.2.0, c.div_ceil.ensures),
          λ short. run.2.1 (omega (arith, short, c.div_ceil.ensures)),
          rw (with_items_is (with_items words c.fill.new.words) c.clear_from.new.words (done.long ∙ long))
              ((keeps_cut _ c.ranges.bits.fits _ _ (long ∙ needed) done).value ∙ of_filled _ run.0.items _ is),
        ),
      ),
    )
