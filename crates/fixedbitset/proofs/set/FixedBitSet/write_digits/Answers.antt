use Rattle.std.proofs.Common.{◌≡◌, ◌+◌, ◌-◌, ◌*◌, ◌<◌, get_or, length, ◌++◌, arith, refl, ap, ◌∙◌, rules}
use Rattle.std.proofs.Output.{has_written_styled_append, has_written_styled_of_eq}
use Rattle.fixedbitset.specs.Bits.{word, words, words_needed}
use Rattle.fixedbitset.specs.WordsFacts.{get_or-words, length-words}
use Rattle.fixedbitset.proofs.Texts.{AreDigits, characters, digits_are_text}
use Rattle.fixedbitset.proofs.Texts.{characters_of_word, characters-append, text_is}
use Rattle.fixedbitset.proofs.set.FixedBitSet.write_digits.Goals as goal

pub text_of-requires : goal.text_of-requires
text_of-requires g c =
    let d : AreDigits (get_or c.as_slice-word-items.result.now c.loop-word.word-index 0) c.put_digits.new.digits =
    record { count = c.put_digits.array_long; bits = c.put_digits.ensures } in
    digits_are_text _ _ d c.min-count.result (omega arith)

pub loop-word-preserved : goal.loop-word-preserved
loop-word-preserved g c =
    let v = c.args.self.now in
    let k = c.loop-word.word-index in
    let count = c.min-count.result in
    let same : c.as_slice-word-items.result.now ≡ words v = c.as_slice-word-items.ensures in
    let long : length c.as_slice-word-items.result.now ≡ words_needed v.length = ap length same ∙ length-words v in
    let inside : k < words_needed v.length = omega arith in
    let read : get_or c.as_slice-word-items.result.now k 0 ≡ word v k = ap (λ ws. get_or ws k 0) same
    ∙ get_or-words v k inside in
    let digits : AreDigits (word v k) c.put_digits.new.digits =
    record { count = c.put_digits.array_long; bits = rw read at c.put_digits.ensures } in
    let text : c.text_of.result.now ≡ characters v (64 * k) count = c.text_of.ensures
    ∙ characters_of_word v k count _ (omega arith) digits in
    let before : v.length - c.loop-word.left ≡ 64 * k = omega arith in
    let after : 64 * k + count ≡ v.length - (c.loop-word.left - count) = omega arith in
    record {
      left = omega arith;
      written = λ flush.
          let so_far = c.loop-word.invariant.written flush in
          has_written_styled_of_eq _ _ _ _ _ (ap (λ n. characters v 0 n ++ c.text_of.result.now) before
          ∙ ap (λ t. characters v 0 (64 * k) ++ t) text ∙ characters-append v (64 * k) count _ after)
          (has_written_styled_append _ _ _ _ _ _ so_far (c.in_ok-write_str.ensures.styled so_far.flush refl));
    }

pub returns : goal.returns
returns g c = λ flush _.
    let v = c.args.self.now in
    let long : length c.as_slice-word-items.result.now ≡ words_needed v.length = ap length c.as_slice-word-items.ensures
    ∙ length-words v in
    let done : v.length - c.loop-word.left ≡ v.length = omega arith in
    has_written_styled_of_eq _ _ _ _ _ (text_is v _ done) (c.loop-word.invariant.written flush)

pub loop-word-init : goal.loop-word-init
loop-word-init g c = search rules steps 800000
