use Rattle.std.proofs.Common.{refl, sym, ap, ◌∙◌, length, arith}
use Rattle.bitlanes.specs.BitLaws.{laws_of_without}
use Rattle.bitlanes.specs.Bits.{bit_without}
use Rattle.bitwords.specs.BesideFacts.{length-beside}
use Rattle.bitwords.specs.RowFacts.{AreWords}
use Rattle.bitwords.specs.Walk.{between_ends}
use Rattle.fixedbitset.specs.Bits.{Bits, of_words, words_needed}
use Rattle.fixedbitset.specs.BitsFacts.{contains-past}
use Rattle.fixedbitset.specs.TwoSets.{difference}
use Rattle.fixedbitset.specs.TwoSetsFacts.{length-difference, contains-difference}
use Rattle.fixedbitset.specs.WordsFacts.{length-words, has_bit-words, are_words}
use Rattle.fixedbitset.proofs.Positions.{asc-beside, beside-words}
use Rattle.fixedbitset.proofs.Words.{has_bit-of}
use Rattle.fixedbitset.proofs.views.Bits.difference.Goals as goal

pub over-requires : goal.over-requires
over-requires c =
    omega (
      arith,
      c.args.self.clean.fits,
      c.as_slice-words.ensures.count,
      ap length c.of.ensures.words,
      length-beside bit_without c.of.result.plain.words.rest.now c.of.result.other.now,
    )

pub returns-clause-items : goal.returns-clause-items
returns-clause-items c =
    let v : Bits = of_words c.args.self.length c.args.self.words.now in
    let w : Bits = of_words c.args.other.length c.args.other.words.now in
    let has = has_bit-of c.args.other.length c.args.other.words.now _ refl c.args.other.clean in
    let other : AreWords c.args.other.words.now = rw c.all-other.ensures.same at c.all-other.ensures.words in
    rw (
      c.over.ensures,
      c.of.ensures.words,
      c.of.ensures.other,
      c.as_slice-words.ensures.value,
      c.all-other.ensures.same,
    )
    (asc-beside laws_of_without refl v w (difference v w) (contains-difference v w) _ c.args.other.words.now
    (are_words v) other (λ p _. has_bit-words v p) has
    (λ p past. contains-past (difference v w) p (omega (arith, past, length-words v, length-difference v w))))

pub returns-clause-words : goal.returns-clause-words
returns-clause-words c =
    let v : Bits = of_words c.args.self.length c.args.self.words.now in
    let w : Bits = of_words c.args.other.length c.args.other.words.now in
    let has = has_bit-of c.args.other.length c.args.other.words.now _ refl c.args.other.clean in
    let other : AreWords c.args.other.words.now = rw c.all-other.ensures.same at c.all-other.ensures.words in
    rw (
      c.over.ensures,
      c.of.ensures.words,
      c.of.ensures.other,
      c.as_slice-words.ensures.value,
      c.all-other.ensures.same,
    )
    (ap between_ends (beside-words laws_of_without refl v w (difference v w) (contains-difference v w) _
    c.args.other.words.now (are_words v) other
    (length-words v ∙ ap words_needed (sym (length-difference v w))) (λ p _. has_bit-words v p) has))
