use Rattle.std.proofs.Common.{ℕ, ◌≡◌, ◌<◌, ◌*◌, ap, ◌∙◌, refl, length, take, arith}
use Rattle.std.proofs.lemmas.List.{length-take}
use Rattle.std.specs.Prelude.{bit_and}
use Rattle.bitlanes.specs.BitLaws.{laws_of_and}
use Rattle.bitwords.specs.BesideFacts.{length-beside}
use Rattle.bitwords.specs.Rows.{has_bit}
use Rattle.bitwords.specs.Walk.{between_ends}
use Rattle.fixedbitset.specs.Bits.{Bits, contains, of_words, words, words_needed}
use Rattle.fixedbitset.specs.BitsFacts.{contains-past}
use Rattle.fixedbitset.specs.BlocksFacts.{has_bit-take}
use Rattle.fixedbitset.specs.TwoSets.{intersection, bitand}
use Rattle.fixedbitset.specs.TwoSetsFacts.{contains-intersection, length-bitand, contains-bitand}
use Rattle.fixedbitset.specs.WordsFacts.{length-words, has_bit-words, are_words}
use Rattle.fixedbitset.proofs.Positions.{asc-beside, beside-words}
use Rattle.fixedbitset.proofs.Words.{are_words-take}
use Rattle.fixedbitset.proofs.views.Bits.intersection.Goals as goal

pub over-requires : goal.over-requires
over-requires c =
    let used = c.as_slice-words in
    omega (
      arith,
      c.args.self.clean.fits,
      used.ensures.count,
      ap length c.of.ensures.words,
      length-take c.min-shared.result used.result.now,
      length-beside bit_and c.of.result.plain.words.rest.now c.of.result.other.now,
    )

-- the first words of a value have its positions
has_bit-first : (k : ℕ) (v : Bits) (p : ℕ) → p < 64 * length (take k (words v))
    → has_bit (take k (words v)) p ≡ contains v p
has_bit-first k v p below =
    has_bit-take (64 * k) k p (words v) (omega arith) (omega (arith, below, length-take k (words v)))
    ∙ has_bit-words v p

pub returns-clause-items : goal.returns-clause-items
returns-clause-items c =
    let v : Bits = of_words c.args.self.length c.args.self.words.now in
    let w : Bits = of_words c.args.other.length c.args.other.words.now in
    let k : ℕ = c.min-shared.result in
    let long = length-take k (words v) in
    let shared = c.min-shared.ensures in
    let value = c.as_slice-words.ensures.value in
    let other = c.as_slice-other.ensures.value in
    rw (c.over.ensures, c.of.ensures.words, c.of.ensures.other, value, other)
    (asc-beside laws_of_and refl v w (intersection v w) (contains-intersection v w) (take k (words v)) (words w)
    (are_words-take k (words v) (are_words v)) (are_words w)
    (has_bit-first k v) (has_bit-words w)
    (λ p past.
    grind (
      arith,
      past,
      long,
      shared,
      ap length value,
      ap length other,
      length-words v,
      length-words w,
      contains-intersection v w p,
      contains-past v p,
      contains-past w p,
    ) steps 100000))

pub returns-clause-words : goal.returns-clause-words
returns-clause-words c =
    let v : Bits = of_words c.args.self.length c.args.self.words.now in
    let w : Bits = of_words c.args.other.length c.args.other.words.now in
    let k : ℕ = c.min-shared.result in
    let long = length-take k (words v) in
    let shared = c.min-shared.ensures in
    let value = c.as_slice-words.ensures.value in
    let other = c.as_slice-other.ensures.value in
    let count : length (take k (words v)) ≡ words_needed (bitand v w).length =
    omega (arith, long, shared, ap length value, ap length other, length-words v, length-words w, length-bitand v w) in
    rw (c.over.ensures, c.of.ensures.words, c.of.ensures.other, value, other)
    (ap between_ends (beside-words laws_of_and refl v w (bitand v w) (contains-bitand v w) (take k (words v)) (words w)
    (are_words-take k (words v) (are_words v)) (are_words w)
    count (has_bit-first k v) (has_bit-words w)))
