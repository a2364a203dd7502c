use Rattle.std.proofs.Common.{◌∙◌, ◌++◌, length, ap, arith}
use Rattle.fixedbitset.specs.Bits.{Bits, of_words}
use Rattle.fixedbitset.specs.WordsFacts.{length-of_words}
use Rattle.fixedbitset.proofs.Positions.{length-split_items}
use Rattle.fixedbitset.proofs.views.Bits.symmetric_difference.Goals as goal

pub returns-clause-fits : goal.returns-clause-fits
returns-clause-fits c =
    let v : Bits = of_words c.args.self.length c.args.self.words.now in
    let w : Bits = of_words c.args.other.length c.args.other.words.now in
    let one = ap (λ walk. walk.items) c.of.ensures.first ∙ c.difference.ensures.items in
    let two = ap (λ walk. walk.items) c.of.ensures.second ∙ c.difference-2.ensures.items in
    omega (
      arith,
      ap length (λ i. one i ++ two i),
      length-split_items v w,
      length-of_words c.args.self.length c.args.self.words.now,
      length-of_words c.args.other.length c.args.other.words.now,
      c.args.self.clean.fits,
      c.args.other.clean.fits,
    )
