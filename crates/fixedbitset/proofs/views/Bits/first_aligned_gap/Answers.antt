use Rattle.std.proofs.Common.{◌∙◌, refl, arith, rules}
use Rattle.fixedbitset.proofs.Gaps.{same_aligned_gap}
use Rattle.fixedbitset.proofs.Words.{valid_range, of_length, reaches}
use Rattle.fixedbitset.specs.Bits.{of_words}
use Rattle.fixedbitset.proofs.views.Bits.first_aligned_gap.Goals as goal

pub returns-clause-gap : goal.returns-clause-gap
returns-clause-gap c =
    c.first_aligned.ensures.gap
    ∙ same_aligned_gap c.args.self.length c.args.self.words.now c.args.count c.args.align c.args.start c.args.end
    (omega (
      arith,
      (valid_range (of_words c.args.self.length c.args.self.words.now) c.args.start c.args.end c.requires).1,
      of_length c.args.self.length c.args.self.words.now,
    ))

pub first_aligned-requires : goal.first_aligned-requires
first_aligned-requires c = reaches _ _ _ refl c.args.self.clean _ _ c.requires

pub returns-clause-least : goal.returns-clause-least
returns-clause-least c = search rules steps 100000

pub returns-clause-grows : goal.returns-clause-grows
returns-clause-grows c = search rules steps 100000
