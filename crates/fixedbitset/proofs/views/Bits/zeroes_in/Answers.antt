use Rattle.std.proofs.Common.{refl, arith}
use Rattle.fixedbitset.specs.Bits.{of_words}
use Rattle.fixedbitset.specs.WordsFacts.{length-of_words}
use Rattle.fixedbitset.proofs.Words.{valid_range}
use Rattle.fixedbitset.proofs.Positions.{zeroes-within}
use Rattle.fixedbitset.proofs.views.Bits.zeroes_in.Goals as goal

pub zeroes_within-requires-clause-within : goal.zeroes_within-requires-clause-within
zeroes_within-requires-clause-within c =
    omega (
      arith,
      valid_range (of_words c.args.self.length c.args.self.words.now) _ _ c.requires,
      length-of_words,
      c.as_slice.ensures.count,
    )

pub returns-clause-items : goal.returns-clause-items
returns-clause-items c = rw (c.zeroes_within.ensures, c.as_slice.ensures.value) (zeroes-within _ _ _ c.requires)

pub returns-clause-words : goal.returns-clause-words
returns-clause-words c = rw (c.zeroes_within.ensures, c.as_slice.ensures.value) refl
