use Rattle.std.proofs.Common.{arith, refl, rules}
use Rattle.fixedbitset.specs.Bits.{of_words}
use Rattle.fixedbitset.proofs.JoinedCounts.{count_range-is}
use Rattle.fixedbitset.proofs.Words.{reaches, valid_range}
use Rattle.fixedbitset.proofs.views.Bits.count_in.Goals as goal

pub count-requires-clause-order : goal.count-requires-clause-order
count-requires-clause-order g c =
    (valid_range (of_words c.args.self.length c.args.self.words.now) _ _ c.requires.valid).0

pub count-requires-clause-within : goal.count-requires-clause-within
count-requires-clause-within g c = reaches _ _ _ refl c.args.self.clean _ _ c.requires.valid

pub returns-clause-count : goal.returns-clause-count
returns-clause-count g c =
    omega (
      arith,
      c.count.ensures.count,
      count_range-is g.met.O.WordOp.laws c.requires.drops _ _ c.args.self.clean _ _ c.requires.valid,
    )

pub returns-clause-cost : goal.returns-clause-cost
returns-clause-cost g c = search rules steps 100000
