use Rattle.std.proofs.Common.{◌∙◌, refl}
use Rattle.fixedbitset.specs.Bits.{of_words}
use Rattle.fixedbitset.proofs.JoinedCounts.{count_range-is, part_is_none}
use Rattle.fixedbitset.proofs.Words.{reaches, valid_range}
use Rattle.fixedbitset.proofs.views.Bits.none_in.Goals as goal

pub none-requires-clause-order : goal.none-requires-clause-order
none-requires-clause-order g c =
    (valid_range (of_words c.args.self.length c.args.self.words.now) _ _ c.requires.valid).0

pub none-requires-clause-within : goal.none-requires-clause-within
none-requires-clause-within g c = reaches _ _ _ refl c.args.self.clean _ _ c.requires.valid

pub returns-clause-none : goal.returns-clause-none
returns-clause-none g c =
    c.none.ensures.none
    ∙ part_is_none _ _ _
    (count_range-is g.met.O.WordOp.laws c.requires.drops _ _ c.args.self.clean _ _ c.requires.valid)
