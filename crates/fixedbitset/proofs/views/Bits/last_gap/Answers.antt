use Rattle.std.proofs.Common.{◌∙◌, ap, arith}
use Rattle.bitwords.specs.Gaps.{last_room, last_steps}
use Rattle.bitwords.specs.Rows.{has_bit}
use Rattle.fixedbitset.specs.Bits.{contains, of_words}
use Rattle.fixedbitset.proofs.Gaps.{same_last_gap, same_last_steps}
use Rattle.fixedbitset.proofs.views.Bits.last_gap.Goals as goal

pub returns-clause-gap : goal.returns-clause-gap
returns-clause-gap c =
    c.last.ensures.gap
    ∙ ap (λ stop. last_room (has_bit c.args.self.words.now) stop c.args.count) c.min.ensures
    ∙ same_last_gap c.args.self.length c.args.self.words.now c.args.count c.args.below

pub returns-clause-cost : goal.returns-clause-cost
returns-clause-cost c =
    omega (
      arith,
      c.last.ensures.cost,
      same_last_steps c.args.self.length c.args.self.words.now c.min.result c.args.self.clean,
      ap (last_steps (contains (of_words c.args.self.length c.args.self.words.now))) c.min.ensures,
    )
