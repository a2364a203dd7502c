use Rattle.std.proofs.Common.{◌*◌, ◌∙◌, length, rules, arith}
use Rattle.bitwords.specs.CountFacts.{count-le}
use Rattle.bitwords.specs.Rows.{has_bit}
use Rattle.bitwords.specs.WalkedWords.{beside}
use Rattle.bitwords.proofs.CountedLeft.{count-beside, beside-steps, beside-exact}
use Rattle.bitwords.proofs.cursors.count_beside.Goals as goal

pub count-requires : goal.count-requires
count-requires g c =
    let words = c.args.words.now in
    record {
      fits =
          omega (
            arith,
            c.requires,
            count-beside g.met.O.WordOp.laws words c.args.other.now (λ k. search rules) (λ k. search rules)
                c.min-common.result c.min-common.ensures,
            count-le (has_bit (beside g.O.WordOp.joined words c.args.other.now)) (64 * length words),
          );
    }

pub returns-clause-count : goal.returns-clause-count
returns-clause-count g c =
    c.count.ensures.count
    ∙ count-beside g.met.O.WordOp.laws c.args.words.now c.args.other.now (λ k. search rules) (λ k. search rules)
    c.min-common.result c.min-common.ensures

pub returns-clause-cost : goal.returns-clause-cost
returns-clause-cost g c =
    omega (
      arith,
      c.count.ensures.cost,
      beside-steps g.O.WordOp.KEEP g.O.WordOp.TAKE (length c.args.words.now) c.min-common.result c.args.other.now
          c.min-common.ensures,
    )

pub returns-clause-exact : goal.returns-clause-exact
returns-clause-exact g c =
    omega (
      arith,
      c.count.ensures.cost,
      beside-exact g.O.WordOp.KEEP g.O.WordOp.TAKE (length c.args.words.now) c.min-common.result c.args.other.now
          c.min-common.ensures,
    )
