use Rattle.std.proofs.Common.{◌*◌, ◌∙◌, sym, ap, arith}
use Rattle.std.specs.Slice.Iter.{iter_rest}
use Rattle.bitwords.specs.BesideFacts.{length-beside}
use Rattle.bitwords.specs.Rows.{has_bit, count_below}
use Rattle.bitwords.specs.WalkedWords.{beside}
use Rattle.bitwords.proofs.cursors.BesideMiddle.count_positions.Goals as goal

pub returns-clause-count : goal.returns-clause-count
returns-clause-count g c =
    let words = iter_rest c.args.self.plain.words in
    let other = c.args.self.other.now in
    let counted = rw c.as_slice.ensures.value at c.count_beside.ensures.count in
    counted
    ∙ ap (λ n. count_below (has_bit (beside g.O.WordOp.joined words other)) (64 * n))
    (sym (length-beside g.O.WordOp.joined words other))

pub count_beside-requires : goal.count_beside-requires
count_beside-requires g c =
    omega (
      arith,
      c.requires,
      length-beside g.O.WordOp.joined (iter_rest c.args.self.plain.words) c.args.self.other.now,
    )

pub returns-clause-cost : goal.returns-clause-cost
returns-clause-cost g c =
    omega (
      arith,
      c.count_beside.ensures.cost,
      length-beside g.O.WordOp.joined (iter_rest c.args.self.plain.words) c.args.self.other.now,
    )
