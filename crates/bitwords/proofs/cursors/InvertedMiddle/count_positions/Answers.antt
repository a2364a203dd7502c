use Rattle.std.proofs.Common.{◌*◌, ◌∙◌, sym, ap, map}
use Rattle.std.specs.Int.{bit_not, w64}
use Rattle.std.specs.Slice.Iter.{iter_rest}
use Rattle.std.proofs.lemmas.List.{length-map}
use Rattle.bitwords.specs.Rows.{has_bit, count_below}
use Rattle.bitwords.proofs.cursors.InvertedMiddle.count_positions.Goals as goal

pub returns-clause-count : goal.returns-clause-count
returns-clause-count c =
    let counted = rw c.as_slice.ensures.value at c.count_lacking.ensures.count in
    counted
    ∙ ap (λ n. count_below (has_bit (map (bit_not w64) (iter_rest c.args.self.plain.words))) (64 * n))
    (sym (length-map (iter_rest c.args.self.plain.words) (bit_not w64)))
