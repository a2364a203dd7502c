use Rattle.std.proofs.Common.{◌≡◌, ◌*◌, ap, ◌∙◌, length}
use Rattle.bitwords.specs.Ascending.{ascending}
use Rattle.bitwords.specs.Rows.{has_bit}
use Rattle.bitwords.proofs.OnesFrom.{ones_from-same, ones_from-row}
use Rattle.bitwords.proofs.Left.{length-row}
use Rattle.bitwords.proofs.cursors.Cursor.over.Goals as goal

pub returns : goal.returns
returns g c =
    let ends = c.ends_of-ends.result in
    let words = g.M.Middle.words c.args.words in
    let made = c.placed.ensures in
    let items : c.placed.result.items ≡ ascending (has_bit words) 0 (64 * length words) =
    ap (λ walk. walk.items) made
    ∙ ones_from-same 0 _ words (length-row _ _ ends.front ends.back c.ends_of-ends.ensures.middle)
    c.ends_of-ends.ensures.bits ∙ ones_from-row words in
    let middle = ap (λ walk. walk.words) made ∙ c.ends_of-ends.ensures.middle in
    λ i. record { items = items i; words = middle i; turns = (made i).turns; taken = (made i).taken }
