use Rattle.std.proofs.Common.{sym, ◌∙◌}
use Rattle.std.specs.Slice.Iter.{iter_rest}
use Rattle.bitwords.specs.BesideFacts.{length-beside}
use Rattle.bitwords.proofs.cursors.BesideMiddle.left.Goals as goal

pub returns : goal.returns
returns g c =
    c.left.ensures
    ∙ sym (length-beside g.O.WordOp.joined (iter_rest c.args.self.now.plain.words) c.args.self.now.other.now)
