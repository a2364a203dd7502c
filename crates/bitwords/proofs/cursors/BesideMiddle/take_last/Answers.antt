use Rattle.std.proofs.Common.{arith}
use Rattle.std.specs.Slice.Iter.{iter_rest}
use Rattle.bitwords.specs.BesideFacts.{beside-push}
use Rattle.bitwords.proofs.cursors.BesideMiddle.take_last.Goals as goal

pub returns : goal.returns
returns g c =
    grind (
      arith,
      beside-push g.O.WordOp.joined (iter_rest c.take_last.new.self.words) c.in_ok-word.word c.args.self.now.other.now,
    )
