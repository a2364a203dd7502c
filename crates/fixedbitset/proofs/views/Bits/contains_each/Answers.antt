use Rattle.std.proofs.Common.{◌∙◌, ap, arith}
use Rattle.std.proofs.Math.ListN.{set}
use Rattle.fixedbitset.specs.Bits.{contains}
use Rattle.fixedbitset.specs.Mapped.{more_mapped}
use Rattle.fixedbitset.specs.Views.{value}
use Rattle.fixedbitset.proofs.views.Bits.contains_each.Goals as goal

pub loop-index-preserved : goal.loop-index-preserved
loop-index-preserved c =
    let index = c.loop-index.index in
    ap (set c.loop-index.answers index) c.contains.ensures
    ∙ more_mapped (contains (value c.args.self)) c.args.positions.now c.args.answers.now c.loop-index.answers index 0
    (omega arith) c.loop-index-test.true c.loop-index.invariant
