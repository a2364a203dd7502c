use Rattle.std.proofs.Common.{◌∙◌, ap, get_or, arith}
use Rattle.std.proofs.Math.ListN.{set}
use Rattle.std.proofs.lemmas.Nat.{and_mask}
use Rattle.fixedbitset.specs.Mapped.{more_mapped}
use Rattle.bits_c.specs.Walks.{low32}
use Rattle.bits_c.proofs.handfuls.narrow.Goals as goal

pub loop-index-preserved : goal.loop-index-preserved
loop-index-preserved c =
    let items = c.args.positions.now in
    let index = c.loop-index.index in
    ap (set c.loop-index.places index) (and_mask (get_or items index 0) 32)
    ∙ more_mapped low32 items c.args.places.now c.loop-index.places index 0 (omega arith) c.loop-index-test.true
    c.loop-index.invariant
