use Rattle.std.proofs.Common.{◌<◌, ap, arith}
use Rattle.fixedbitset.specs.WordsFacts.{length-of_words}
use Rattle.fixedbitset.proofs.Changes.{place_within}
use Rattle.fixedbitset.proofs.set.FixedBitSet.add_item.Goals as goal

pub returns-else-item-len-2-clause-ok : goal.returns-else-item-len-2-clause-ok
returns-else-item-len-2-clause-ok c =
    let n = c.self.inside.length in
    let ws = c.self.inside.words.items in
    let below : c.args.item < n =
    omega (arith, c.if-item-len.true, c.len.ensures, ap (λ v. v.length) c.self.view_is, length-of_words n ws) in
    absurd (omega (arith, place_within n c.args.item ws c.self.invariant below, c.if-item-len-2.false))
