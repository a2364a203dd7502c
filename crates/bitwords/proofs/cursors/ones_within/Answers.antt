use Rattle.std.proofs.Common.{refl, ap, take, ◌-◌, ◌/◌, drop, rules}
use Rattle.bitwords.proofs.Cut.{within-range}
use Rattle.bitwords.proofs.cursors.ones_within.Goals as goal

pub returns : goal.returns
returns c =
    within-range c.args.words.now _ c.args.start c.args.end _
    (ap (λ last. take (last - c.args.start / 64) (drop (c.args.start / 64) c.args.words.now)) c.div_ceil.ensures) refl
    c.within.result (rw c.iter-words.ensures.rest at c.within.ensures)

pub within-requires-clause-last : goal.within-requires-clause-last
within-requires-clause-last c = search rules steps 300000
