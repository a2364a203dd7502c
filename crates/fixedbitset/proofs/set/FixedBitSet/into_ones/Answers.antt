use Rattle.std.proofs.Common.{◌≡◌, ap, ◌∙◌}
use Rattle.bitwords.specs.WalkFacts.{walk_forwards, walk_backwards}
use Rattle.fixedbitset.specs.Bits.{words}
use Rattle.fixedbitset.specs.Walks.{begun}
use Rattle.fixedbitset.proofs.Words.{words_of, viewed_fits}
use Rattle.fixedbitset.proofs.Positions.{over_row-begun, fits_items}
use Rattle.fixedbitset.proofs.set.FixedBitSet.into_ones.Goals as goal

whole : (c : goal.After-over) → c.over.result ≡ begun c.args.self
whole c =
    let items = c.truncate.ensures.items in
    let words = items
    ∙ words_of _ _ c.self.invariant _ c.div_ceil.ensures (λ k. rw items at (c.over.ensures.are_words k))
    ∙ ap words c.self.view_is in
    rw (c.over.ensures.walk, words) (over_row-begun c.args.self)

pub returns-clause-items : goal.returns-clause-items
returns-clause-items c = ap (λ walk. walk.items) (whole c)

pub returns-clause-fits : goal.returns-clause-fits
returns-clause-fits c =
    fits_items c.args.self _ (returns-clause-items c) (viewed_fits _ _ _ c.self.view_is c.self.invariant)

pub returns-clause-runs : goal.returns-clause-runs
returns-clause-runs c = walk_forwards _ _ (returns-clause-items c)

pub returns-clause-runs_back : goal.returns-clause-runs_back
returns-clause-runs_back c = walk_backwards _ _ (returns-clause-items c)

pub returns-clause-words : goal.returns-clause-words
returns-clause-words c = ap (λ walk. walk.words) (whole c)
