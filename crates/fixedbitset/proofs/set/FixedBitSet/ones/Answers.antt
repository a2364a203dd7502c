use Rattle.std.proofs.Common.{◌≡◌, ap}
use Rattle.bitwords.specs.WalkFacts.{walk_forwards, walk_backwards}
use Rattle.fixedbitset.specs.Walks.{begun}
use Rattle.fixedbitset.proofs.Positions.{over_row-begun, fits_items}
use Rattle.fixedbitset.proofs.set.FixedBitSet.ones.Goals as goal

whole : (c : goal.After-over) → c.over.result ≡ begun c.args.self.now
whole c = rw (c.over.ensures, c.used_words.ensures.value) (over_row-begun c.args.self.now)

pub returns-clause-items : goal.returns-clause-items
returns-clause-items c = ap (λ walk. walk.items) (whole c)

pub returns-clause-fits : goal.returns-clause-fits
returns-clause-fits c = fits_items c.args.self.now _ (returns-clause-items c) c.used_words.ensures.fits

pub returns-clause-runs : goal.returns-clause-runs
returns-clause-runs c = walk_forwards _ _ (returns-clause-items c)

pub returns-clause-runs_back : goal.returns-clause-runs_back
returns-clause-runs_back c = walk_backwards _ _ (returns-clause-items c)

pub returns-clause-words : goal.returns-clause-words
returns-clause-words c = ap (λ walk. walk.words) (whole c)
