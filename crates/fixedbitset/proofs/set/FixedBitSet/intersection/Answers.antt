use Rattle.std.proofs.Common.{◌≡◌, refl}
use Rattle.bitwords.specs.WalkFacts.{runs_forwards, runs_backwards}
use Rattle.bitwalks.specs.Pairs.{SievesFirst, SievesLast, sieve_over}
use Rattle.fixedbitset.specs.Bits.{words}
use Rattle.fixedbitset.specs.TwoSets.{intersection}
use Rattle.fixedbitset.specs.TwoSetsFacts.{length-intersection}
use Rattle.fixedbitset.proofs.Positions.{shared_items, sieve_source, fits_items}
use Rattle.fixedbitset.proofs.set.FixedBitSet.intersection.Goals as goal

walk : (c : goal.After-over) → c.over.result ≡ sieve_over (λ b. b) (words c.args.self.now) (words c.args.other.now)
walk c = rw (c.over.ensures, c.used_words-words.ensures.value, c.used_words-others.ensures.value) refl

pub returns-clause-items : goal.returns-clause-items
returns-clause-items c = shared_items c.args.self.now c.args.other.now _ (walk c)

pub returns-clause-fits : goal.returns-clause-fits
returns-clause-fits c =
    fits_items (intersection c.args.self.now c.args.other.now) _ (returns-clause-items c)
    (rw length-intersection c.used_words-words.ensures.fits)

pub returns-clause-runs : goal.returns-clause-runs
returns-clause-runs c = runs_forwards (λ sieved. sieved.items) SievesFirst (λ s r t h. h.0) _ _ (returns-clause-items c)

pub returns-clause-runs_back : goal.returns-clause-runs_back
returns-clause-runs_back c =
    runs_backwards (λ sieved. sieved.items) SievesLast (λ s r t h. h.0) _ _ (returns-clause-items c)

pub returns-clause-source : goal.returns-clause-source
returns-clause-source c = sieve_source c.args.self.now c.args.other.now _ (λ b. b) (walk c)
