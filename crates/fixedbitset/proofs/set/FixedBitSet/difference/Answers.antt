use Rattle.std.proofs.Common.{◌≡◌, not, refl}
use Rattle.bitwords.specs.WalkFacts.{runs_forwards, runs_backwards}
use Rattle.bitwalks.specs.Pairs.{SievesFirst, SievesLast, sieve_over}
use Rattle.fixedbitset.specs.Bits.{words}
use Rattle.fixedbitset.specs.TwoSets.{difference}
use Rattle.fixedbitset.specs.TwoSetsFacts.{length-difference}
use Rattle.fixedbitset.proofs.Positions.{lacked_items, sieve_source, fits_items}
use Rattle.fixedbitset.proofs.set.FixedBitSet.difference.Goals as goal

walk : (c : goal.After-over) → c.over.result ≡ sieve_over not (words c.args.self.now) (words c.args.other.now)
walk c = rw (c.over.ensures, c.used_words-words.ensures.value, c.used_words-others.ensures.value) refl

pub returns-clause-items : goal.returns-clause-items
returns-clause-items c = lacked_items c.args.self.now c.args.other.now _ (walk c)

pub returns-clause-fits : goal.returns-clause-fits
returns-clause-fits c =
    fits_items (difference c.args.self.now c.args.other.now) _ (returns-clause-items c)
    (rw length-difference c.used_words-words.ensures.fits)

pub returns-clause-runs : goal.returns-clause-runs
returns-clause-runs c = runs_forwards (λ sieved. sieved.items) SievesFirst (λ s r t h. h.0) _ _ (returns-clause-items c)

pub returns-clause-runs_back : goal.returns-clause-runs_back
returns-clause-runs_back c =
    runs_backwards (λ sieved. sieved.items) SievesLast (λ s r t h. h.0) _ _ (returns-clause-items c)

pub returns-clause-source : goal.returns-clause-source
returns-clause-source c = sieve_source c.args.self.now c.args.other.now _ not (walk c)
