use Rattle.std.proofs.Common.{◌≡◌, ◌++◌, not, length, refl, ap, arith}
use Rattle.bitwords.specs.WalkFacts.{runs_forwards, runs_backwards}
use Rattle.bitwalks.specs.Pairs.{split_items, SplitsFirst, SplitsLast, sieve_over}
use Rattle.fixedbitset.specs.Bits.{words}
use Rattle.fixedbitset.proofs.Positions.{length-split_items, lacked_items, sieve_source}
use Rattle.fixedbitset.proofs.set.FixedBitSet.symmetric_difference.Goals as goal

first : (c : goal.After-over) → c.over.result.first ≡ sieve_over not (words c.args.self.now) (words c.args.other.now)
first c = rw (c.over.ensures, c.used_words-words.ensures.value, c.used_words-others.ensures.value) refl

second : (c : goal.After-over) → c.over.result.second ≡ sieve_over not (words c.args.other.now) (words c.args.self.now)
second c = rw (c.over.ensures, c.used_words-words.ensures.value, c.used_words-others.ensures.value) refl

pub returns-clause-items : goal.returns-clause-items
returns-clause-items c =
    let one = lacked_items c.args.self.now c.args.other.now _ (first c) in
    let two = lacked_items c.args.other.now c.args.self.now _ (second c) in
    λ i. one i ++ two i

pub returns-clause-fits : goal.returns-clause-fits
returns-clause-fits c =
    omega (
      arith,
      ap length (returns-clause-items c),
      length-split_items c.args.self.now c.args.other.now,
      c.used_words-words.ensures.fits,
      c.used_words-others.ensures.fits,
    )

pub returns-clause-runs : goal.returns-clause-runs
returns-clause-runs c = runs_forwards split_items SplitsFirst (λ s r t h. h.0) _ _ (returns-clause-items c)

pub returns-clause-runs_back : goal.returns-clause-runs_back
returns-clause-runs_back c = runs_backwards split_items SplitsLast (λ s r t h. h.0) _ _ (returns-clause-items c)

pub returns-clause-source_first : goal.returns-clause-source_first
returns-clause-source_first c = sieve_source c.args.self.now c.args.other.now _ not (first c)

pub returns-clause-source_second : goal.returns-clause-source_second
returns-clause-source_second c = sieve_source c.args.other.now c.args.self.now _ not (second c)
