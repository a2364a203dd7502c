use Rattle.std.proofs.Common.{◌≡◌, ◌++◌, not, length, refl, ap, arith}
use Rattle.bitwords.specs.WalkFacts.{runs_forwards, runs_backwards}
use Rattle.bitwalks.specs.Pairs.{joined_items, JoinsFirst, JoinsLast, sieve_over}
use Rattle.fixedbitset.specs.Bits.{words}
use Rattle.fixedbitset.specs.Walks.{begun}
use Rattle.fixedbitset.proofs.Positions.{length-union_items, lacked_items, sieve_source, over_row-begun}
use Rattle.fixedbitset.proofs.set.FixedBitSet.union.Goals as goal

first : (c : goal.After-over) → c.over.result.first ≡ begun c.args.self.now
first c = rw (c.over.ensures, c.used_words-words.ensures.value) (over_row-begun c.args.self.now)

second : (c : goal.After-over) → c.over.result.second ≡ sieve_over not (words c.args.other.now) (words c.args.self.now)
second c = rw (c.over.ensures, c.used_words-words.ensures.value, c.used_words-others.ensures.value) refl

pub returns-clause-items : goal.returns-clause-items
returns-clause-items c =
    let one = ap (λ walk. walk.items) (first c) in
    let two = lacked_items c.args.other.now c.args.self.now _ (second c) in
    λ i. one i ++ two i

pub returns-clause-fits : goal.returns-clause-fits
returns-clause-fits c =
    omega (
      arith,
      ap length (returns-clause-items c),
      length-union_items c.args.self.now c.args.other.now,
      c.used_words-words.ensures.fits,
      c.used_words-others.ensures.fits,
    )

pub returns-clause-runs : goal.returns-clause-runs
returns-clause-runs c = runs_forwards joined_items JoinsFirst (λ s r t h. h.0) _ _ (returns-clause-items c)

pub returns-clause-runs_back : goal.returns-clause-runs_back
returns-clause-runs_back c = runs_backwards joined_items JoinsLast (λ s r t h. h.0) _ _ (returns-clause-items c)

pub returns-clause-first : goal.returns-clause-first
returns-clause-first = first

pub returns-clause-source : goal.returns-clause-source
returns-clause-source c = sieve_source c.args.other.now c.args.self.now _ not (second c)
