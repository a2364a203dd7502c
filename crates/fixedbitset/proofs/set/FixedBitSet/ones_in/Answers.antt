use Rattle.std.proofs.Common.{refl, arith}
use Rattle.bitwords.specs.WalkFacts.{walk_forwards, walk_backwards}
use Rattle.fixedbitset.specs.Ranges.{over, within}
use Rattle.fixedbitset.specs.RangesFacts.{length-within}
use Rattle.fixedbitset.proofs.Positions.{ones-within, fits_items}
use Rattle.fixedbitset.proofs.Words.{valid_range, viewed_length}
use Rattle.fixedbitset.proofs.set.FixedBitSet.ones_in.Goals as goal

pub within-requires-clause-order : goal.within-requires-clause-order
within-requires-clause-order g c =
    rw (
      c.unwrap_or-start.ensures,
      c.start.ensures,
      c.unwrap_or-end.ensures,
      c.end.ensures,
      viewed_length _ _ _ c.self.view_is,
    ) (valid_range c.args.self.now _ _ c.requires).0

pub within-requires-clause-within : goal.within-requires-clause-within
within-requires-clause-within g c =
    rw (c.unwrap_or-end.ensures, c.end.ensures, viewed_length _ _ _ c.self.view_is)
    (omega (arith, valid_range c.args.self.now _ _ c.requires, c.used_words.ensures.count))

pub returns-clause-items : goal.returns-clause-items
returns-clause-items g c =
    rw (
      c.within.ensures,
      c.used_words.ensures.value,
      c.unwrap_or-start.ensures,
      c.start.ensures,
      c.unwrap_or-end.ensures,
      c.end.ensures,
      viewed_length _ _ _ c.self.view_is,
    )
    (ones-within c.args.self.now _ _ c.requires)

pub returns-clause-fits : goal.returns-clause-fits
returns-clause-fits g c =
    fits_items (over within c.args.self.now (g.R.IndexRange.start_of c.args.range) (g.R.IndexRange.end_of c.args.range))
    _ (returns-clause-items g c) (rw length-within c.used_words.ensures.fits)

pub returns-clause-runs : goal.returns-clause-runs
returns-clause-runs g c = walk_forwards _ _ (returns-clause-items g c)

pub returns-clause-runs_back : goal.returns-clause-runs_back
returns-clause-runs_back g c = walk_backwards _ _ (returns-clause-items g c)

pub returns-clause-words : goal.returns-clause-words
returns-clause-words g c =
    rw (
      c.within.ensures,
      c.used_words.ensures.value,
      c.unwrap_or-start.ensures,
      c.start.ensures,
      c.unwrap_or-end.ensures,
      c.end.ensures,
      viewed_length _ _ _ c.self.view_is,
    ) refl
