use Rattle.std.proofs.Common.{◌≤◌, map, length, refl, arith}
use Rattle.std.specs.Int.{bit_not, w64, div_ceil}
use Rattle.std.proofs.lemmas.List.{length-map}
use Rattle.bitwords.specs.WalkFacts.{walk_forwards, walk_backwards}
use Rattle.fixedbitset.specs.Bits.{complement}
use Rattle.fixedbitset.specs.BitsFacts.{length-complement}
use Rattle.fixedbitset.proofs.Words.{viewed_length}
use Rattle.fixedbitset.proofs.Positions.{zeroes-row, range_cut-whole, fits_items}
use Rattle.fixedbitset.proofs.set.FixedBitSet.zeroes.Goals as goal

pub returns-clause-items : goal.returns-clause-items
returns-clause-items c =
    rw (c.within.ensures, c.used_words.ensures.value)
    (zeroes-row c.args.self.now _ (viewed_length _ _ _ c.self.view_is))

pub returns-clause-fits : goal.returns-clause-fits
returns-clause-fits c =
    fits_items (complement c.args.self.now) _ (returns-clause-items c) (rw length-complement c.used_words.ensures.fits)

pub returns-clause-runs : goal.returns-clause-runs
returns-clause-runs c = walk_forwards _ _ (returns-clause-items c)

pub returns-clause-runs_back : goal.returns-clause-runs_back
returns-clause-runs_back c = walk_backwards _ _ (returns-clause-items c)

pub returns-clause-words : goal.returns-clause-words
returns-clause-words c =
    let bound : length (map (bit_not w64) c.used_words.result.now) ≤ div_ceil c.self.inside.length 64 =
    omega (
      arith,
      length-map c.used_words.result.now (bit_not w64),
      c.used_words.ensures.count,
      viewed_length _ _ _ c.self.view_is,
    ) in
    rw (
      c.within.ensures,
      range_cut-whole c.self.inside.length (map (bit_not w64) c.used_words.result.now) bound,
      c.used_words.ensures.value,
    ) refl
