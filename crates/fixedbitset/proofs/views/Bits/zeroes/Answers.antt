use Rattle.std.proofs.Common.{◌≤◌, map, length, refl, sym, arith}
use Rattle.std.specs.Int.{bit_not, w64, div_ceil}
use Rattle.std.proofs.lemmas.List.{length-map}
use Rattle.fixedbitset.specs.WordsFacts.{length-of_words}
use Rattle.fixedbitset.proofs.Positions.{zeroes-row, range_cut-whole}
use Rattle.fixedbitset.proofs.views.Bits.zeroes.Goals as goal

pub zeroes_within-requires-clause-within : goal.zeroes_within-requires-clause-within
zeroes_within-requires-clause-within c = omega (arith, c.args.self.clean.fits, c.as_slice.ensures.count)

pub returns-clause-items : goal.returns-clause-items
returns-clause-items c =
    rw (c.zeroes_within.ensures, c.as_slice.ensures.value) (zeroes-row _ _ (sym (length-of_words _ _)))

pub returns-clause-words : goal.returns-clause-words
returns-clause-words c =
    let bound : length (map (bit_not w64) c.as_slice.result.now) ≤ div_ceil c.args.self.length 64 =
    omega (arith, length-map c.as_slice.result.now (bit_not w64), c.as_slice.ensures.count) in
    rw (
      c.zeroes_within.ensures,
      range_cut-whole c.args.self.length (map (bit_not w64) c.as_slice.result.now) bound,
      c.as_slice.ensures.value,
    ) refl
