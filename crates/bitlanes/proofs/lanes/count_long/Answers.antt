use Rattle.std.proofs.Common.{◌*◌, ◌/◌, count_ones, arith}
use Rattle.std.specs.Simd.Lanes.{zip2}
use Rattle.std.proofs.lemmas.List.Sums.{sum_by-take-le}
use Rattle.bitlanes.proofs.Zipping.{cut_joined}
use Rattle.bitlanes.proofs.lanes.count_long.Goals as goal

pub count_eights-total-requires-clause-fits : goal.count_eights-total-requires-clause-fits
count_eights-total-requires-clause-fits g c =
    let f = g.O.WordOp.joined in
    let words = c.min-words.result in
    rw (cut_joined f words c.args.a.now c.args.b.now (omega (arith, c.min-words.ensures)))
    (omega (
      arith,
      sum_by-take-le count_ones (zip2 f c.args.a.now c.args.b.now) (32 * (words / 32)),
      c.requires.fits,
    ))

pub returns-clause-cost : goal.returns-clause-cost
returns-clause-cost g c = omega arith
