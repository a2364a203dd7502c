use Rattle.std.proofs.Common.{◌≡◌, ◌+◌, ◌-◌, ◌*◌, ℕ, arith, count_ones}
use Rattle.std.specs.Simd.Lanes.{zip2}
use Rattle.bitlanes.proofs.Counting.{ones_cut, sum_eight, sum_eight_le}
use Rattle.bitlanes.proofs.carries.count_eights.Goals as goal

pub add_ones-requires : goal.add_ones-requires
add_ones-requires g c =
    let f = g.O.WordOp.joined in
    let at : ℕ = 32 * c.loop-block.block in
    let long : at + 32 - at ≡ 32 = omega arith in
    let all = zip2 f c.args.a.now c.args.b.now in
    let ones = rw (long, ones_cut f at 32 c.args.a.now c.args.b.now) at c.add_eight-carries.ensures.ones in
    omega (
      arith,
      ones,
      c.loop-block.invariant.ones,
      c.requires.fits,
      sum_eight_le count_ones c.loop-block.block c.args.blocks all (omega arith),
    )

pub loop-block-preserved : goal.loop-block-preserved
loop-block-preserved g c =
    let f = g.O.WordOp.joined in
    let at : ℕ = 32 * c.loop-block.block in
    let long : at + 32 - at ≡ 32 = omega arith in
    let ones = rw (long, ones_cut f at 32 c.args.a.now c.args.b.now) at c.add_eight-carries.ensures.ones in
    record {
      ones =
          omega (
            arith,
            ones,
            c.add_ones.ensures,
            c.loop-block.invariant.ones,
            sum_eight count_ones c.loop-block.block (zip2 f c.args.a.now c.args.b.now),
          );
      cost = omega arith;
    }

pub returns-clause-ones : goal.returns-clause-ones
returns-clause-ones g c = grind (arith, c.loop-block.invariant.ones)
