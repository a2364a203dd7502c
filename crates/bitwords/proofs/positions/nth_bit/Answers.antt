use Rattle.std.proofs.Common.{ℕ, ◌≡◌, ◌+◌, ◌≤◌, ap, ◌∙◌, arith}
use Rattle.bitlanes.specs.Bits.{bit}
use Rattle.bitwords.specs.CountFacts.{count-none}
use Rattle.bitwords.specs.NthFacts.{nth-between, ones-bits}
use Rattle.bitwords.specs.RowFacts.{bit-zero}
use Rattle.bitwords.specs.Rows.{count_below}
use Rattle.bitwords.proofs.Taken.{count-taken, none_before, some_behind}
use Rattle.bitwords.proofs.positions.nth_bit.Goals as goal

-- a word with no bit has none below 64
no_bits : (word : ℕ) → word ≡ 0 → count_below (bit word) 64 ≡ 0
no_bits word none = ap (λ w. count_below (bit w) 64) none ∙ count-none (bit 0) 64 (λ i _. bit-zero i)

pub loop-init : goal.loop-init
loop-init c = λ n within. omega arith

pub take_lowest_bit-requires : goal.take_lowest_bit-requires
take_lowest_bit-requires c none =
    omega (
      arith,
      c.requires,
      ones-bits 64 c.args.word c.ranges.word.fits,
      c.loop.invariant 64 (omega arith),
      no_bits c.loop.rest none,
    )

pub loop-preserved : goal.loop-preserved
loop-preserved c = λ n within.
    omega (
      arith,
      c.loop.invariant n within,
      count-taken c.loop.rest c.take_lowest_bit.result c.take_lowest_bit.ensures.lowest _
          c.take_lowest_bit.ensures.clears n within,
    )

pub lowest_bit-requires : goal.lowest_bit-requires
lowest_bit-requires c none =
    omega (
      arith,
      c.requires,
      ones-bits 64 c.args.word c.ranges.word.fits,
      c.loop.invariant 64 (omega arith),
      no_bits c.loop.rest none,
    )

pub returns-clause-nth : goal.returns-clause-nth
returns-clause-nth c =
    let p : ℕ = c.lowest_bit.result in
    let lowest = c.lowest_bit.ensures in
    nth-between (bit c.args.word) c.args.index p
    (omega (arith, c.loop.invariant p (omega (arith, lowest.within)), none_before c.loop.rest p lowest p (omega arith)))
    (omega (
      arith,
      c.loop.invariant (p + 1) (omega (arith, lowest.within)),
      some_behind c.loop.rest p lowest (p + 1) (omega arith),
    ))
