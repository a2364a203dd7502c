use Rattle.std.proofs.Common.{◌/◌, ◌%◌, ◌≤◌, length, ap, ◌∙◌, sym, arith}
use Rattle.bitlanes.specs.Bits.{bit}
use Rattle.bitlanes.specs.BitLaws.{test_of_and}
use Rattle.bitwords.specs.Rows.{has_bit}
use Rattle.bitwords.specs.RowFacts.{has_bit-past}
use Rattle.bitwords.proofs.positions.contains.Goals as goal

pub returns-in-Some : goal.returns-in-Some
unfolding has_bit
returns-in-Some c =
    let at = c.args.position in
    test_of_and c.in-Some.word.now (at % 64) (omega arith) ∙ ap (λ w. bit w (at % 64)) (c.in-Some.ensures.lookup.3.1 0)

pub returns-in-None : goal.returns-in-None
returns-in-None c =
    let past : length c.args.words.now ≤ c.args.position / 64 = c.in-None.ensures.lookup.3 in
    sym (has_bit-past c.args.words.now c.args.position (omega (arith, past)))
