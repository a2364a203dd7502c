use Rattle.std.specs.Prelude.{slice_index}
use Rattle.std.proofs.Common.{◌≡◌, ◌/◌, ◌%◌, ap, ◌∙◌, arith}
use Rattle.bitlanes.specs.Bits.{bit}
use Rattle.bitlanes.specs.BitLaws.{test_of_and}
use Rattle.bitwords.specs.Rows.{has_bit}
use Rattle.bitwalks.proofs.sieve.is_set.Goals as goal

pub returns : goal.returns
unfolding has_bit
returns c =
    let at = c.args.position in
    let word : c.unwrap_or-word.result ≡ slice_index c.args.words.now (at / 64) = grind arith in
    test_of_and _ (at % 64) (omega arith) ∙ ap (λ w. bit w (at % 64)) word
