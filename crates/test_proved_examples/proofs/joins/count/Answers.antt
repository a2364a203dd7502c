use Rattle.std.proofs.Common.{arith, [], ◌∷◌}
use Rattle.bitlanes.specs.Bits.{either}
use Rattle.bitwords.specs.Rows.{bits_test}
use Rattle.bitwords.specs.CountFacts.{count-le}
use Rattle.test_proved_examples.proofs.joins.count.Goals as goal

-- two words have no more than 128 positions
pub count-count-requires : goal.count-count-requires
count-count-requires g c = record { fits = omega (arith, count-le (bits_test either (11 ∷ 3 ∷ []) (9 ∷ [])) 128) }
