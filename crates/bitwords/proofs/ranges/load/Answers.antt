use Rattle.std.proofs.Common.{◌<◌, ◌≤◌, ◌∙◌, arith, ⊎_elim, rules}
use Rattle.std.proofs.lemmas.Bool.{cases_lt}
use Rattle.std.proofs.lemmas.Bool.Decides.{nat_tests}
use Rattle.bitlanes.specs.BitLaws.{bit-and}
use Rattle.bitlanes.specs.Shifts.{window}
use Rattle.bitwords.proofs.Shifted.{bit-window}
use Rattle.bitwords.proofs.ranges.load.Goals as goal

pub returns : goal.returns
returns c i =
    let ws = c.args.words.now in
    let from = window ws c.args.start in
    rw c.word_from.ensures (bit-and from c.ones_below.result i ∙ ⊎_elim
    (λ (within : i < 64).
    grind (arith, nat_tests, c.ones_below.ensures i, bit-window ws (λ k. search rules) c.args.start i within))
    (λ (past : 64 ≤ i). grind (arith, nat_tests, c.ones_below.ensures i, c.requires))
    (cases_lt i 64))
