use Rattle.std.proofs.Common.{◌≤◌, ◌∙◌, arith}
use Rattle.std.proofs.lemmas.Bool.Decides.{nat_tests}
use Rattle.fixedbitset.specs.WordsFacts.{length-of_words}
use Rattle.bits_c.proofs.Between.{inverted_range_left}
use Rattle.bits_c.proofs.walks.bits_zeroes_in.Goals as goal

pub returns-then-bits_range_is_valid-clause-words : goal.returns-then-bits_range_is_valid-clause-words
returns-then-bits_range_is_valid-clause-words c =
    let within : c.args.end ≤ c.args.set.now.length =
    grind (arith, nat_tests, length-of_words c.args.set.now.length c.args.set.now.words.now) in
    c.of.ensures.words ∙ inverted_range_left _ _ _ _ _ within c.zeroes_in.ensures.words
