use Rattle.std.proofs.Common.{refl}
use Rattle.bitwords.proofs.Reversed.{are_pairs, six_reverse}
use Rattle.bitwords.proofs.handfuls.reversed.Goals as goal

pub swapped-ones-requires-clause-pairs : goal.swapped-ones-requires-clause-pairs
swapped-ones-requires-clause-pairs c = are_pairs _ _ refl

pub swapped-twos-requires-clause-pairs : goal.swapped-twos-requires-clause-pairs
swapped-twos-requires-clause-pairs c = are_pairs _ _ refl

pub swapped-fours-requires-clause-pairs : goal.swapped-fours-requires-clause-pairs
swapped-fours-requires-clause-pairs c = are_pairs _ _ refl

pub swapped-eights-requires-clause-pairs : goal.swapped-eights-requires-clause-pairs
swapped-eights-requires-clause-pairs c = are_pairs _ _ refl

pub swapped-sixteens-requires-clause-pairs : goal.swapped-sixteens-requires-clause-pairs
swapped-sixteens-requires-clause-pairs c = are_pairs _ _ refl

pub swapped-requires-clause-pairs : goal.swapped-requires-clause-pairs
swapped-requires-clause-pairs c = are_pairs _ _ refl

pub returns : goal.returns
returns c =
    six_reverse c.args.word _ _ _ _ _ _ c.swapped-ones.ensures c.swapped-twos.ensures c.swapped-fours.ensures
    c.swapped-eights.ensures c.swapped-sixteens.ensures c.swapped.ensures
