use Rattle.std.proofs.Common.{◌-◌, length, take, ap, arith, length-take, length-drop}
use Rattle.fixedbitset.specs.Bits.{words}
use Rattle.fixedbitset.specs.Views.{value}
use Rattle.fixedbitset.specs.WalkFacts.{length-asc}
use Rattle.fixedbitset.specs.WordsFacts.{length-words, length-of_words}
use Rattle.test_callers.proofs.steps.ones_of_nine_words.Goals as goal

pub count_left-requires : goal.count_left-requires
count_left-requires c =
    omega (
      arith,
      c.requires,
      ap length c.ones.ensures.items,
      length-asc (value c.args.set),
      length-of_words c.args.set.length c.args.set.words.now,
    )

-- the middle that the iterator holds has the words between the ends of the set's
pub returns : goal.returns
returns c =
    let row = words (value c.args.set) in
    omega (
      arith,
      c.requires,
      c.count_left.ensures.exact.2,
      ap length c.count_left.ensures.exact.1,
      ap length c.ones.ensures.words,
      length-drop 1 (take (length row - 1) row),
      length-take (length row - 1) row,
      length-words (value c.args.set),
      length-of_words c.args.set.length c.args.set.words.now,
    )
