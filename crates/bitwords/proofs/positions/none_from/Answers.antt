use Rattle.std.proofs.Common.{rules, ◌≡◌, ◌/◌, ◌≤◌, length, arith, is_none}
use Rattle.bitwords.specs.RowFacts.{has_bit-past}
use Rattle.bitwords.proofs.Neighbouring.{none_is_left}
use Rattle.bitwords.proofs.positions.none_from.Goals as goal

pub returns-then-start-words : goal.returns-then-start-words
returns-then-start-words c = (
  λ _ p from.
      has_bit-past c.args.words.now p (let past : length c.args.words.now ≤ c.args.start / 64 =
      omega (arith, c.if-start-words.true) in omega arith),
  λ _. search rules,
)

pub returns-else-start-words : goal.returns-else-start-words
returns-else-start-words c =
    let told : c.is_none.result ≡ is_none c.next_in_row.result = search rules in
    rw told (none_is_left c.args.words.now c.args.start c.next_in_row.result c.next_in_row.ensures.found
    c.next_in_row.ensures.none)
