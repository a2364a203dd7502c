use Rattle.std.proofs.Common.{◌≡◌, ◌+◌, ◌-◌, ℕ, length, slice_index, arith, rules}
use Rattle.std.proofs.lemmas.Bool.{eqb-true}
use Rattle.bitranks.specs.Ranks.{last_words}
use Rattle.bitwords.specs.Rows.{has_bit}
use Rattle.bitwords.specs.CountFacts.{count-zero}
use Rattle.bitranks.proofs.Counting.{not_zero, selected, last_entry}
use Rattle.bitranks.proofs.Halving.{found_steps, unfound_steps, none_halved}
use Rattle.bitranks.proofs.directory.select.Goals as goal

pub last_within-entry-requires-clause-first : goal.last_within-entry-requires-clause-first
last_within-entry-requires-clause-first c =
    omega (arith, c.requires.directory.counts 0 (not_zero _ (search rules)), count-zero (has_bit c.args.words.now))

pub returns-clause-value : goal.returns-clause-value
returns-clause-value c =
    let entry : ℕ = c.last_within-entry.result in
    selected c.args.words.now c.args.directory.now c.requires.directory c.args.index entry _
    (c.args.index - slice_index c.args.directory.now entry)
    c.last_within-entry.ensures.within c.last_within-entry.ensures.low c.last_within-entry.ensures.high (search rules)
    (omega arith) c.nth.result c.nth.ensures.found c.nth.ensures.below c.nth.ensures.none

pub returns-then-is_empty-clause-exact_if_none : goal.returns-then-is_empty-clause-exact_if_none
returns-then-is_empty-clause-exact_if_none c =
    let none : length c.args.directory.now ≡ 0 = eqb-true _ _ (search rules) in
    let same : c.args.steps.now + last_words (length c.args.words.now) ≡ c.args.steps.now =
    omega (arith, none, c.requires.directory.long) in
    rw same (none_halved _ _ none)

pub returns-clause-cost : goal.returns-clause-cost
returns-clause-cost c =
    found_steps _ _ _ _ c.last_within-entry.result c.min-end.result c.nth.result c.last_within-entry.ensures.cost
    (omega (arith, c.min-end.ensures)) c.nth.ensures.from
    c.nth.ensures.below c.nth.ensures.cost

pub returns-clause-exact_if_none : goal.returns-clause-exact_if_none
returns-clause-exact_if_none c =
    let entry : ℕ = c.last_within-entry.result in
    unfound_steps _ _ _ _ _ entry c.min-end.result c.nth.result c.last_within-entry.ensures.cost
    c.requires.directory.long
    (last_entry c.args.words.now c.args.directory.now c.requires.directory c.args.index entry _
    (c.args.index - slice_index c.args.directory.now entry)
    c.last_within-entry.ensures.within c.last_within-entry.ensures.low c.last_within-entry.ensures.high (search rules)
    (omega arith))
    (search rules) c.nth.ensures.none c.nth.ensures.exact_if_none

pub returns-clause-bound : goal.returns-clause-bound
returns-clause-bound c n long = omega (arith, c.last_within-entry.ensures.cost.most n long, c.nth.ensures.bound)
