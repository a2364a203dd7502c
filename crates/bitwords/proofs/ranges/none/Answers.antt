use Rattle.std.proofs.Common.{◌≡◌, ◌∙◌, ◌+◌, ◌≤◌, ℕ, Bool, true, sym, arith, true≢false, rules}
use Rattle.std.proofs.lemmas.Bool.Decides.{nat_tests}
use Rattle.bitwords.specs.Rows.{count_below, bit_test}
use Rattle.bitwords.specs.Steps.{search_steps}
use Rattle.bitwords.proofs.Counted.{grows_within, same-between, stays_upto}
use Rattle.bitwords.proofs.Stopping.{stays_before, within_grown, past_same, last_word_ends, next_in_whole}
use Rattle.bitwords.proofs.Stopping.{steps_in_first, steps_in_whole}
use Rattle.bitwords.proofs.ranges.none.Goals as goal
use Rattle.bitwords.proofs.ranges.none.Goals.{then-none_part, else-none_part}

pub returns-then-none_whole-clause-exact_if_true : goal.returns-then-none_whole-clause-exact_if_true
returns-then-none_whole-clause-exact_if_true g c = grind arith

pub returns-else-none_whole-clause-none : goal.returns-else-none_whole-clause-none
returns-else-none_whole-clause-none g c =
    let bits : ℕ → Bool = bit_test (g.O.WordOp.truth true) c.args.words.now in
    let cut = c.cut-low.ensures in
    c.if-none_whole.false ∙ elim c.if-none_part.branch [
      | then-none_part w ↦ grows_within bits c.args.start c.cut-low.result.0 c.cut-low.result.1 c.args.end cut.first
          cut.middle cut.last (sym (same-between _ _ _ _ cut bits) ∙ sym w.none_whole.ensures.none ∙ sym w.value-is
          ∙ c.if-none_whole.false)
      | else-none_part w ↦ grows_within bits c.args.start c.args.start c.cut-low.result.0 c.args.end (omega arith)
          cut.first (omega (arith, cut.middle, cut.last)) (sym c.none_part.ensures.none ∙ w.if-none_part.false)
    ]

pub returns-then-none_whole-clause-none : goal.returns-then-none_whole-clause-none
returns-then-none_whole-clause-none g c =
    let bits : ℕ → Bool = bit_test (g.O.WordOp.truth true) c.args.words.now in
    c.none_part-then-none_whole.ensures.none ∙ elim c.if-none_part.branch [
      | then-none_part w ↦
          stays_upto (count_below bits c.args.start) (count_below bits c.cut-low.result.0)
          (count_below bits c.cut-low.result.1) (count_below bits c.args.end)
          (sym w.if-none_part.true ∙ c.none_part.ensures.none) (sym c.if-none_whole.true ∙ w.value-is
          ∙ w.none_whole.ensures.none ∙ same-between _ _ _ _ c.cut-low.ensures bits)
      | else-none_part w ↦ absurd (true≢false (sym c.if-none_whole.true ∙ w.value-is ∙ w.if-none_part.false))
    ]

pub returns-else-none_whole-clause-stops : goal.returns-else-none_whole-clause-stops
returns-else-none_whole-clause-stops g c = search rules steps 300000

pub returns-then-none_whole-clause-exact_if_stopped : goal.returns-then-none_whole-clause-exact_if_stopped
returns-then-none_whole-clause-exact_if_stopped g c p next =
    let bits : ℕ → Bool = bit_test (g.O.WordOp.truth true) c.args.words.now in
    let cut = c.cut-low.ensures in
    let same : count_below bits c.cut-low.result.1 ≡ count_below bits c.args.start =
    elim c.if-none_part.branch [
      | then-none_part w ↦
          let first = sym c.none_part.ensures.none ∙ w.if-none_part.true in
          let middle = sym (same-between _ _ _ _ cut bits) ∙ sym w.none_whole.ensures.none ∙ sym w.value-is
          ∙ c.if-none_whole.true in
          grind (arith, nat_tests)
      | else-none_part w ↦ absurd (true≢false (sym c.if-none_whole.true ∙ w.value-is ∙ w.if-none_part.false))
    ] in
    let past : c.cut-low.result.1 ≤ p =
    past_same bits c.args.start c.args.end p next c.cut-low.result.1 (grind (arith, nat_tests, same)) in
    let all : c.none_part-then-none_whole.new.steps ≡ c.args.steps.now + search_steps c.args.start c.args.end =
    grind arith in
    rw (last_word_ends c.args.start c.args.end c.cut-low.result.0 c.cut-low.result.1 p cut past) all

pub returns-else-none_whole-clause-exact_if_stopped : goal.returns-else-none_whole-clause-exact_if_stopped
returns-else-none_whole-clause-exact_if_stopped g c p next =
    let bits : ℕ → Bool = bit_test (g.O.WordOp.truth true) c.args.words.now in
    let cut = c.cut-low.ensures in
    let low = c.cut-low.result.0 in
    let high = c.cut-low.result.1 in
    elim c.if-none_part.branch [
      | then-none_part w ↦
          let from = past_same bits c.args.start c.args.end p next low
          (sym c.none_part.ensures.none ∙ w.if-none_part.true) in
          let grown = sym (same-between _ _ _ _ cut bits) ∙ sym w.none_whole.ensures.none ∙ sym w.value-is
          ∙ c.if-none_whole.false in
          let below = within_grown bits c.args.start c.args.end p next high (omega (arith, cut.first, cut.middle))
          (rw (stays_before bits c.args.start c.args.end p next low cut.first from) at grown) in
          omega (
            arith,
            w.steps-is,
            c.none_part.ensures.cost,
            w.none_whole.ensures.exact_if_stopped p
                (next_in_whole c.args.start c.args.end low high p cut bits next from below),
            steps_in_whole c.args.start c.args.end low high p cut from below,
          )
      | else-none_part w ↦
          let below = within_grown bits c.args.start c.args.end p next low cut.first
          (sym c.none_part.ensures.none ∙ w.if-none_part.false) in
          omega (
            arith,
            w.steps-is,
            c.none_part.ensures.cost,
            steps_in_first c.args.start c.args.end low high p cut next.after below,
          )
    ]
