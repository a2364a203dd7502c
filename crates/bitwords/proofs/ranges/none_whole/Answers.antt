use Rattle.std.proofs.Common.{◌≡◌, ◌+◌, ◌-◌, ◌*◌, ◌/◌, ◌^◌, ◌==◌, ℕ, List, map, take, drop, rules, true, ap, ◌∙◌, arith}
use Rattle.bitwords.specs.Rows.{bit_test, count_below}
use Rattle.bitwords.proofs.Counted.{count-whole, count-wholes, all-ones, ones-zero, sum_is_start}
use Rattle.bitwords.proofs.Stopping.{word_of_next}
use Rattle.bitwords.proofs.ranges.none_whole.Goals as goal

pub returns-clause-none : goal.returns-clause-none
returns-clause-none g c =
    let upto : c.args.first + (c.args.last - c.args.first) ≡ c.args.last = omega arith in
    let count = count-wholes g.met.O.WordOp.laws c.requires.drops c.args.words.now (λ k. search rules)
    (c.args.last - c.args.first) c.args.first (omega arith) in
    let masked : List ℕ =
    map (g.O.WordOp.joined (2 ^ 64 - 1)) (take (c.args.last - c.args.first) (drop c.args.first c.args.words.now)) in
    c.none_masked.ensures.zero ∙ all-ones masked
    ∙ sum_is_start _ _ _
    (count ∙ ap (λ k. count_below (bit_test (g.O.WordOp.truth true) c.args.words.now) (64 * k)) upto)

pub returns-then-last-first-eq1-clause-none : goal.returns-then-last-first-eq1-clause-none
returns-then-last-first-eq1-clause-none g c =
    let after : c.args.last ≡ c.args.first + 1 = omega arith in
    rw after (ap (λ w. w == 0) c.word.ensures ∙ ones-zero _
    ∙ sum_is_start _ _ _
    (count-whole g.met.O.WordOp.laws c.requires.drops c.args.words.now (λ k. search rules) c.args.first))

pub returns-clause-exact_if_true : goal.returns-clause-exact_if_true
returns-clause-exact_if_true g c = omega (arith, c.none_masked.ensures.exact_if_true)

pub returns-clause-exact_if_stopped : goal.returns-clause-exact_if_stopped
returns-clause-exact_if_stopped g c p next =
    omega (
      arith,
      next.after,
      c.none_masked.ensures.exact_if_stopped (p / 64 - c.args.first)
          (word_of_next g.met.O.WordOp.laws c.requires.drops c.args.words.now (λ k. search rules) c.args.first
          c.args.last c.requires.order c.requires.within p next),
    )
