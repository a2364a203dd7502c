use Rattle.std.proofs.Common.{◌≡◌, ℕ, ◌+◌, ◌-◌, ◌*◌, ◌/◌, ◌<◌, arith, get_or, List, length, ap, ◌∙◌}
use Rattle.std.proofs.lemmas.Grind.{common_steps}
use Rattle.bitlanes.specs.Shifts.{window}
use Rattle.bitlanes.proofs.Moved.{joined_before, lane_joined, word_joined}
use Rattle.bitlanes.proofs.shifts.up.Goals as goal
use Rattle.bitlanes.proofs.shifts.up.Goals.{then-rest-gt0+else-loop-at-test, else-rest-gt0}

pub loop-lane-preserved : goal.loop-lane-preserved
unfolding window
loop-lane-preserved g c =
    let old : List ℕ = c.args.words.now in
    let first : ℕ = c.div_ceil-first.result in
    let same : length c.loop-lane.words ≡ length old = omega arith in
    let at : ℕ = length old - 4 * (c.loop-lane.lane + 1) in
    let moved : ℕ → ℕ = λ k. window old (64 * k - c.args.by) in
    let are = c.loop-lane.invariant.are in
    let lane : (k : ℕ) → k < 4 → get_or c.window_lane-moved.result k 0 ≡ moved (at + k) = λ k h.
    grind (
      arith,
      c.window_lane-moved.ensures.words k h,
      are.below (at - first + k) (omega arith),
      are.below (at - first + k + 1) (omega arith),
    ) in
    record {
      are = joined_before (omega arith) (omega arith) are
          (lane_joined _ _ c.window_lane-moved.result _ c.window_lane-moved.ensures.long (omega arith) (omega arith)
          lane (rw same at c.join_lane.ensures));
      cost = omega (arith, c.tick.ensures, c.loop-lane.invariant.cost);
    }

pub loop-at-preserved : goal.loop-at-preserved
unfolding window
loop-at-preserved g c =
    let old : List ℕ = c.args.words.now in
    let first : ℕ = c.div_ceil-first.result in
    let at : ℕ = c.loop-at.at - 1 in
    let moved : ℕ → ℕ = λ k. window old (64 * k - c.args.by) in
    let are = c.loop-at.invariant.are in
    let low = are.below at (omega arith) in
    let word : c.straddle_word.result ≡ moved (first + at) =
    grind (arith, c.straddle_word.ensures, c.loop-at.invariant.high, low) in
    record {
      are = joined_before (omega arith) (omega arith) are
          (word_joined (first + at) _ c.word.result c.straddle_word.result (omega arith) (omega arith) word
          c.word.ensures);
      high = grind (arith, low);
    }

pub returns-then-shift-gt0-clause-first : goal.returns-then-shift-gt0-clause-first
returns-then-shift-gt0-clause-first g c some part =
    let old : List ℕ = c.args.words.now in
    let first : ℕ = c.div_ceil-first.result in
    let words : List ℕ = c.if-rest-gt0.words in
    let below : (k : ℕ) → k < first → get_or words k 0 ≡ get_or old k 0 = λ k h. elim c.if-rest-gt0.branch [
      | then-rest-gt0+else-loop-at-test w ↦
          ap (λ ws. get_or ws k 0) w.words-is ∙ w.loop-at.invariant.are.below k (omega (arith, h))
      | else-rest-gt0 w ↦
          ap (λ ws. get_or ws k 0) w.words-is ∙ c.loop-lane.invariant.are.below k (omega (arith, h))
    ] in
    let own = below (first - 1) (omega (arith, c.div_ceil-first.ensures, part)) in
    let low = below 0 (omega (arith, c.div_ceil-first.ensures, part)) in
    let at : c.args.by / 64 ≡ first - 1 = omega (arith, c.div_ceil-first.ensures, part) in
    grind (arith, common_steps, own, low, at, c.word-then-shift-gt0.ensures)
