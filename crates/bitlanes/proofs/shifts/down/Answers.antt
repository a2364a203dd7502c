use Rattle.std.proofs.Common.{◌≡◌, ℕ, ◌+◌, ◌-◌, ◌*◌, ◌/◌, ◌%◌, ◌^◌, ◌<◌, length, arith, get_or, refl}
use Rattle.std.proofs.lemmas.List.{get_or_past}
use Rattle.bitlanes.specs.Shifts.{window}
use Rattle.bitlanes.proofs.Moved.{joined_behind, lane_joined, word_joined, straddle_last}
use Rattle.bitlanes.proofs.shifts.down.Goals as goal

pub loop-lane-preserved : goal.loop-lane-preserved
unfolding window
loop-lane-preserved c =
    let at : ℕ = 4 * c.loop-lane.lane in
    let first : ℕ = c.args.by / 64 in
    let moved : ℕ → ℕ = λ k. window c.args.words.now (c.args.by + 64 * k) in
    let are = c.loop-lane.invariant.are in
    let lane : (k : ℕ) → k < 4 → get_or c.window_lane-moved.result k 0 ≡ moved (at + k) = λ k h.
    grind (arith, c.window_lane-moved.ensures.words k h, are.above (first + at + k), are.above (first + at + k + 1)) in
    record {
      are = joined_behind (omega arith) (omega arith) are
          (lane_joined at _ c.window_lane-moved.result _ c.window_lane-moved.ensures.long (omega arith) (omega arith)
          lane c.join_lane.ensures);
      cost = omega (arith, c.tick.ensures, c.loop-lane.invariant.cost);
    }

pub loop-at-preserved : goal.loop-at-preserved
unfolding window
loop-at-preserved c =
    let first : ℕ = c.args.by / 64 in
    let at : ℕ = c.loop-at.at in
    let moved : ℕ → ℕ = λ k. window c.args.words.now (c.args.by + 64 * k) in
    let are = c.loop-at.invariant.are in
    let high = are.above at (omega arith) in
    let word : c.straddle_word.result ≡ moved (at - 1 - first) =
    grind (arith, c.straddle_word.ensures, c.loop-at.invariant.low, high) in
    record {
      are = joined_behind (omega arith) (omega arith) are
          (word_joined (at - 1 - first) _ c.straddle_word.result c.straddle_word.result (omega arith) (omega arith) word
          refl);
      low = grind (arith, high);
      cost = c.loop-at.invariant.cost;
    }

pub returns-after-loop-at-clause-words : goal.returns-after-loop-at-clause-words
unfolding window
returns-after-loop-at-clause-words c k below =
    let old = c.args.words.now in
    let last : ℕ = c.saturating_sub-kept.result - 1 in
    let moved : ℕ → ℕ = λ k. window old (c.args.by + 64 * k) in
    let low : ℕ = c.loop-at.low / 2 ^ (c.args.by % 64) in
    let word : low ≡ moved last =
    grind (
      arith,
      straddle_last (c.args.by % 64) c.loop-at.low,
      c.loop-at.invariant.low,
      get_or_past old (length old) 0,
    ) in
    let is : c.loop-at.at - 1 - c.args.by / 64 ≡ last = omega arith in
    (joined_behind (omega arith) (omega arith) (rw is at c.loop-at.invariant.are)
    (word_joined last (last + 1) low low (omega arith) (omega arith) word refl)).joined k (omega arith)
    (omega (arith, below))
