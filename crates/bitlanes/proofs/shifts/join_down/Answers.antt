use Rattle.std.proofs.Common.{rules, ◌≡◌, ℕ, ◌+◌, ◌*◌, ◌/◌, ◌<◌, ◌∙◌, drop, arith, get_or, refl}
use Rattle.std.proofs.lemmas.List.{get_or-take, get_or_append_left, length-take-le}
use Rattle.bitlanes.specs.Shifts.{window}
use Rattle.bitlanes.proofs.Moved.{joined_behind, lane_joined, word_joined, window_dropped, up_to_end}
use Rattle.bitlanes.proofs.shifts.join_down.Goals as goal

pub loop-done-preserved : goal.loop-done-preserved
loop-done-preserved g c =
    let done = c.loop-done.done in
    let moved : ℕ → ℕ = λ k. window c.args.src.now (c.args.from + 64 * k) in
    let long = length-take-le c.min-words.result c.args.dst.now (omega arith) in
    let cut = up_to_end (c.args.from / 64) c.args.src.now in
    let lane : (k : ℕ) → k < 4 → get_or c.window_lane.result k 0 ≡ moved (done + k) = λ k h.
    rw cut at (c.window_lane.ensures.words k h) ∙ window_dropped c.args.src.now c.args.from (done + k) in
    record {
      are = joined_behind (omega arith) (omega arith) c.loop-done.invariant.are
          (lane_joined done _ c.window_lane.result _ c.window_lane.ensures.long (omega arith) (omega (arith, long)) lane
          c.join_lane.ensures);
      within = omega arith;
      cost = omega (arith, c.tick.ensures, c.loop-done.invariant.cost);
    }

pub loop-at-init : goal.loop-at-init
loop-at-init g c = record { are = c.loop-done.invariant.are; cost = omega (arith, c.loop-done.invariant.cost) }

pub loop-at-preserved : goal.loop-at-preserved
loop-at-preserved g c =
    let long = length-take-le c.min-words.result c.args.dst.now (omega arith) in
    let cut = up_to_end (c.args.from / 64) c.args.src.now in
    let word = rw cut at c.window_word.ensures ∙ window_dropped c.args.src.now c.args.from c.loop-at.at in
    record {
      are = joined_behind (omega arith) (omega arith) c.loop-at.invariant.are
          (word_joined c.loop-at.at _ c.word.result c.window_word.result (omega arith) (omega (arith, long)) word
          c.word.ensures);
      cost = search rules;
    }

pub returns-clause-words : goal.returns-clause-words
returns-clause-words g c k inside there =
    let m = c.min-words.result in
    let below : k < m = omega arith in
    let long = length-take-le m c.args.dst.now (omega arith) in
    rw (
      get_or_append_left c.loop-at.dst (drop m c.args.dst.now) 0 k (omega (arith, long)),
      c.loop-at.invariant.are.joined k (omega arith) (omega arith),
      get_or-take m c.args.dst.now k 0 below,
    ) refl
