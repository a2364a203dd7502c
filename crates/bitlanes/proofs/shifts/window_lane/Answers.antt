use Rattle.std.proofs.Common.{ℕ, ◌+◌, ◌-◌, List, length, take, drop, arith}
use Rattle.std.proofs.lemmas.List.{get_or-take, get_or-drop, length-take, length-drop}
use Rattle.std.proofs.lemmas.Simd.{get_or-chunk}
use Rattle.bitlanes.proofs.shifts.window_lane.Goals as goal

pub returns-clause-words : goal.returns-clause-words
returns-clause-words c k h =
    let ws = c.args.words.now in
    let at = c.args.at in
    let five : List ℕ = take (at + 5 - at) (drop at ws) in
    let next : List ℕ = take (length five - 1) (drop 1 five) in
    grind (
      arith,
      c.straddle_lane.ensures.words k h,
      length-take (at + 5 - at) (drop at ws),
      length-drop at ws,
      get_or-chunk 0 4 five k 0 h,
      get_or-take (at + 5 - at) (drop at ws) k 0,
      get_or-drop at ws k 0,
      get_or-chunk 0 4 next k 0 h,
      get_or-take (length five - 1) (drop 1 five) k 0,
      get_or-drop 1 five k 0,
      get_or-take (at + 5 - at) (drop at ws) (1 + k) 0,
      get_or-drop at ws (1 + k) 0,
    )
