use Rattle.std.proofs.Common.{◌≡◌, ◌+◌, ◌-◌, ◌*◌, ◌<◌, take}
use Rattle.bitlanes.specs.Shifts.{window}
use Rattle.bitlanes.specs.Words.{lane_steps}
use Rattle.bitlanes.proofs.Moved.{AreJoined}
use Rattle.bitlanes.proofs.shifts.join_down.Given as goal

abbrev pub invariant-loop-done : goal.invariant-loop-done
invariant-loop-done g l = record {
  are : AreJoined g.O.WordOp.joined (λ k. window l.fn.src (l.fn.from + 64 * k)) (take l.words l.fn.dst) 0 l.done l.dst;
  within : l.done < l.words;
  cost : 4 * l.steps ≡ 4 * l.fn.steps + l.done;
}

abbrev pub decreases-loop-done : goal.decreases-loop-done
decreases-loop-done g l = l.words - l.done

abbrev pub invariant-loop-at : goal.invariant-loop-at
invariant-loop-at g l = record {
  are : AreJoined g.O.WordOp.joined (λ k. window l.fn.src (l.fn.from + 64 * k)) (take l.words l.fn.dst) 0 l.at l.dst;
  cost : l.steps ≡ l.fn.steps + lane_steps l.at;
}
