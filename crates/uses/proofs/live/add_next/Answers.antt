use Rattle.std.proofs.Common.{◌≤◌, ℕ, arith}
use Rattle.std.proofs.lemmas.List.Elements.{All-push}
use Rattle.uses.proofs.live.add_next.Goals as goal

pub loop-to-preserved : goal.loop-to-preserved
loop-to-preserved c =
    rw c.in_ok-push.ensures.items (All-push
    (λ (pair : ℕ × ℕ). pair.0 ≤ c.args.from) c.loop-to.pairs.items _ c.loop-to.invariant (omega arith))
