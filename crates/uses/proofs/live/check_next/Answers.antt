use Rattle.std.proofs.Common.{◌∙◌, ℕ, ◌<◌, length, take, subst, arith, All}
use Rattle.std.proofs.lemmas.List.{take_more, take_all}
use Rattle.std.proofs.lemmas.List.Elements.{All-push}
use Rattle.uses.proofs.live.check_next.Goals as goal

pub loop-from-preserved : goal.loop-from-preserved
loop-from-preserved c =
    let edges = c.deref-from-items.result.now in
    let below = c.if-to-len.false in
    let long = c.len.ensures in
    rw (take_more edges c.loop-from.from-index (0, 0) c.loop-from-test.true)
    (All-push (λ (edge : ℕ × ℕ).
    edge.1 < length c.args.program.now.uses.items) (take c.loop-from.from-index edges) _ c.loop-from.invariant
    (omega arith))

pub returns : goal.returns
returns c =
    subst
    (All (λ (edge : ℕ × ℕ).
    edge.1 < length c.args.program.now.uses.items))
    (take_all c.loop-from.from-index c.deref-from-items.result.now c.loop-from-test.false
    ∙ c.deref-from-items.ensures.value) c.loop-from.invariant
