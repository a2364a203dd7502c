use Rattle.std.proofs.Common.{◌∙◌, ap, arith, rules}
use Rattle.flow.specs.Turns.{facts_of}
use Rattle.flow.proofs.Totals.{total_all}
use Rattle.flow.proofs.Turning.{length-all, pending_first}
use Rattle.flow.proofs.rounds.settle.Goals as goal

pub turns-init : goal.turns-init
turns-init c =
    let nodes = ap (λ set. set.length) c.requires.due ∙ length-all _ in
    search (rules, arith, nodes, pending_first)

pub returns-then-not-turn-clause-bound : goal.returns-then-not-turn-clause-bound
returns-then-not-turn-clause-bound c =
    rw (← c.turns.auto.ins) (omega (arith, total_all (facts_of c.args.kills.now) c.turns.ins))

pub turns-smaller : goal.turns-smaller
turns-smaller c =
    rw (← c.turn.auto.ins)
    (omega (arith, total_all (facts_of c.args.kills.now) c.turn.new.ins, c.turn.ensures.grows c.if-not-turn.false))

pub returns-then-not-turn-clause-once : goal.returns-then-not-turn-clause-once
returns-then-not-turn-clause-once c = search rules steps 300000

pub returns-then-not-turn-clause-settled : goal.returns-then-not-turn-clause-settled
returns-then-not-turn-clause-settled c = c.turn.ensures.settled c.if-not-turn.true
