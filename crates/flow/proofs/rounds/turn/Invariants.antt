use Rattle.flow.specs.Turns.{facts_of}
use Rattle.flow.proofs.Turning.{Turned}
use Rattle.flow.proofs.rounds.turn.Given as goal

abbrev pub invariant-loop-from : goal.invariant-loop-from
invariant-loop-from l =
    Turned (facts_of l.kills) l.edges l.kills l.fn.ins l.fn.outs l.from-index l.ins l.outs l.room.due
    l.room.next l.changed
