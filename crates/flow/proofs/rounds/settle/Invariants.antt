use Rattle.std.proofs.Common.{◌≡◌, ◌+◌, ◌-◌, ◌*◌, ◌≤◌, length}
use Rattle.fixedbitset.specs.Bits.{empty}
use Rattle.flow.specs.Flow.{Sets}
use Rattle.flow.specs.Turns.{Fits, IsReached, AreSettledBut, total, facts_of}
use Rattle.flow.proofs.rounds.settle.Given as goal

abbrev pub invariant-turns : goal.invariant-turns
invariant-turns l = record {
  fits : Fits (facts_of l.kills) l.kills l.ins l.outs;
  nodes : l.room.due.length ≡ length l.fn.ins;
  next : l.room.next ≡ empty (length l.fn.ins);
  due : AreSettledBut l.room.due l.edges l.ins l.outs;
  reached : (gens : Sets) → length gens ≡ length l.fn.ins → IsReached l.edges gens l.kills l.fn.ins l.fn.outs
      → IsReached l.edges gens l.kills l.ins l.outs;
  from : l.fn.rounds ≤ l.rounds;
  bound : l.rounds ≤ l.fn.rounds + total (facts_of l.kills) l.ins;
}

abbrev pub decreases-turns : goal.decreases-turns
decreases-turns l = length l.ins * facts_of l.kills - total (facts_of l.kills) l.ins
