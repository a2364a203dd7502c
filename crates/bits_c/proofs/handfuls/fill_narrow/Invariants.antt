use Rattle.std.proofs.Common.{◌-◌, length}
use Rattle.bits_c.proofs.Takes.{NarrowSome}
use Rattle.bits_c.proofs.handfuls.fill_narrow.Given as goal

-- the first positions are written, and the others are left
abbrev pub invariant-loop-count : goal.invariant-loop-count
invariant-loop-count g l =
    record { some : NarrowSome g.G.Giver.left l.fn.giver l.fn.positions l.count l.positions l.giver }

abbrev pub decreases-loop-count : goal.decreases-loop-count
decreases-loop-count g l = length l.positions - l.count
