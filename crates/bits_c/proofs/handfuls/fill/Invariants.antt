use Rattle.std.proofs.Common.{◌≡◌, ◌≤◌, ◌++◌, length, take, drop}
use Rattle.bits_c.proofs.handfuls.fill.Given as goal

-- the positions that came are written, and the others are left
abbrev pub invariant-loop-index : goal.invariant-loop-index
invariant-loop-index g l =
    let left = g.G.Giver.left in
    record {
      within : l.index ≤ length (left l.fn.giver);
      written : l.positions ≡ take l.index (left l.fn.giver) ++ drop l.index l.fn.positions;
      rest : left l.giver ≡ drop l.index (left l.fn.giver);
    }
