use Rattle.std.proofs.Common.{◌≡◌, ◌++◌, map, take, drop}
use Rattle.bits_c.specs.Walks.{low32}
use Rattle.bits_c.proofs.handfuls.narrow.Given as goal

-- the places of the positions that came are written
abbrev pub invariant-loop-index : goal.invariant-loop-index
invariant-loop-index l = l.places ≡ map low32 (take l.index l.positions) ++ drop l.index l.fn.places
