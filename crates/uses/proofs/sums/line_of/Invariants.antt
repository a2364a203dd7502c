use Rattle.std.proofs.Common.{◌≡◌, ◌++◌, [], ◌∷◌, string_bytes}
use Rattle.std.specs.Prelude.{decimal}
use Rattle.std.specs.List.{flat_map, join_by}
use Rattle.fixedbitset.specs.Bits.{asc}
use Rattle.uses.proofs.sums.line_of.Given as goal

abbrev pub invariant-loop-total : goal.invariant-loop-total
invariant-loop-total l =
    string_bytes l.line ++ flat_map (λ total. (32 ∷ []) ++ decimal total) l.total-iterator.items
    ≡ join_by decimal (32 ∷ []) (asc l.totals)
