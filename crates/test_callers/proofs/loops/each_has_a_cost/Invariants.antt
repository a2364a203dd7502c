use Rattle.std.proofs.Common.{◌≡◌, nat_lt, slice_index, true}
use Rattle.std.specs.List.{list_all}
use Rattle.fixedbitset.specs.Bits as model
use Rattle.test_callers.proofs.loops.each_has_a_cost.Given as goal

abbrev pub invariant-loop-position : goal.invariant-loop-position
invariant-loop-position l =
    (l.each ≡ true)
    × (list_all (λ p. nat_lt 0 (slice_index l.costs p)) l.position-iterator.items
    ≡ list_all (λ p. nat_lt 0 (slice_index l.costs p)) (model.asc l.set))
