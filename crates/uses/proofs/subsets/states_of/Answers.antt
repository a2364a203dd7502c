use Rattle.std.proofs.Common.{[], ◌∷◌, refl, arith, rules}
use Rattle.uses.specs.FaultFacts.{other_row}
use Rattle.uses.specs.Sets.{AreBelow}
use Rattle.uses.proofs.subsets.states_of.Goals as goal

pub returns-in_default-clause-fault : goal.returns-in_default-clause-fault
returns-in_default-clause-fault c =
    let row = c.args.row.now in
    other_row (AreBelow c.args.states) (row ∷ []) 0 row (omega arith) refl (λ k d within. absurd (omega arith))
    (rw c.in_default.is at (rw c.deref.ensures.value at c.in_ok-set.ensures))

pub returns-clause-set : goal.returns-clause-set
returns-clause-set c = search rules steps 2000000
