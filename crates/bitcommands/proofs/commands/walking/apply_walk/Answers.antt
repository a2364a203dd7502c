use Rattle.bitcommands.proofs.commands.walking.apply_walk.Goals as goal

pub returns-in-Ones : goal.returns-in-Ones
returns-in-Ones c = rw c.in-Ones.is (rw c.as_slice.ensures.value at (c.ones.ensures c.args.limit))

pub returns-in-IntoOnes : goal.returns-in-IntoOnes
returns-in-IntoOnes c =
    rw c.in-IntoOnes.is (rw c.as_slice-in-IntoOnes.ensures.value at (c.into_ones.ensures c.args.limit))

pub returns-in-Zeroes : goal.returns-in-Zeroes
returns-in-Zeroes c = rw c.in-Zeroes.is (rw c.as_slice-in-Zeroes.ensures.value at (c.zeroes.ensures c.args.limit))

pub returns-in-Union : goal.returns-in-Union
returns-in-Union c = rw c.in-Union.is (rw c.as_slice-in-Union.ensures.value at (c.union.ensures c.args.limit))

pub returns-in-Intersection : goal.returns-in-Intersection
returns-in-Intersection c =
    rw c.in-Intersection.is (rw c.as_slice-in-Intersection.ensures.value at (c.intersection.ensures c.args.limit))

pub returns-in-Difference : goal.returns-in-Difference
returns-in-Difference c =
    rw c.in-Difference.is (rw c.as_slice-in-Difference.ensures.value at (c.difference.ensures c.args.limit))

pub returns-in-SymmetricDifference : goal.returns-in-SymmetricDifference
returns-in-SymmetricDifference c =
    rw c.in-SymmetricDifference.is
    (rw c.as_slice-in-SymmetricDifference.ensures.value at (c.symmetric_difference.ensures c.args.limit))
