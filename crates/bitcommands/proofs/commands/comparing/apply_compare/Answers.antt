use Rattle.bitcommands.proofs.commands.comparing.apply_compare.Goals as goal

pub returns-in-UnionCount : goal.returns-in-UnionCount
returns-in-UnionCount c = rw c.in-UnionCount.is (c.union_count.ensures c.args.limit)

pub returns-in-IntersectionCount : goal.returns-in-IntersectionCount
returns-in-IntersectionCount c = rw c.in-IntersectionCount.is (c.intersection_count.ensures c.args.limit)

pub returns-in-DifferenceCount : goal.returns-in-DifferenceCount
returns-in-DifferenceCount c = rw c.in-DifferenceCount.is (c.difference_count.ensures c.args.limit)

pub returns-in-SymmetricDifferenceCount : goal.returns-in-SymmetricDifferenceCount
returns-in-SymmetricDifferenceCount c =
    rw c.in-SymmetricDifferenceCount.is (c.symmetric_difference_count.ensures c.args.limit)

pub returns-in-IsDisjoint : goal.returns-in-IsDisjoint
returns-in-IsDisjoint c = rw c.in-IsDisjoint.is (c.is_disjoint.ensures c.args.limit)

pub returns-in-IsSubset : goal.returns-in-IsSubset
returns-in-IsSubset c = rw c.in-IsSubset.is (c.is_subset.ensures c.args.limit)

pub returns-in-IsSuperset : goal.returns-in-IsSuperset
returns-in-IsSuperset c = rw c.in-IsSuperset.is (c.is_superset.ensures c.args.limit)

pub returns-in-Eq : goal.returns-in-Eq
returns-in-Eq c = rw c.in-Eq.is (c.eq.ensures c.args.limit)

pub returns-in-Cmp : goal.returns-in-Cmp
returns-in-Cmp c = rw c.in-Cmp.is (c.cmp.ensures c.args.limit)
