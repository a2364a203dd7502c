use Rattle.bitcommands.proofs.commands.joining.apply_whole.Goals as goal

pub returns-in-UnionWith : goal.returns-in-UnionWith
returns-in-UnionWith c = rw c.in-UnionWith.is (c.union_with.ensures c.args.limit)

pub returns-in-SymmetricDifferenceWith : goal.returns-in-SymmetricDifferenceWith
returns-in-SymmetricDifferenceWith c =
    rw c.in-SymmetricDifferenceWith.is (c.symmetric_difference_with.ensures c.args.limit)

pub returns-in-BitorAssign : goal.returns-in-BitorAssign
returns-in-BitorAssign c = rw c.in-BitorAssign.is (c.union_with-in-BitorAssign.ensures c.args.limit)

pub returns-in-BitxorAssign : goal.returns-in-BitxorAssign
returns-in-BitxorAssign c = rw c.in-BitxorAssign.is (c.symmetric_difference_with-in-BitxorAssign.ensures c.args.limit)

pub returns-in-IntersectWith : goal.returns-in-IntersectWith
returns-in-IntersectWith c = rw c.in-IntersectWith.is (c.intersect_with.ensures c.args.limit)

pub returns-in-DifferenceWith : goal.returns-in-DifferenceWith
returns-in-DifferenceWith c = rw c.in-DifferenceWith.is (c.difference_with.ensures c.args.limit)

pub returns-in-BitandAssign : goal.returns-in-BitandAssign
returns-in-BitandAssign c = rw c.in-BitandAssign.is (c.intersect_with-in-BitandAssign.ensures c.args.limit)
