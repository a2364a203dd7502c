use Rattle.std.proofs.Common.{false}
use Rattle.fixedbitset.specs.TwoSets.{intersection}
use Rattle.bitcommands.proofs.TakenOut.{changed}
use Rattle.bitcommands.proofs.commands.joining.intersect_with.Goals as goal

pub returns : goal.returns
returns c =
    λ m. changed _ _ _ _ _ _ _ _ c.in_ok-check_sets.ensures c.if-a-b.false c.index-sets-a.is
    c.replace-taken.ensures.value c.index-sets-b.is (λ v n. false) intersection _ c.intersect_with.ensures
