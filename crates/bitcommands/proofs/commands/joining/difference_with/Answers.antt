use Rattle.std.proofs.Common.{false}
use Rattle.fixedbitset.specs.TwoSets.{difference}
use Rattle.bitcommands.proofs.TakenOut.{changed}
use Rattle.bitcommands.proofs.commands.joining.difference_with.Goals as goal

pub returns : goal.returns
returns c =
    λ m. changed _ _ _ _ _ _ _ _ c.in_ok-check_sets.ensures c.if-a-b.false c.index-sets-a-2.is
    c.replace-taken.ensures.value c.index-sets-b.is (λ v n. false) difference _ c.difference_with.ensures
