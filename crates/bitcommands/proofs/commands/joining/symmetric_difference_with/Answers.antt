use Rattle.fixedbitset.specs.TwoSets.{symmetric_difference}
use Rattle.bitcommands.specs.Guards.{needs_more_words}
use Rattle.bitcommands.proofs.TakenOut.{changed, stopped}
use Rattle.bitcommands.proofs.commands.joining.symmetric_difference_with.Goals as goal

pub returns-in_err-result : goal.returns-in_err-result
returns-in_err-result c =
    λ m. stopped _ _ _ _ _ _ _ _ c.in_ok-check_sets.ensures c.if-a-b.false c.index-sets-a-2.is
    c.replace-taken.ensures.value c.index-sets-b.is symmetric_difference _ _ c.from_residual-in_err-result.ensures
    c.in_err-result.ensures.err c.in_err-result.ensures.succeeds

pub returns : goal.returns
returns c =
    λ m. changed _ _ _ _ _ _ _ _ c.in_ok-check_sets.ensures c.if-a-b.false c.index-sets-a-2.is
    c.replace-taken.ensures.value c.index-sets-b.is needs_more_words symmetric_difference _ c.in_ok-result.ensures.ok
