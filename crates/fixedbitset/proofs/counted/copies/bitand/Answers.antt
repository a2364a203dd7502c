use Rattle.std.proofs.Common.{◌≡◌, ℕ, ◌≤◌, false, arith}
use Rattle.std.proofs.lemmas.Grind.{common_steps}
use Rattle.bitwords.specs.Steps.{join_steps, both_steps}
use Rattle.fixedbitset.specs.Bits.{storage_words}
use Rattle.fixedbitset.proofs.JoinedValues.{bitand_longer, bitand_shorter}
use Rattle.fixedbitset.proofs.Words.{viewed_length}
use Rattle.fixedbitset.proofs.counted.copies.bitand.Goals as goal

-- where the joined set is the shorter one, nothing is left to clear
join_whole : (m n : ℕ) → m ≤ n
    → join_steps false (storage_words m) (storage_words n) ≡ both_steps false false (storage_words n) (storage_words m)
join_whole m n le = let fewer : storage_words m ≤ storage_words n = omega arith in omega arith

pub returns-else-set-other-clause-cost : goal.returns-else-set-other-clause-cost
returns-else-set-other-clause-cost c =
    omega (
      arith,
      c.joined_copy-else-set-other.ensures.cost,
      c.if-set-other.false,
      viewed_length _ _ _ c.set.view_is,
      viewed_length _ _ _ c.other.view_is,
    )

pub returns-else-set-other-clause-exact_if_ok : goal.returns-else-set-other-clause-exact_if_ok
returns-else-set-other-clause-exact_if_ok c =
    let shorter : c.args.other.now.length ≤ c.args.set.now.length =
    omega (arith, c.if-set-other.false, viewed_length _ _ _ c.set.view_is, viewed_length _ _ _ c.other.view_is) in
    rw (← join_whole c.args.other.now.length c.args.set.now.length shorter)
    c.joined_copy-else-set-other.ensures.exact_if_ok

pub returns-else-set-other-clause-value : goal.returns-else-set-other-clause-value
returns-else-set-other-clause-value c = grind (arith, bitand_shorter, bitand_longer, viewed_length)

pub returns-then-set-other-clause-exact_if_ok : goal.returns-then-set-other-clause-exact_if_ok
returns-then-set-other-clause-exact_if_ok c = grind (arith, common_steps, viewed_length)
