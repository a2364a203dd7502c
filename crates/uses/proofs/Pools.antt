-- Two slots are taken, one and then another one.
use Rattle.std.proofs.Common.{◌≡◌, ◌≢◌, ℕ, inl, inr, refl, subst, arith}
use Rattle.fixedbitset.specs.Bits.{Bits, insert}
use Rattle.fixedbitset.specs.BitsFacts.{length-insert}
use Rattle.fixedbitset.specs.MemberFacts.{in_insert}
use Rattle.bitslots.specs.Slots.{IsTaken, IsFree}

module _ (v : Bits) (first second : ℕ) (is_first : IsFree v first) (is_second : IsFree (insert v first) second) where
  taken_first : IsTaken (insert v first) first
  taken_first = (in_insert v first first is_first.0).1 (inl refl)

  pub two_apart : first ≢ second
  two_apart same = is_second.1 (subst (IsTaken (insert v first)) same taken_first)

  pub two_free : IsFree v second
  two_free = (
    let e = length-insert v first in let h = is_second.0 in omega arith,
    λ taken. is_second.1 ((in_insert v first second is_first.0).1 (inr taken)),
  )

  pub first_stays : (w : Bits) → w ≡ insert (insert v first) second → IsTaken w first
  first_stays w same = rw same ((in_insert (insert v first) second first is_second.0).1 (inr taken_first))

  pub second_too : (w : Bits) → w ≡ insert (insert v first) second → IsTaken w second
  second_too w same = rw same ((in_insert (insert v first) second second is_second.0).1 (inl refl))

-- what holds of them
pub ruleset two_taken = (two_apart, two_free, first_stays, second_too)
