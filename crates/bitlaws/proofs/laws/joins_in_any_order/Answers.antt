use Rattle.std.proofs.Common.{arith}
use Rattle.fixedbitset.specs.BitsFacts.{same_bits}
use Rattle.fixedbitset.specs.TwoSetsFacts.{union-same, intersection-same}
use Rattle.bitlaws.proofs.OfJoins.{lengths, members}
use Rattle.bitlaws.proofs.laws.joins_in_any_order.Goals as goal

pub returns : goal.returns
returns c = record {
  union_commutes = λ v w. same_bits _ _ (simp lengths (omega arith)) (λ p. simp members (grind arith));
  symmetric_difference_commutes = λ v w. same_bits _ _ (simp lengths (omega arith)) (λ p. simp members (grind arith));
  bitand_commutes = λ v w. same_bits _ _ (simp lengths (omega arith)) (λ p. simp members (grind arith));
  union_associates = λ u v w. same_bits _ _ (simp lengths (omega arith)) (λ p. simp members (grind arith));
  symmetric_difference_associates =
      λ u v w. same_bits _ _ (simp lengths (omega arith)) (λ p. simp members (grind arith));
  intersection_associates = λ u v w. same_bits _ _ (simp lengths) (λ p. simp members (grind arith));
  bitand_associates = λ u v w. same_bits _ _ (simp lengths (omega arith)) (λ p. simp members (grind arith));
  union_idempotent = union-same;
  intersection_idempotent = intersection-same;
  bitand_idempotent = λ v. same_bits _ _ (simp lengths (omega arith)) (λ p. simp members (grind arith));
  is_bitand = λ v w shorter. same_bits _ _ (simp lengths (omega arith)) (λ p. simp members);
}
