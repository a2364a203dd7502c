use Rattle.std.proofs.Common.{arith}
use Rattle.fixedbitset.specs.BitsFacts.{same_bits}
use Rattle.bitlaws.proofs.OfJoins.{lengths, members}
use Rattle.bitlaws.proofs.laws.joins_of_joins.Goals as goal

pub returns : goal.returns
returns c = record {
  intersection_absorbs = λ v w. same_bits _ _ (simp lengths) (λ p. simp members (grind arith));
  union_absorbs = λ v w. same_bits _ _ (simp lengths (omega arith)) (λ p. simp members (grind arith));
  intersection_distributes = λ u v w. same_bits _ _ (simp lengths (omega arith)) (λ p. simp members (grind arith));
  union_distributes = λ u v w. same_bits _ _ (simp lengths (omega arith)) (λ p. simp members (grind arith));
}
