use Rattle.std.proofs.Common.{arith}
use Rattle.std.proofs.lemmas.Bool.Decides.{nat_tests}
use Rattle.fixedbitset.specs.BitsFacts.{same_bits, contains_below}
use Rattle.bitlaws.proofs.OfJoins.{lengths, members}
use Rattle.bitlaws.proofs.laws.complements.Goals as goal

pub returns : goal.returns
returns c = record {
  twice =
      λ v. same_bits _ _ (simp lengths) (λ p. simp (members, lengths) (grind (arith, nat_tests, contains_below v p)));
  of_union =
      λ v w long. same_bits _ _ (simp lengths (omega arith)) (λ p. simp (members, lengths, ← long) (grind arith));
  of_intersection =
      λ v w long. same_bits _ _ (simp lengths (omega arith)) (λ p. simp (members, lengths, ← long) (grind arith));
  difference =
      λ v w shorter. same_bits _ _ (simp lengths) (λ p. simp members (grind (arith, nat_tests, contains_below v p)));
}
