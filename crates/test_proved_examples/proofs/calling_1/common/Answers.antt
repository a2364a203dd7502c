use Rattle.std.proofs.Common.{◌≡◌, ℕ, Option, Some, None, IsTrue, IfSome, IfNone, false, sym, ◌∙◌, arith}
use Rattle.std.proofs.lemmas.Bool.{true≢false, false_from_ne_true}
use Rattle.fixedbitset.specs.Bits.{Bits, contains}
use Rattle.fixedbitset.specs.MemberFacts.{in_intersection}
use Rattle.fixedbitset.specs.NeighbourFacts.{next_one_least, next_one_none}
use Rattle.fixedbitset.specs.Neighbours.{next_one}
use Rattle.fixedbitset.specs.TwoSets.{intersection}
use Rattle.test_proved_examples.proofs.calling_1.common.Goals as goal

pub returns-clause-some : goal.returns-clause-some
returns-clause-some c = by_case c.args.one.now c.args.other.now c.next_common.result c.next_common.ensures
  where
    by_case : (v w : Bits) (o : Option ℕ) → o ≡ next_one (intersection v w) 0
        → IfSome o (λ p. IsTrue (contains v p) × IsTrue (contains w p))
    by_case v w None same = tt
    by_case v w (Some p) same = (in_intersection v w p).0 (next_one_least (intersection v w) 0 p (sym same)).0

pub returns-clause-none : goal.returns-clause-none
returns-clause-none c = by_case c.args.one.now c.args.other.now c.next_common.result c.next_common.ensures
  where
    by_case : (v w : Bits) (o : Option ℕ) → o ≡ next_one (intersection v w) 0
        → IfNone o ((p : ℕ) → IsTrue (contains v p) → contains w p ≡ false)
    by_case v w (Some p) same = tt
    by_case v w None same = λ p one.
        let clear = next_one_none (intersection v w) 0 (sym same) p (omega arith) in
        false_from_ne_true (contains w p) (λ other. true≢false (sym ((in_intersection v w p).1 (one, other)) ∙ clear))
