use Rattle.std.proofs.Common.{◌∙◌, arith, rules}
use Rattle.fixedbitset.specs.TwoSetsFacts.{intersection-same}
use Rattle.fixedbitset.proofs.Positions.{apart_from_itself, none_is_clear}
use Rattle.fixedbitset.proofs.views.Bits.is_clear.Goals as goal

pub returns-then-words-gt-SHORT-clause-answer : goal.returns-then-words-gt-SHORT-clause-answer
returns-then-words-gt-SHORT-clause-answer c =
    none_is_clear _ c.minimum.result _ c.minimum.ensures.value c.is_none.ensures

pub returns-then-words-gt-SHORT-clause-cost : goal.returns-then-words-gt-SHORT-clause-cost
returns-then-words-gt-SHORT-clause-cost c = search rules steps 300000

pub returns-else-words-gt-SHORT-clause-answer : goal.returns-else-words-gt-SHORT-clause-answer
returns-else-words-gt-SHORT-clause-answer c = c.is_disjoint.ensures.answer ∙ apart_from_itself _

pub returns-else-words-gt-SHORT-clause-cost : goal.returns-else-words-gt-SHORT-clause-cost
returns-else-words-gt-SHORT-clause-cost c = rw (intersection-same _) at c.is_disjoint.ensures.exact_if_stopped

pub returns-else-words-gt-SHORT-clause-exact_if_true : goal.returns-else-words-gt-SHORT-clause-exact_if_true
returns-else-words-gt-SHORT-clause-exact_if_true c clear = grind (arith, c.is_disjoint.ensures.exact_if_true clear)
