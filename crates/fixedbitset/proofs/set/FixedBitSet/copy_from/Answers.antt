use Rattle.std.proofs.Common.{arith, ◌∙◌, rules}
use Rattle.fixedbitset.proofs.Words.{viewed_count}
use Rattle.fixedbitset.proofs.set.FixedBitSet.copy_from.Goals as goal

pub returns-in_err-resize-clause-succeeds : goal.returns-in_err-resize-clause-succeeds
returns-in_err-resize-clause-succeeds c = λ needs.
    let own = viewed_count _ _ _ c.self.view_is c.self.invariant in
    let needed = viewed_count _ _ _ c.source.view_is c.source.invariant in
    absurd (omega (
      arith,
      own,
      needed,
      needs,
      c.len.ensures,
      c.self.inside.words.ok,
      c.source.inside.words.ok,
      c.in_err-resize.ensures.full,
    ))

pub returns-clause-cost : goal.returns-clause-cost
returns-clause-cost c =
    let needed = c.len-2.ensures ∙ c.source.inside.words.ok.0
    ∙ viewed_count _ _ _ c.source.view_is c.source.invariant in
    rw (← needed) c.tick_lanes.ensures

pub invariant_of-self-2 : goal.invariant_of-self-2
invariant_of-self-2 c = grind arith steps 100000

pub returns-clause-ok : goal.returns-clause-ok
returns-clause-ok c = grind arith

pub invariant_of-self : goal.invariant_of-self
invariant_of-self c = search rules steps 300000
