use Rattle.std.proofs.Common.{sym, ap, ◌∙◌}
use Rattle.bitwords.specs.CallFacts.{progress_first}
use Rattle.bitwords.specs.Runs.{is_like}
use Rattle.bitwalks.proofs.Running.{unlike, nothing, nothing_there, front, steps_front, steps_none}
use Rattle.bitwalks.proofs.runs.RunsIterator.next.Goals as goal

pub returns-in_default-clause-steps : goal.returns-in_default-clause-steps
returns-in_default-clause-steps c =
    let view = c.self.view_is in
    let inside = c.self.inside in
    let none = sym (ap (λ walk. walk.items) view)
    ∙ nothing (unlike _ _) c.self.invariant.0 c.if-self.false c.in_default.ensures.none in
    let steps = steps_none _ _ _ _ c.self.invariant.0.order c.if-self.false c.in_default.ensures.missed in (
      (none, nothing_there (is_like inside.are_set inside.words.now) inside.end inside.high),
      ap (λ walk. walk.high) view,
      rw (sym view) steps,
    )

pub returns-clause-steps : goal.returns-clause-steps
returns-clause-steps c =
    let view = c.self.view_is in
    let next = c.in-Some.ensures in
    let end = c.next_like-found.ensures in
    let first = sym (ap (λ walk. walk.items) view)
    ∙ front (unlike _ _) c.self.invariant.0 c.if-self.false next.found _ end.found end.none in
    let steps = steps_front _ _ _ _ _ _ _ _ _ _ next.found end.found next.cost end.cost end.missed in (
      rw c.unwrap_or-self-inside.ensures first,
      ap (λ walk. walk.high) view,
      rw (sym view, c.unwrap_or-self-inside.ensures) steps,
    )

pub returns-clause-goes : goal.returns-clause-goes
returns-clause-goes c = progress_first (λ walk. walk.items) c.args.self.now _ _ (returns-clause-steps c).0
