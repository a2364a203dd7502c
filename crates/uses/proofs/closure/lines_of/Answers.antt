use Rattle.std.proofs.Common.{◌∙◌, ap}
use Rattle.std.proofs.lemmas.List.{take_all}
use Rattle.uses.specs.Edges.{pair_lines}
use Rattle.uses.proofs.closure.lines_of.Goals as goal

pub returns-clause-printed : goal.returns-clause-printed
returns-clause-printed c = record {
  pairs = c.in_ok-closure.field-0.items;
  ascending = c.in_ok-closure.ensures.ascending;
  members = c.in_ok-closure.ensures.joined;
  is_text = c.loop-from.invariant
      ∙ ap pair_lines (take_all c.loop-from.from-index c.deref-from-items.result.now c.loop-from-test.false
      ∙ c.deref-from-items.ensures.value);
}
