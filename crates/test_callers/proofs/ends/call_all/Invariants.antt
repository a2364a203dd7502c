use Rattle.std.proofs.Common.{◌≡◌, ◌+◌, drop, length}
use Rattle.test_callers.specs.Calls.{left_after}
use Rattle.test_callers.proofs.ends.call_all.Given as goal

abbrev pub invariant-loop-front : goal.invariant-loop-front
invariant-loop-front l = record {
  items : left_after (drop l.front-index l.ends) l.walk.items ≡ left_after l.ends l.fn.walk.items;
  turns : l.walk.turns + l.fn.walk.taken ≡ l.fn.walk.turns + l.front-index + l.walk.taken;
  taken : l.walk.taken + length l.walk.words ≡ l.fn.walk.taken + length l.fn.walk.words;
}
