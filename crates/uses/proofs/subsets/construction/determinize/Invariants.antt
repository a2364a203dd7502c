use Rattle.std.proofs.Common.{◌≡◌, ◌+◌, ◌-◌, ◌*◌, ◌<◌, ◌≤◌, length}
use Rattle.uses.proofs.PartsBuilt.{IsPart}
use Rattle.uses.proofs.AcceptingSets.{AreFlags}
use Rattle.uses.proofs.subsets.construction.determinize.Given as goal

abbrev pub invariant-states : goal.invariant-states
invariant-states l = record {
  part : IsPart l.nfa l.sets.items l.next.items;
  place : length l.next.items ≡ l.state * l.nfa.letters;
  flags : AreFlags l.sets.items l.nfa.accepting l.accepting.items;
  many : length l.accepting.items ≡ l.state;
  within : l.state ≤ length l.sets.items;
  limit : length l.sets.items ≤ l.limit;
}

abbrev pub invariant-loop-letter : goal.invariant-loop-letter
invariant-loop-letter l = record {
  part : IsPart l.nfa l.sets.items l.next.items;
  place : length l.next.items ≡ l.state * l.nfa.letters + l.letter;
  flags : AreFlags l.sets.items l.nfa.accepting l.accepting.items;
  many : length l.accepting.items ≡ l.state + 1;
  within : l.state < length l.sets.items;
  limit : length l.sets.items ≤ l.limit;
}

abbrev pub decreases-states : goal.decreases-states
decreases-states l = l.limit - l.state
