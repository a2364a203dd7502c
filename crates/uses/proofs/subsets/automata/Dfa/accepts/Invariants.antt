use Rattle.uses.proofs.WordRuns.{IsRun}
use Rattle.uses.proofs.subsets.automata.Dfa.accepts.Given as goal

abbrev pub invariant-loop-letter : goal.invariant-loop-letter
invariant-loop-letter l = IsRun l.self.letters l.self.sets.items l.self.next.items l.word l.state l.letter-index
