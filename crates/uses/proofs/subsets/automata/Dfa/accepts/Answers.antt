use Rattle.std.proofs.Common.{arith, rules}
use Rattle.uses.proofs.WordRuns.{run_more, run_done}
use Rattle.uses.proofs.subsets.automata.Dfa.accepts.Goals as goal

pub loop-letter-preserved : goal.loop-letter-preserved
loop-letter-preserved c =
    run_more _ _ _ _ _ _ _ c.requires.arrows c.requires.table c.loop-letter.invariant c.loop-letter-test.true
    (omega arith) c.index-state.ensures

pub returns : goal.returns
returns c = run_done _ _ _ _ _ _ _ _ c.requires.flags c.loop-letter-test.false c.loop-letter.invariant c.index.ensures

pub returns-then-letter-self : goal.returns-then-letter-self
returns-then-letter-self c = search rules steps 300000
