use Rattle.bitwords.proofs.Stopping.{stops_alike}
use Rattle.bitwords.proofs.joins.none_words.Goals as goal

pub returns-else-a-b-clause-exact_if_true : goal.returns-else-a-b-clause-exact_if_true
returns-else-a-b-clause-exact_if_true g c = c.none_unlike.ensures.exact_if_true

pub returns-then-a-b-clause-exact_if_stopped : goal.returns-then-a-b-clause-exact_if_stopped
returns-then-a-b-clause-exact_if_stopped g c at first =
    stops_alike g.O.WordOp.joined g.O.WordOp.KEEP g.O.WordOp.TAKE c.args.a.now c.args.b.now at first c.if-a-b.true _ _
    c.none.ensures.exact_if_stopped
