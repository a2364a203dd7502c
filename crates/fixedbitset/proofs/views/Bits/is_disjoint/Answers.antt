use Rattle.std.proofs.Common.{rules}
use Rattle.fixedbitset.proofs.JoinedCounts.{disjoint_of}
use Rattle.fixedbitset.proofs.Stopping.{disjoint_stops}
use Rattle.fixedbitset.proofs.views.Bits.is_disjoint.Goals as goal

pub returns-clause-answer : goal.returns-clause-answer
returns-clause-answer c = search (rules, disjoint_of) steps 100000

pub returns-clause-cost : goal.returns-clause-cost
returns-clause-cost c = search rules steps 300000

pub returns-clause-exact_if_stopped : goal.returns-clause-exact_if_stopped
returns-clause-exact_if_stopped c =
    disjoint_stops c.args.self.length c.args.self.words.now c.args.other.length c.args.other.words.now
    c.args.self.clean c.args.other.clean _ _ c.none.ensures.exact_if_stopped
