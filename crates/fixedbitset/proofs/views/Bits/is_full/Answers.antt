use Rattle.std.proofs.Common.{rules}
use Rattle.fixedbitset.specs.Bits.{of_words}
use Rattle.fixedbitset.specs.WordsFacts.{length-of_words}
use Rattle.fixedbitset.proofs.Stopping.{full_stops}
use Rattle.fixedbitset.proofs.views.Bits.is_full.Goals as goal

pub returns-clause-exact_if_true : goal.returns-clause-exact_if_true
returns-clause-exact_if_true c = search rules steps 300000

pub returns-clause-exact_if_stopped : goal.returns-clause-exact_if_stopped
returns-clause-exact_if_stopped c =
    full_stops c.args.self.length (of_words c.args.self.length c.args.self.words.now)
    (length-of_words c.args.self.length c.args.self.words.now) _ c.contains_all_in_range.ensures.exact_if_stopped
