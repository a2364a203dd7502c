use Rattle.std.proofs.Common.{arith, rules}
use Rattle.fixedbitset.proofs.JoinedCounts.{contains_all_of}
use Rattle.fixedbitset.specs.Bits.{of_words}
use Rattle.fixedbitset.specs.WordsFacts.{length-of_words}
use Rattle.fixedbitset.proofs.Stopping.{all_stops}
use Rattle.fixedbitset.proofs.Words.{valid_range}
use Rattle.fixedbitset.proofs.views.Bits.contains_all_in_range.Goals as goal

pub returns-clause-cost : goal.returns-clause-cost
returns-clause-cost c = search rules steps 100000

pub returns-clause-answer : goal.returns-clause-answer
returns-clause-answer c = search (rules, contains_all_of) steps 100000

pub returns-clause-exact_if_stopped : goal.returns-clause-exact_if_stopped
returns-clause-exact_if_stopped c =
    all_stops _ c.args.self.words.now c.args.self.clean c.args.start c.args.end
    (omega (
      arith,
      valid_range (of_words c.args.self.length c.args.self.words.now) c.args.start c.args.end c.requires,
      length-of_words c.args.self.length c.args.self.words.now,
    )) _ _ c.none_in.ensures.exact_if_stopped
