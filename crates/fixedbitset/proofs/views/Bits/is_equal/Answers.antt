use Rattle.std.proofs.Common.{◌≡◌, ◌+◌, ◌/◌, sym, ◌∙◌, rules}
use Rattle.std.proofs.lemmas.Bool.{ne_eqb}
use Rattle.fixedbitset.proofs.JoinedCounts.{equal_of, other_length}
use Rattle.fixedbitset.specs.WordsFacts.{length-of_words}
use Rattle.bitlanes.specs.Words.{lane_steps}
use Rattle.fixedbitset.proofs.Stopping.{equal_stops, where_some}
use Rattle.fixedbitset.proofs.views.Bits.is_equal.Goals as goal

pub returns-then-self-other-clause-answer : goal.returns-then-self-other-clause-answer
returns-then-self-other-clause-answer c =
    c.none.ensures.none
    ∙ equal_of _ _ (length-of_words c.args.self.length c.args.self.words.now ∙ c.if-self-other.true
    ∙ sym (length-of_words c.args.other.length c.args.other.words.now))

pub returns-else-self-other-clause-answer : goal.returns-else-self-other-clause-answer
returns-else-self-other-clause-answer c =
    ne_eqb _ _ c.if-self-other.false
    ∙ sym (other_length _ _ (λ e.
    c.if-self-other.false (sym (length-of_words c.args.self.length c.args.self.words.now) ∙ e
    ∙ length-of_words c.args.other.length c.args.other.words.now)))

pub returns-then-self-other-clause-exact_if_true : goal.returns-then-self-other-clause-exact_if_true
returns-then-self-other-clause-exact_if_true c = search rules steps 1000000

pub returns-then-self-other-clause-exact_if_stopped : goal.returns-then-self-other-clause-exact_if_stopped
returns-then-self-other-clause-exact_if_stopped c =
    equal_stops c.args.self.length c.args.self.words.now c.args.other.length c.args.other.words.now
    c.args.self.clean c.args.other.clean _ _ c.none.ensures.exact_if_stopped

pub returns-else-self-other-clause-exact_if_stopped : goal.returns-else-self-other-clause-exact_if_stopped
returns-else-self-other-clause-exact_if_stopped c =
    where_some _
    (λ p. c.args.self.length ≡ c.args.other.length → c.args.steps.now ≡ c.args.steps.now + lane_steps (p / 64 + 1))
    (λ p found same. absurd (c.if-self-other.false same))
