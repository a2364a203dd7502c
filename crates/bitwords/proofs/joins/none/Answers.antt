use Rattle.std.proofs.Common.{◌/◌, ◌==◌, ◌∙◌, ap, rules}
use Rattle.bitlanes.specs.Words.{zip_longest}
use Rattle.bitwords.proofs.Counted.{all-ones}
use Rattle.bitwords.proofs.Stopping.{word_of_first}
use Rattle.bitwords.proofs.TwoRows.{longest-ones, AreWords-longest, has_bit-longest}
use Rattle.bitwords.proofs.joins.none.Goals as goal

pub returns-clause-none : goal.returns-clause-none
returns-clause-none g c =
    c.none_words.ensures.zero
    ∙ all-ones (zip_longest g.O.WordOp.joined g.O.WordOp.KEEP g.O.WordOp.TAKE c.args.a.now c.args.b.now)
    ∙ ap (λ n. n == 0)
    (longest-ones g.met.O.WordOp.laws c.args.a.now c.args.b.now (λ k. search rules) (λ k. search rules))

pub returns-clause-exact_if_stopped : goal.returns-clause-exact_if_stopped
returns-clause-exact_if_stopped g c p next =
    let laws = g.met.O.WordOp.laws in
    c.none_words.ensures.exact_if_stopped (p / 64)
    (word_of_first _ (AreWords-longest laws c.args.a.now c.args.b.now (λ k. search rules) (λ k. search rules)) _ _
    (λ i _. has_bit-longest laws c.args.a.now c.args.b.now (λ k. search rules) (λ k. search rules) i) p next)
