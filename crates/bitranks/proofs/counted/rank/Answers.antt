use Rattle.std.proofs.Common.{ap, ◌∙◌, arith}
use Rattle.fixedbitset.specs.Bits.{words_needed}
use Rattle.bitranks.proofs.Counting.{kept_rank, kept_words}
use Rattle.bitranks.proofs.counted.rank.Goals as goal

pub returns-clause-value : goal.returns-clause-value
returns-clause-value c =
    cc (kept_rank _ _ _ c.ranks.invariant c.args.position c.rank.result c.rank.ensures.count, c.ranks.view_is)

pub returns-clause-cost : goal.returns-clause-cost
returns-clause-cost c =
    omega (
      arith,
      c.rank.ensures.cost,
      kept_words _ _ _ c.ranks.invariant ∙ ap (λ v. words_needed v.length) c.ranks.view_is,
    )
