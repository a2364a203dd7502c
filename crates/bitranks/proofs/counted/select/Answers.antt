use Rattle.std.proofs.Common.{length, ap, ◌∙◌, arith}
use Rattle.fixedbitset.specs.Bits.{words_needed}
use Rattle.bitranks.specs.Ranks.{entries}
use Rattle.bitranks.proofs.Counting.{kept_select, kept_entries, kept_words}
use Rattle.bitranks.proofs.counted.select.Goals as goal

pub returns-clause-value : goal.returns-clause-value
returns-clause-value c =
    cc (kept_select _ _ _ c.ranks.invariant c.args.index c.select.result c.select.ensures.value, c.ranks.view_is)

pub returns-clause-cost : goal.returns-clause-cost
returns-clause-cost c =
    let all = kept_entries _ _ _ c.ranks.invariant ∙ ap (λ v. entries (words_needed v.length)) c.ranks.view_is in
    rw (ap length c.deref.ensures.value ∙ all) at c.select.ensures.cost

pub returns-clause-exact_if_none : goal.returns-clause-exact_if_none
returns-clause-exact_if_none c =
    let all = kept_entries _ _ _ c.ranks.invariant ∙ ap (λ v. entries (words_needed v.length)) c.ranks.view_is in
    let words = kept_words _ _ _ c.ranks.invariant ∙ ap (λ v. words_needed v.length) c.ranks.view_is in
    rw (ap length c.deref.ensures.value ∙ all, words) at c.select.ensures.exact_if_none

pub returns-clause-bound : goal.returns-clause-bound
returns-clause-bound c n long =
    let all = kept_entries _ _ _ c.ranks.invariant ∙ ap (λ v. entries (words_needed v.length)) c.ranks.view_is in
    c.select.ensures.bound n (omega (arith, ap length c.deref.ensures.value, all))
