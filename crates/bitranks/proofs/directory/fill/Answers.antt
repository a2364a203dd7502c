use Rattle.std.proofs.Common.{◌*◌, ◌-◌, ℕ, get_or, arith, rules, sym}
use Rattle.std.proofs.Math.ListN.{length-set}
use Rattle.bitwords.specs.Rows.{has_bit, count_below}
use Rattle.bitwords.specs.CountFacts.{count-zero, count-le}
use Rattle.bitranks.proofs.Counting.{written_more, next_entry, not_zero, eight_words}
use Rattle.bitranks.proofs.directory.fill.Goals as goal

pub loop-entry-init : goal.loop-entry-init
loop-entry-init c =
    let ws = c.args.words.now in
    search (
      rules,
      arith,
      not_zero,
      written_more (λ k. count_below (has_bit ws) (64 * (8 * k))) c.args.directory.now 0 0,
      sym (count-zero (has_bit ws)),
    )

pub overflow_add-directory : goal.overflow_add-directory
overflow_add-directory c =
    let ws = c.args.words.now in
    let n : ℕ = c.loop-entry.entry in
    let had = c.loop-entry.invariant.counts (n - 1) (omega arith) in
    let next = next_entry ws n (get_or c.loop-entry.directory (n - 1) 0) c.count-more.result (omega arith) had
    c.count-more.ensures.count in
    omega (arith, next, count-le (has_bit ws) (64 * (8 * n)), length-set c.args.directory.now 0 0)

pub loop-entry-preserved : goal.loop-entry-preserved
loop-entry-preserved c =
    let ws = c.args.words.now in
    let n : ℕ = c.loop-entry.entry in
    let had = c.loop-entry.invariant.counts (n - 1) (omega arith) in
    let next = next_entry ws n (get_or c.loop-entry.directory (n - 1) 0) c.count-more.result (omega arith) had
    c.count-more.ensures.count in
    record {
      counts = written_more (λ k. count_below (has_bit ws) (64 * (8 * k))) c.loop-entry.directory n _ (omega arith)
          c.loop-entry.invariant.counts next;
      cost = omega (arith, eight_words (n - 1), c.loop-entry.invariant.cost, c.count-more.ensures.cost);
    }
