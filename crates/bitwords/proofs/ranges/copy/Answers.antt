use Rattle.std.proofs.Common.{ℕ, ◌+◌, ◌-◌, arith}
use Rattle.bitwords.proofs.Copied.{IsCopied-append, IsCopied-between}
use Rattle.bitwords.proofs.ranges.copy.Goals as goal

pub returns-clause-bits : goal.returns-clause-bits
returns-clause-bits c =
    let cut = c.cut-low.ensures in
    let ws = c.args.other.now in
    let from : ℕ = c.args.from in
    let start : ℕ = c.args.start in
    let low : ℕ = c.cut-low.result.0 in
    let high : ℕ = c.cut-low.result.1 in
    let middle = IsCopied-between ws (from + (low - start)) start c.args.end low high _ _ cut
    c.copy_whole.ensures.bits in
    let upto = IsCopied-append ws from start low high _ _ _ cut.first cut.middle c.copy_part.ensures.bits middle in
    IsCopied-append ws from start high c.args.end _ _ _ (omega (arith, cut.first, cut.middle)) cut.last upto
    c.copy_part-2.ensures.bits

pub returns-clause-cost : goal.returns-clause-cost
returns-clause-cost c = grind arith
