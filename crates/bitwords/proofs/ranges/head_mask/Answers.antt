use Rattle.std.proofs.Common.{ℕ, ◌≡◌, ◌&&◌, ◌%◌, ◌/◌, ◌*◌, ◌+◌, ◌-◌, nat_le, nat_lt, ap, ◌∙◌, arith}
use Rattle.bitwords.proofs.Parts.{masked}
use Rattle.bitwords.proofs.ranges.head_mask.Goals as goal

pub returns : goal.returns
returns c =
    let start = c.args.start in
    let end : ℕ = 64 * (start / 64) + 64 in
    let high : 64 ≡ start % 64 + (end - start) = omega arith in
    masked start end c.stretch.result (omega arith) (omega arith)
    (λ i. c.stretch.ensures i ∙ ap (λ n. nat_le (start % 64) i && nat_lt i n) high)
