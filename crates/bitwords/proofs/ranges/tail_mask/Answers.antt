use Rattle.std.proofs.Common.{ℕ, ◌≡◌, ◌&&◌, ◌%◌, ◌/◌, ◌*◌, ◌+◌, ◌-◌, nat_le, nat_lt, ap, ◌∙◌, arith}
use Rattle.bitwords.proofs.Parts.{masked}
use Rattle.bitwords.proofs.ranges.tail_mask.Goals as goal

pub returns : goal.returns
returns c =
    let end = c.args.end in
    let at : ℕ = (end - 1) / 64 in
    let start : ℕ = 64 * at in
    let here : start / 64 ≡ at = omega arith in
    let low : 0 ≡ start % 64 = omega arith in
    let high : (end - 1) % 64 + 1 ≡ start % 64 + (end - start) = omega (arith, c.requires) in
    rw here at (masked start end c.stretch.result (omega (arith, c.requires)) (omega arith)
    (λ i. c.stretch.ensures i ∙ ap (λ n. nat_le n i && nat_lt i ((end - 1) % 64 + 1)) low
    ∙ ap (λ n. nat_le (start % 64) i && nat_lt i n) high))
