use Rattle.std.proofs.Common.{◌≡◌, ℕ, ◌+◌, ◌-◌, ◌*◌, ◌<◌, ◌≤◌, ◌&&◌, nat_le, nat_lt, min, ap, ◌∙◌, arith}
use Rattle.bitwords.specs.Ascending.{ascending}
use Rattle.bitwords.specs.Rows.{has_bit, in_range}
use Rattle.std.proofs.lemmas.Bool.Decides.{nat_tests}
use Rattle.bitwords.proofs.Cut.{ones_from-cut}
use Rattle.bitwords.proofs.cursors.Cursor.within.Goals as goal

-- the bits of the first word
first_bits : (low end i : ℕ) → i < 64 → (nat_le low i && nat_lt i (min end 64)) ≡ in_range low end i
first_bits low end i small = grind (arith, nat_tests)

-- the bits of the last word
last_bits : (low end between i : ℕ) → low ≤ 64
    → nat_lt i (end - 64 * (between + 1)) ≡ in_range low end (64 * (between + 1) + i)
last_bits low end between i first = grind (arith, nat_tests)

pub returns : goal.returns
returns g c =
    let ends = c.ends_of-ends.result in
    let words = g.M.Middle.words c.args.words in
    let made = c.placed.ensures in
    let items : c.placed.result.items ≡ ascending (λ p. has_bit words (p - c.args.at)) (c.args.at + c.args.low)
    (c.args.end - c.args.low) =
    ap (λ walk. walk.items) made
    ∙ ones_from-cut words (g.M.Middle.words ends.middle) ends.front ends.back c.args.at c.args.low c.args.end
    c.ends_of-ends.ensures.middle c.ends_of-ends.ensures.bits c.requires.first c.requires.order c.requires.long
    c.requires.last c.stretch.result c.ones_below.result
    (λ i small. c.stretch.ensures i ∙ rw c.min.ensures (first_bits c.args.low c.args.end i small))
    (λ i. c.ones_below.ensures i ∙ rw (c.saturating_sub-2.ensures, c.left-2.ensures)
    (last_bits c.args.low c.args.end _ i c.requires.first)) in
    let middle = ap (λ walk. walk.words) made ∙ c.ends_of-ends.ensures.middle in
    λ i. record { items = items i; words = middle i; turns = (made i).turns; taken = (made i).taken }
