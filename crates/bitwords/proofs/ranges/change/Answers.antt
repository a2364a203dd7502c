use Rattle.std.proofs.Common.{ℕ, ◌≡◌, ◌/◌, ◌*◌, ◌+◌, ◌-◌, ◌≤◌, arith}
use Rattle.std.proofs.lemmas.Bool.Decides.{nat_tests}
use Rattle.bitwords.specs.Rows.{in_range}
use Rattle.bitwords.proofs.Joined.{IsJoined-append, IsJoined-append_back, IsJoined-same}
use Rattle.bitwords.proofs.ranges.change.Goals as goal

pub returns-clause-bits : goal.returns-clause-bits
returns-clause-bits g c =
    let start = c.args.start in
    let end = c.args.end in
    let low : ℕ = 64 * (start / 64) + 64 in
    let high : ℕ = 64 * ((end - 1) / 64) in
    let order : low ≤ high = omega (arith, c.if-end-start-le-BITS.false) in
    let same : (p : ℕ) → in_range (64 * (start / 64 + 1)) high p ≡ in_range low high p =
    λ p. grind (arith, nat_tests) in
    let middle = IsJoined-same _ _ _ _ same c.change_whole.ensures.bits in
    let rest = IsJoined-append_back g.met.O.WordOp.laws c.requires.keeps _ _ _ low high end order (omega arith)
    c.change_tail.ensures.bits middle in
    IsJoined-append g.met.O.WordOp.laws c.requires.keeps _ _ _ start low end (omega arith) (omega (arith, order))
    c.change_head.ensures.bits rest

pub returns-clause-cost : goal.returns-clause-cost
returns-clause-cost g c = grind arith
