use Rattle.std.proofs.Common.{◌≡◌, ◌≤◌, ◌+◌, ◌-◌, ◌/◌, ◌%◌, [], ◌∷◌, rules, arith}
use Rattle.bitwords.proofs.Copied.{IsCopied-append, IsCopied-low, IsCopied-high}
use Rattle.bitwords.proofs.ranges.store.Goals as goal

pub returns-else-shift-width-gt-BITS-clause-bits : goal.returns-else-shift-width-gt-BITS-clause-bits
returns-else-shift-width-gt-BITS-clause-bits c =
    IsCopied-low c.args.words.now (λ k. search rules) c.args.number c.stretch-mask.result c.args.start c.args.width
    c.requires.width c.stretch-mask.type_inv c.stretch-mask.ensures (c.args.start + c.args.width) (omega arith)
    (omega arith) (λ p _ behind. behind) (omega arith)

pub returns-then-shift-width-gt-BITS-clause-bits : goal.returns-then-shift-width-gt-BITS-clause-bits
returns-then-shift-width-gt-BITS-clause-bits c =
    let start = c.args.start in
    let low = 64 - start % 64 in
    let at : 0 + (start + low - start) ≡ low = omega arith in
    let upto : start + low ≤ start + c.args.width = omega arith in
    let first = IsCopied-low c.args.words.now (λ k. search rules) c.args.number c.stretch-mask.result start c.args.width
    c.requires.width c.stretch-mask.type_inv c.stretch-mask.ensures (start + low) upto (omega arith)
    (λ p before behind. absurd (omega arith)) (omega arith) in
    let second = IsCopied-high _ (λ k. search rules) c.args.number c.stretch-mask.result start c.args.width
    c.requires.width c.stretch-mask.type_inv c.stretch-mask.ensures (start / 64 + 1) low (omega arith) (omega arith)
    (omega (arith, first.long)) in
    IsCopied-append (c.args.number ∷ []) 0 start (start + low) (start + c.args.width) _ _ _ (omega arith) upto first
    (rw at second)
