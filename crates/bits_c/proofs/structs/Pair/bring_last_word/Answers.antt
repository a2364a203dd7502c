use Rattle.std.proofs.Common.{◌-◌, ◌++◌, ◌∷◌, sym, ap, ◌∙◌, arith, append-nil}
use Rattle.bitlanes.specs.Bits.{bit_without}
use Rattle.bitwords.specs.BesideFacts.{length-beside}
use Rattle.bitwords.specs.WalkedWords.{beside}
use Rattle.bits_c.specs.Walks.{ones_left, lacked_left}
use Rattle.bits_c.proofs.Words.{back_apart}
use Rattle.bits_c.proofs.structs.Pair.bring_last_word.Goals as goal

pub returns-clause-joined : goal.returns-clause-joined
returns-clause-joined c =
    let walk = c.args.self.now.first.walk in
    let apart = walk.spaced.apart (omega (arith, c.if-first-eq0.false)) in
    back_apart walk.front_at (walk.back_at - 64) walk.back (walk.front ∷ walk.words.now) (omega (arith, apart))
    ∙ sym (append-nil (ones_left walk))
    ∙ ap (λ xs. ones_left walk ++ xs) (sym c.requires)

pub returns-clause-split : goal.returns-clause-split
returns-clause-split c =
    let first = c.args.self.now.first in
    let walk = first.walk in
    let apart = walk.spaced.apart (omega (arith, c.if-first-eq0.false)) in
    back_apart walk.front_at (walk.back_at - 64) walk.back
    (walk.front ∷ beside bit_without walk.words.now first.other.now)
    (omega (arith, apart, length-beside bit_without walk.words.now first.other.now))
    ∙ sym (append-nil (lacked_left first))
    ∙ ap (λ xs. lacked_left first ++ xs) (sym c.requires)
