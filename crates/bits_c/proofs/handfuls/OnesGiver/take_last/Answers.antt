use Rattle.std.proofs.Common.{◌∷◌, arith}
use Rattle.bitwords.proofs.OnesFrom.{ones_from-last}
use Rattle.bits_c.proofs.handfuls.OnesGiver.take_last.Goals as goal

pub returns-then-self-ne0 : goal.returns-then-self-ne0
returns-then-self-ne0 c =
    let walk = c.args.self.now in
    let apart = walk.spaced.apart (omega (arith, c.if-self-ne0.true)) in
    ones_from-last walk.front_at walk.back_at _ _ _ (walk.front ∷ walk.words.now) (omega (arith, apart))
    c.take_highest_bit.ensures.highest c.take_highest_bit.ensures.clears
