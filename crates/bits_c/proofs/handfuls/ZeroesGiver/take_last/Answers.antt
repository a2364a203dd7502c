use Rattle.std.proofs.Common.{◌∷◌, map, arith}
use Rattle.std.proofs.lemmas.List.{length-map}
use Rattle.std.specs.Int.{bit_not, w64}
use Rattle.bitwords.proofs.OnesFrom.{ones_from-last}
use Rattle.bits_c.proofs.handfuls.ZeroesGiver.take_last.Goals as goal

pub returns : goal.returns
returns c =
    let walk = c.args.self.now in
    let apart = walk.spaced.apart (omega (arith, c.if-self-eq0.false)) in
    ones_from-last walk.front_at walk.back_at _ _ _ (walk.front ∷ map (bit_not w64) walk.words.now)
    (omega (arith, apart, length-map walk.words.now (bit_not w64)))
    c.take_highest_bit-highest.ensures.highest c.take_highest_bit-highest.ensures.clears
