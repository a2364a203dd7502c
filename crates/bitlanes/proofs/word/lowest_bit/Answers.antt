use Rattle.std.proofs.Common.{arith, w64}
use Rattle.std.proofs.lemmas.Nat.Bits.{bit_at-trailing_zeros}
use Rattle.bitlanes.proofs.word.lowest_bit.Goals as goal

pub returns : goal.returns
returns c =
    let found = bit_at-trailing_zeros w64 c.args.word (omega arith) c.ranges.word.fits in
    record { within = found.0; set = found.1; lowest = found.2 }
