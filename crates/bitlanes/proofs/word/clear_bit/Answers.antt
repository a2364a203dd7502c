use Rattle.std.specs.Int.{w64}
use Rattle.std.proofs.lemmas.Nat.Bits.{bit_at_clear_same, bit_at_clear_other}
use Rattle.bitlanes.proofs.word.clear_bit.Goals as goal

pub returns : goal.returns
returns c = record {
  clear = bit_at_clear_same w64 c.args.word c.args.bit c.requires;
  others = λ i within other. bit_at_clear_other w64 c.args.word c.args.bit c.requires i within other;
}
