use Rattle.std.proofs.Common.{suc, arith, pow-suc}
use Rattle.std.proofs.lemmas.Nat.{leading_top}
use Rattle.std.proofs.lemmas.Nat.Bits.{bit_at_above}
use Rattle.bitlanes.proofs.word.highest_bit.Goals as goal

pub returns : goal.returns
returns c =
    let top = leading_top 64 c.args.word (omega arith) c.ranges.word.fits in
    record {
      within = omega (arith, top.1);
      set = grind (arith, pow-suc 2 top.0, top.1, top.2, top.3);
      highest = λ i past. bit_at_above c.args.word (suc top.0) i top.3 (omega (arith, top.1));
    }
