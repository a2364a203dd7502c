use Rattle.std.proofs.Common.{arith}
use Rattle.std.specs.Int.{reverse_bits, w8}
use Rattle.bits_c.proofs.Turned.{turned_more}
use Rattle.bits_c.proofs.bytes.bits_reverse_each_byte.Goals as goal

pub loop-byte-preserved : goal.loop-byte-preserved
loop-byte-preserved c =
    rw (c.reverse_bits.ensures, c.loop-byte.invariant)
    (turned_more (reverse_bits w8) c.loop-byte.byte-index c.args.bytes.now (omega (arith, c.loop-byte-test.true)))
