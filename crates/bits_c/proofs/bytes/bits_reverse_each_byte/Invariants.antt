use Rattle.std.proofs.Common.{◌≡◌}
use Rattle.std.specs.Int.{reverse_bits, w8}
use Rattle.bits_c.proofs.Turned.{turned}
use Rattle.bits_c.proofs.bytes.bits_reverse_each_byte.Given as goal

abbrev pub invariant-loop-byte : goal.invariant-loop-byte
invariant-loop-byte l = l.bytes ≡ turned (reverse_bits w8) l.byte-index l.fn.bytes
