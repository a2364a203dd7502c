use Rattle.std.proofs.Common.{arith}
use Rattle.bits_c.proofs.handfuls.bits_difference_take_back.Goals as goal

pub returns : goal.returns
returns c = record {
  answer = grind arith steps 100000;
  written = grind arith steps 100000;
  rest = grind arith steps 100000;
}
