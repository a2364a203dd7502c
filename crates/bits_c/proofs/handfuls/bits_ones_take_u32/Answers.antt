use Rattle.std.proofs.Common.{arith}
use Rattle.bits_c.proofs.handfuls.bits_ones_take_u32.Goals as goal

pub returns-then-positions-gt-FEW : goal.returns-then-positions-gt-FEW
returns-then-positions-gt-FEW c = record {
  answer = grind arith steps 100000;
  written = grind arith steps 100000;
  rest = grind arith steps 100000;
}

pub returns-else-positions-gt-FEW : goal.returns-else-positions-gt-FEW
returns-else-positions-gt-FEW c = record { answer = grind arith; written = grind arith; rest = grind arith }
