use Rattle.std.proofs.Common.{arith}
use Rattle.bitwalks.proofs.sieve.Sieve.over.Goals as goal

pub over-requires : goal.over-requires
over-requires g c = omega arith

pub returns : goal.returns
returns g c = grind arith
