use Rattle.std.proofs.Common.{rules}
use Rattle.bits_c.proofs.structs.Sieve.take_last.Goals as goal

pub returns : goal.returns
returns g c = search rules steps 300000
