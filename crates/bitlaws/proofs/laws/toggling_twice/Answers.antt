use Rattle.bitlaws.proofs.OfRanges.{toggling_twice}
use Rattle.bitlaws.proofs.laws.toggling_twice.Goals as goal

pub returns : goal.returns
returns c = toggling_twice
