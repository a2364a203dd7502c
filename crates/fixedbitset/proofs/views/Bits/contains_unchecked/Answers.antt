use Rattle.fixedbitset.proofs.Changes.{read_bit, place_within}
use Rattle.std.proofs.Common.{rules}
use Rattle.fixedbitset.proofs.views.Bits.contains_unchecked.Goals as goal

pub returns : goal.returns
returns c = search (rules, place_within, read_bit) steps 300000
