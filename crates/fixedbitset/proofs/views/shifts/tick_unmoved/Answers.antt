use Rattle.fixedbitset.proofs.Words.{given_back, viewed_length}
use Rattle.std.proofs.Common.{rules}
use Rattle.fixedbitset.proofs.views.shifts.tick_unmoved.Goals as goal

pub returns : goal.returns
returns c = search (rules, given_back, viewed_length) steps 2000000
