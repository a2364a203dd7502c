use Rattle.fixedbitset.proofs.Moves.{number_is}
use Rattle.fixedbitset.proofs.views.Bits.load.Goals as goal

pub returns : goal.returns
returns c =
    number_is _ _ c.args.self.clean _ _ _ c.requires.width c.load.type_inv c.load.ensures
