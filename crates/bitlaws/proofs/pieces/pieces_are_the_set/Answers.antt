use Rattle.bitlaws.proofs.OfPieces.{pieces_are_the_set, any_sets_are_pieces}
use Rattle.bitlaws.proofs.pieces.pieces_are_the_set.Goals as goal

pub returns : goal.returns
returns c = search (pieces_are_the_set, any_sets_are_pieces)
