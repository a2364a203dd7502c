use Rattle.bitlaws.proofs.OfPieces.{joins_by_pieces, of_union, of_intersection, of_difference, of_symmetric_difference}
use Rattle.bitlaws.proofs.pieces.joins_by_pieces.Goals as goal

pub returns : goal.returns
returns c = search (joins_by_pieces, of_union, of_intersection, of_difference, of_symmetric_difference)
