use Rattle.bitlaws.proofs.OfPlaced.{ascending_by_pieces, minimum_by_pieces, maximum_by_pieces}
use Rattle.bitlaws.proofs.pieces.order_by_pieces.Goals as goal

pub returns : goal.returns
returns c = search (ascending_by_pieces, minimum_by_pieces, maximum_by_pieces)
