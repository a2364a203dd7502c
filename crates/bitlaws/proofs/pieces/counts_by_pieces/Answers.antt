use Rattle.bitlaws.proofs.OfPieces.{size_by_pieces, counts_by_pieces, of_union, of_intersection}
use Rattle.bitlaws.proofs.OfPieces.{of_difference, of_symmetric_difference, union-size}
use Rattle.bitlaws.proofs.OfPieces.{intersection-size, difference-size, symmetric_difference-size}
use Rattle.bitlaws.proofs.pieces.counts_by_pieces.Goals as goal

pub returns : goal.returns
returns c =
    search (
      size_by_pieces,
      counts_by_pieces,
      of_union,
      of_intersection,
      of_difference,
      of_symmetric_difference,
      union-size,
      intersection-size,
      difference-size,
      symmetric_difference-size,
    )
