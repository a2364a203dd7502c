use Rattle.bitlaws.proofs.OfPieces.{tests_by_pieces, of_intersection, of_difference, subset-clear, disjoint-clear}
use Rattle.bitlaws.proofs.pieces.tests_by_pieces.Goals as goal

pub returns : goal.returns
returns c = search (tests_by_pieces of_difference subset-clear, tests_by_pieces of_intersection disjoint-clear)
