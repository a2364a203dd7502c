use Rattle.bitlaws.proofs.OfPlaced.{changes_by_pieces, of_insert, of_remove, of_toggle}
use Rattle.bitlaws.proofs.pieces.changes_by_pieces.Goals as goal

pub returns : goal.returns
returns c = search (changes_by_pieces of_insert, changes_by_pieces of_remove, changes_by_pieces of_toggle)
