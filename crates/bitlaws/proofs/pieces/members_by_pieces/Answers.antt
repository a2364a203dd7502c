use Rattle.bitlaws.proofs.OfPlaced.{in_one_piece, members}
use Rattle.bitlaws.proofs.pieces.members_by_pieces.Goals as goal

pub returns : goal.returns
returns c = record { one = in_one_piece; same = λ v. members v 0 }
