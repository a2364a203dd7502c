use Rattle.bitlaws.proofs.OfPieces.{union-size, intersection-size, difference-size}
use Rattle.bitlaws.proofs.OfPieces.{symmetric_difference-size, subset-clear, disjoint-clear}
use Rattle.bitlaws.proofs.OfPieces.{missing_is_empty, union_with_nothing}
use Rattle.bitlaws.proofs.OfPieces.{intersection_with_nothing, difference_with_nothing}
use Rattle.bitlaws.proofs.OfPieces.{symmetric_difference_with_nothing, size-empty, is_clear-empty}
use Rattle.bitlaws.proofs.pieces.missing_pieces.Goals as goal

pub returns : goal.returns
returns c = record {
  empty = missing_is_empty;
  union = union_with_nothing;
  intersection = intersection_with_nothing;
  difference = difference_with_nothing;
  symmetric_difference = symmetric_difference_with_nothing;
  union_count = λ v. let both = union_with_nothing v in (simp (union-size, both.0), simp (union-size, both.1));
  intersection_count = λ v. let both = intersection_with_nothing v in
      (simp (intersection-size, both.0, size-empty), simp (intersection-size, both.1, size-empty));
  difference_count = λ v. let both = difference_with_nothing v in
      (simp (difference-size, both.0), simp (difference-size, both.1, size-empty));
  symmetric_difference_count = λ v. let both = symmetric_difference_with_nothing v in
      (simp (symmetric_difference-size, both.0), simp (symmetric_difference-size, both.1));
  subset = λ v. let both = difference_with_nothing v in
      (simp (subset-clear, both.0), simp (subset-clear, both.1, is_clear-empty));
  disjoint = λ v. let both = intersection_with_nothing v in
      (simp (disjoint-clear, both.0, is_clear-empty), simp (disjoint-clear, both.1, is_clear-empty));
}
