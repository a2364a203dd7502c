use Rattle.fixedbitset.specs.RangesFacts.{contains_all-tells, contains_any-tells}
use Rattle.bitlaws.proofs.OfRanges.{is_valid_tells}
use Rattle.bitlaws.proofs.laws.tests_of_range.Goals as goal

pub returns : goal.returns
returns c = search (is_valid_tells, contains_all-tells, contains_any-tells)
