use Rattle.fixedbitset.specs.TwoSetsFacts.{is_subset-tells, is_disjoint-tells}
use Rattle.bitlaws.proofs.laws.tests_of_two_sets.Goals as goal

pub returns : goal.returns
returns c = search (is_subset-tells, is_disjoint-tells)
