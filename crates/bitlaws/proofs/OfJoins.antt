-- What joins make of lengths and of members, for `simp`.
use Rattle.fixedbitset.specs.BitsFacts.{length-empty, contains-empty, length-complement, contains-complement}
use Rattle.fixedbitset.specs.TwoSetsFacts.{length-union, length-symmetric_difference}
use Rattle.fixedbitset.specs.TwoSetsFacts.{length-intersection, length-difference, length-bitand}
use Rattle.fixedbitset.specs.TwoSetsFacts.{contains-union, contains-symmetric_difference}
use Rattle.fixedbitset.specs.TwoSetsFacts.{contains-intersection, contains-difference, contains-bitand}

pub ruleset lengths = (
  length-union,
  length-symmetric_difference,
  length-intersection,
  length-difference,
  length-bitand,
  length-complement,
  length-empty,
)

pub ruleset members = (
  contains-union,
  contains-symmetric_difference,
  contains-intersection,
  contains-difference,
  contains-bitand,
  contains-complement,
  contains-empty,
)
