-- The names of commands.
use Rattle.std.specs.Prelude.{ℕ, List, [], ◌∷◌, Option, Some, None, if◌then◌else◌, codes}
use Rattle.std.specs.Option.{option_or}
use Rattle.std.specs.Str.{bytes_eq}
use Rattle.bitlines.specs.declared.names.Name.{Name}
use Rattle.bitlines.specs.declared.names.Name.TheVariants.{OneSet, SetAndNumber, TwoSets, ThreeSets, SetAndRange}
use Rattle.bitlines.specs.declared.names.Name.TheVariants.{SetAndEnds, TwoSetsAndEnds, CopyBit, SetBlock, FromIter}
use Rattle.bitlines.specs.declared.names.Name.TheVariants.{Extend, WithCapacityAndBlocks, FromValue, Set, SetRange}
use Rattle.bitlines.specs.declared.names.OneSet.TheVariants.{New, Default, Len, IsEmpty, IsClear, IsFull}
use Rattle.bitlines.specs.declared.names.OneSet.TheVariants.{Minimum, Maximum, AsSlice, Text, ToValue, Clear}
use Rattle.bitlines.specs.declared.names.SetAndNumber.TheVariants.{WithCapacity, Contains, Index, Grow}
use Rattle.bitlines.specs.declared.names.SetAndNumber.TheVariants.{GrowAndInsert, Insert, Remove, Toggle, Put}
use Rattle.bitlines.specs.declared.names.TwoSets.TheVariants.{Clone, CloneFrom, UnionWith, SymmetricDifferenceWith}
use Rattle.bitlines.specs.declared.names.TwoSets.TheVariants.{BitorAssign, BitxorAssign, IntersectWith, DifferenceWith}
use Rattle.bitlines.specs.declared.names.TwoSets.TheVariants.{BitandAssign, UnionCount, IntersectionCount}
use Rattle.bitlines.specs.declared.names.TwoSets.TheVariants.{DifferenceCount, SymmetricDifferenceCount, IsDisjoint}
use Rattle.bitlines.specs.declared.names.TwoSets.TheVariants.{IsSubset, IsSuperset, Eq, Cmp}
use Rattle.bitlines.specs.declared.names.ThreeSets.TheVariants.{Bitand, Bitor, Bitxor}
use Rattle.bitlines.specs.declared.names.SetAndRange.TheVariants.{CountOnes, CountZeroes, InsertRange}
use Rattle.bitlines.specs.declared.names.SetAndRange.TheVariants.{RemoveRange, ToggleRange, ContainsAllInRange}
use Rattle.bitlines.specs.declared.names.SetAndRange.TheVariants.{ContainsAnyInRange, RangeIsValid}
use Rattle.bitlines.specs.declared.names.SetAndEnds.TheVariants.{Ones, IntoOnes, Zeroes}
use Rattle.bitlines.specs.declared.names.TwoSetsAndEnds.TheVariants.{Union, Intersection, Difference}
use Rattle.bitlines.specs.declared.names.TwoSetsAndEnds.TheVariants.{SymmetricDifference}

-- the name that stands next to this text, in a list of texts and names
abbrev pub name_in : List (List ℕ × Name) → List ℕ → Option Name
name_in [] word = None
name_in (entry ∷ entries) word = if bytes_eq word entry.0 then Some entry.1 else name_in entries word

-- the names of up to five letters, by their length
abbrev pub shortest_names : List (List ℕ × Name)
shortest_names =
    (codes "eq", TwoSets Eq) ∷
    (codes "cmp", TwoSets Cmp) ∷
    (codes "len", OneSet Len) ∷
    (codes "new", OneSet New) ∷
    (codes "put", SetAndNumber Put) ∷
    (codes "set", Set) ∷
    (codes "grow", SetAndNumber Grow) ∷
    (codes "ones", SetAndEnds Ones) ∷
    (codes "text", OneSet Text) ∷
    (codes "bitor", ThreeSets Bitor) ∷
    (codes "clear", OneSet Clear) ∷
    (codes "clone", TwoSets Clone) ∷
    (codes "index", SetAndNumber Index) ∷
    (codes "union", TwoSetsAndEnds Union) ∷
    []

-- those of six to eight letters
abbrev pub short_names : List (List ℕ × Name)
short_names =
    (codes "bitand", ThreeSets Bitand) ∷
    (codes "bitxor", ThreeSets Bitxor) ∷
    (codes "extend", Extend) ∷
    (codes "insert", SetAndNumber Insert) ∷
    (codes "remove", SetAndNumber Remove) ∷
    (codes "toggle", SetAndNumber Toggle) ∷
    (codes "zeroes", SetAndEnds Zeroes) ∷
    (codes "default", OneSet Default) ∷
    (codes "is_full", OneSet IsFull) ∷
    (codes "maximum", OneSet Maximum) ∷
    (codes "minimum", OneSet Minimum) ∷
    (codes "as_slice", OneSet AsSlice) ∷
    (codes "contains", SetAndNumber Contains) ∷
    (codes "copy_bit", CopyBit) ∷
    (codes "is_clear", OneSet IsClear) ∷
    (codes "is_empty", OneSet IsEmpty) ∷
    (codes "to_value", OneSet ToValue) ∷
    []

-- those of nine to twelve
abbrev pub long_names : List (List ℕ × Name)
long_names =
    (codes "from_iter", FromIter) ∷
    (codes "into_ones", SetAndEnds IntoOnes) ∷
    (codes "is_subset", TwoSets IsSubset) ∷
    (codes "set_block", SetBlock) ∷
    (codes "set_range", SetRange) ∷
    (codes "clone_from", TwoSets CloneFrom) ∷
    (codes "count_ones", SetAndRange CountOnes) ∷
    (codes "difference", TwoSetsAndEnds Difference) ∷
    (codes "from_value", FromValue) ∷
    (codes "union_with", TwoSets UnionWith) ∷
    (codes "is_disjoint", TwoSets IsDisjoint) ∷
    (codes "is_superset", TwoSets IsSuperset) ∷
    (codes "union_count", TwoSets UnionCount) ∷
    (codes "bitor_assign", TwoSets BitorAssign) ∷
    (codes "count_zeroes", SetAndRange CountZeroes) ∷
    (codes "insert_range", SetAndRange InsertRange) ∷
    (codes "intersection", TwoSetsAndEnds Intersection) ∷
    (codes "remove_range", SetAndRange RemoveRange) ∷
    (codes "toggle_range", SetAndRange ToggleRange) ∷
    []

-- those of more
abbrev pub longest_names : List (List ℕ × Name)
longest_names =
    (codes "bitand_assign", TwoSets BitandAssign) ∷
    (codes "bitxor_assign", TwoSets BitxorAssign) ∷
    (codes "with_capacity", SetAndNumber WithCapacity) ∷
    (codes "intersect_with", TwoSets IntersectWith) ∷
    (codes "range_is_valid", SetAndRange RangeIsValid) ∷
    (codes "difference_with", TwoSets DifferenceWith) ∷
    (codes "grow_and_insert", SetAndNumber GrowAndInsert) ∷
    (codes "difference_count", TwoSets DifferenceCount) ∷
    (codes "intersection_count", TwoSets IntersectionCount) ∷
    (codes "symmetric_difference", TwoSetsAndEnds SymmetricDifference) ∷
    (codes "contains_all_in_range", SetAndRange ContainsAllInRange) ∷
    (codes "contains_any_in_range", SetAndRange ContainsAnyInRange) ∷
    (codes "with_capacity_and_blocks", WithCapacityAndBlocks) ∷
    (codes "symmetric_difference_with", TwoSets SymmetricDifferenceWith) ∷
    (codes "symmetric_difference_count", TwoSets SymmetricDifferenceCount) ∷
    []

-- the name that a word is, if it is one
unfoldable pub name_of : List ℕ → Option Name
name_of word = option_or (name_in shortest_names word) (option_or (name_in short_names word)
    (option_or (name_in long_names word) (name_in longest_names word)))
