-- Which command a line stands for.
use Rattle.std.specs.Prelude.{ℕ, Bool, true, false, List, [], ◌∷◌, Option, Some, None}
use Rattle.bitcommands.specs.declared.commands.arguments.End.{End}
use Rattle.bitcommands.specs.Actions as action
use Rattle.bitcommands.specs.Actions.{Action, Range}
use Rattle.bitlines.specs.Words.{◌>>=◌, words}
use Rattle.bitlines.specs.Arguments.{one, two, three, two_and_flag, one_and_range, range_and_flag}
use Rattle.bitlines.specs.Arguments.{one_and_ends, two_and_ends, one_and_list, two_and_list, one_and_json}
use Rattle.bitlines.specs.Names.{name_of}
use Rattle.bitlines.specs.declared.names.Name.{Name}
use Rattle.bitlines.specs.declared.names.Name.TheVariants as name
use Rattle.bitlines.specs.declared.names.OneSet.{OneSet}
use Rattle.bitlines.specs.declared.names.OneSet.TheVariants as one_set
use Rattle.bitlines.specs.declared.names.SetAndNumber.{SetAndNumber}
use Rattle.bitlines.specs.declared.names.SetAndNumber.TheVariants as set_and_number
use Rattle.bitlines.specs.declared.names.TwoSets.{TwoSets}
use Rattle.bitlines.specs.declared.names.TwoSets.TheVariants as two_sets
use Rattle.bitlines.specs.declared.names.ThreeSets.{ThreeSets}
use Rattle.bitlines.specs.declared.names.ThreeSets.TheVariants as three_sets
use Rattle.bitlines.specs.declared.names.SetAndRange.{SetAndRange}
use Rattle.bitlines.specs.declared.names.SetAndRange.TheVariants as set_and_range
use Rattle.bitlines.specs.declared.names.SetAndEnds.{SetAndEnds}
use Rattle.bitlines.specs.declared.names.SetAndEnds.TheVariants as set_and_ends
use Rattle.bitlines.specs.declared.names.TwoSetsAndEnds.{TwoSetsAndEnds}
use Rattle.bitlines.specs.declared.names.TwoSetsAndEnds.TheVariants as two_sets_and_ends

-- ---- what a name and its arguments mean

-- a command on a set
abbrev pub of_one_set : OneSet → ℕ → Action
of_one_set one_set.New k = action.new k
of_one_set one_set.Default k = action.default k
of_one_set one_set.Len k = action.len k
of_one_set one_set.IsEmpty k = action.is_empty k
of_one_set one_set.IsClear k = action.is_clear k
of_one_set one_set.IsFull k = action.is_full k
of_one_set one_set.Minimum k = action.minimum k
of_one_set one_set.Maximum k = action.maximum k
of_one_set one_set.AsSlice k = action.as_slice k
of_one_set one_set.Text k = action.text k
of_one_set one_set.ToValue k = action.to_value k
of_one_set one_set.Clear k = action.clear k

-- a command on a set and a number
abbrev pub of_set_and_number : SetAndNumber → ℕ → ℕ → Action
of_set_and_number set_and_number.WithCapacity k n = action.with_capacity k n
of_set_and_number set_and_number.Contains k n = action.contains k n
of_set_and_number set_and_number.Index k n = action.index k n
of_set_and_number set_and_number.Grow k n = action.grow k n
of_set_and_number set_and_number.GrowAndInsert k n = action.grow_and_insert k n
of_set_and_number set_and_number.Insert k n = action.insert k n
of_set_and_number set_and_number.Remove k n = action.remove k n
of_set_and_number set_and_number.Toggle k n = action.toggle k n
of_set_and_number set_and_number.Put k n = action.put k n

-- a command on two sets
abbrev pub of_two_sets : TwoSets → ℕ → ℕ → Action
of_two_sets two_sets.Clone a b = action.clone a b
of_two_sets two_sets.CloneFrom a b = action.clone_from a b
of_two_sets two_sets.UnionWith a b = action.union_with a b
of_two_sets two_sets.SymmetricDifferenceWith a b = action.symmetric_difference_with a b
of_two_sets two_sets.BitorAssign a b = action.bitor_assign a b
of_two_sets two_sets.BitxorAssign a b = action.bitxor_assign a b
of_two_sets two_sets.IntersectWith a b = action.intersect_with a b
of_two_sets two_sets.DifferenceWith a b = action.difference_with a b
of_two_sets two_sets.BitandAssign a b = action.bitand_assign a b
of_two_sets two_sets.UnionCount a b = action.union_count a b
of_two_sets two_sets.IntersectionCount a b = action.intersection_count a b
of_two_sets two_sets.DifferenceCount a b = action.difference_count a b
of_two_sets two_sets.SymmetricDifferenceCount a b = action.symmetric_difference_count a b
of_two_sets two_sets.IsDisjoint a b = action.is_disjoint a b
of_two_sets two_sets.IsSubset a b = action.is_subset a b
of_two_sets two_sets.IsSuperset a b = action.is_superset a b
of_two_sets two_sets.Eq a b = action.eq a b
of_two_sets two_sets.Cmp a b = action.cmp a b

-- a command on three sets
abbrev pub of_three_sets : ThreeSets → ℕ → ℕ → ℕ → Action
of_three_sets three_sets.Bitand d a b = action.bitand d a b
of_three_sets three_sets.Bitor d a b = action.bitor d a b
of_three_sets three_sets.Bitxor d a b = action.bitxor d a b

-- a command on a set and a range
abbrev pub of_set_and_range : SetAndRange → ℕ → Range → Action
of_set_and_range set_and_range.CountOnes k r = action.count_ones k r
of_set_and_range set_and_range.CountZeroes k r = action.count_zeroes k r
of_set_and_range set_and_range.InsertRange k r = action.insert_range k r
of_set_and_range set_and_range.RemoveRange k r = action.remove_range k r
of_set_and_range set_and_range.ToggleRange k r = action.toggle_range k r
of_set_and_range set_and_range.ContainsAllInRange k r = action.contains_all_in_range k r
of_set_and_range set_and_range.ContainsAnyInRange k r = action.contains_any_in_range k r
of_set_and_range set_and_range.RangeIsValid k r = action.range_is_valid k r

-- a command on a set and the ends of an iterator over it
abbrev pub of_set_and_ends : SetAndEnds → ℕ → List End → Action
of_set_and_ends set_and_ends.Ones k ends = action.ones k ends
of_set_and_ends set_and_ends.IntoOnes k ends = action.into_ones k ends
of_set_and_ends set_and_ends.Zeroes k ends = action.zeroes k ends

-- a command on two sets and the ends of an iterator over them
abbrev pub of_two_sets_and_ends : TwoSetsAndEnds → ℕ → ℕ → List End → Action
of_two_sets_and_ends two_sets_and_ends.Union a b ends = action.union a b ends
of_two_sets_and_ends two_sets_and_ends.Intersection a b ends = action.intersection a b ends
of_two_sets_and_ends two_sets_and_ends.Difference a b ends = action.difference a b ends
of_two_sets_and_ends two_sets_and_ends.SymmetricDifference a b ends = action.symmetric_difference a b ends

-- the command of this name with these arguments, if they are what it asks for
unfoldable pub command_by : Name → List (List ℕ) → Option Action
command_by (name.OneSet c) args = one args >>= λ k. Some (of_one_set c k)
command_by (name.SetAndNumber c) args = two args >>= λ x. Some (of_set_and_number c x.0 x.1)
command_by name.CopyBit args = three args >>= λ x. Some (action.copy_bit x.0 x.1 x.2)
command_by name.SetBlock args = three args >>= λ x. Some (action.set_block x.0 x.1 x.2)
command_by name.FromIter args = one_and_list args >>= λ x. Some (action.from_iter x.0 x.1)
command_by name.Extend args = one_and_list args >>= λ x. Some (action.extend x.0 x.1)
command_by name.WithCapacityAndBlocks args =
    two_and_list args >>= λ x. Some (action.with_capacity_and_blocks x.0 x.1 x.2)
command_by name.FromValue args = one_and_json args >>= λ x. Some (action.from_value x.0 x.1)
command_by (name.TwoSets c) args = two args >>= λ x. Some (of_two_sets c x.0 x.1)
command_by (name.ThreeSets c) args = three args >>= λ x. Some (of_three_sets c x.0 x.1 x.2)
command_by (name.SetAndRange c) args = one_and_range args >>= λ x. Some (of_set_and_range c x.0 x.1)
command_by name.Set args = two_and_flag args >>= λ x. Some (action.set x.0 x.1 x.2)
command_by name.SetRange args = range_and_flag args >>= λ x. Some (action.set_range x.0 x.1 x.2)
command_by (name.SetAndEnds c) args = one_and_ends args >>= λ x. Some (of_set_and_ends c x.0 x.1)
command_by (name.TwoSetsAndEnds c) args = two_and_ends args >>= λ x. Some (of_two_sets_and_ends c x.0 x.1 x.2)

-- ---- lines

-- the first word is the command's name, and the others are its arguments
unfoldable pub command_of_words : List (List ℕ) → Option Action
command_of_words [] = None
command_of_words (w ∷ args) = name_of w >>= λ c. command_by c args

-- The command that a line stands for, if there is one.
abbrev pub command_of : List ℕ → Option Action
command_of line = command_of_words (words line)

-- ---- which lines want memory

-- whether a command of this name has a list or a JSON value
abbrev pub takes_memory : Name → Bool
takes_memory name.FromIter = true
takes_memory name.Extend = true
takes_memory name.WithCapacityAndBlocks = true
takes_memory name.FromValue = true
takes_memory (name.SetAndEnds c) = true
takes_memory (name.TwoSetsAndEnds c) = true
takes_memory c = false

-- whether there is a name, and a command of this name has one
abbrev pub is_one_of_them : Option Name → Bool
is_one_of_them (Some c) = takes_memory c
is_one_of_them None = false

-- whether the first word is the name of such a command
unfoldable pub begins_with_one : List (List ℕ) → Bool
begins_with_one [] = false
begins_with_one (w ∷ args) = is_one_of_them (name_of w)

-- whether memory may lack as the line is read: where its first word is the
-- name of a command with a list or a JSON value
abbrev pub may_lack : List ℕ → Bool
may_lack line = begins_with_one (words line)
