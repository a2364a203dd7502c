-- Commands without where they lie in memory, one for each row of the table.
use Rattle.std.specs.Prelude.{ℕ, Bool, List, Option}
use Rattle.serde_json.specs.Data.{Data}
use Rattle.serde_json.specs.View.{view}
use Rattle.bitcommands.specs.declared.commands.Command.{Command}
use Rattle.bitcommands.specs.declared.commands.Command.TheVariants as commands
use Rattle.bitcommands.specs.declared.commands.making.Make.{Make}
use Rattle.bitcommands.specs.declared.commands.making.Make.TheVariants as makes
use Rattle.bitcommands.specs.declared.commands.looking.Look.{Look}
use Rattle.bitcommands.specs.declared.commands.looking.Look.TheVariants as looks
use Rattle.bitcommands.specs.declared.commands.changing.Change.{Change}
use Rattle.bitcommands.specs.declared.commands.changing.Change.TheVariants as changes
use Rattle.bitcommands.specs.declared.commands.ranging.Ranged.{Ranged}
use Rattle.bitcommands.specs.declared.commands.ranging.Ranged.TheVariants as ranges
use Rattle.bitcommands.specs.declared.commands.joining.Whole.{Whole}
use Rattle.bitcommands.specs.declared.commands.joining.Whole.TheVariants as wholes
use Rattle.bitcommands.specs.declared.commands.comparing.Compare.{Compare}
use Rattle.bitcommands.specs.declared.commands.comparing.Compare.TheVariants as compares
use Rattle.bitcommands.specs.declared.commands.arguments.End.{End}
use Rattle.bitcommands.specs.declared.commands.walking.Walk.{Walk}
use Rattle.bitcommands.specs.declared.commands.walking.Walk.TheVariants as walks

-- a start and an end, each of which may be absent
abbrev pub Range : Type 0
Range = Option ℕ × Option ℕ

-- Numbers of sets, positions, lengths, words, ranges, lists, JSON values and ends of iterators, in the order in which a
-- line has them. A line below has commands of one shape.
pub data Action : Type 0 where
  new default len is_empty is_clear is_full minimum maximum : ℕ → Action
  as_slice text to_value clear : ℕ → Action
  with_capacity contains index grow grow_and_insert insert remove toggle put : ℕ → ℕ → Action
  copy_bit set_block : ℕ → ℕ → ℕ → Action
  set : ℕ → ℕ → Bool → Action
  from_iter extend : ℕ → List ℕ → Action
  with_capacity_and_blocks : ℕ → ℕ → List ℕ → Action
  from_value : ℕ → Data → Action
  clone clone_from union_with symmetric_difference_with bitor_assign bitxor_assign : ℕ → ℕ → Action
  intersect_with difference_with bitand_assign : ℕ → ℕ → Action
  union_count intersection_count difference_count symmetric_difference_count : ℕ → ℕ → Action
  is_disjoint is_subset is_superset eq cmp : ℕ → ℕ → Action
  bitand bitor bitxor : ℕ → ℕ → ℕ → Action
  count_ones count_zeroes insert_range remove_range toggle_range : ℕ → Range → Action
  contains_all_in_range contains_any_in_range range_is_valid : ℕ → Range → Action
  set_range : ℕ → Range → Bool → Action
  ones into_ones zeroes : ℕ → List End → Action
  union intersection difference symmetric_difference : ℕ → ℕ → List End → Action

-- what a command that makes a set means
abbrev pub make_action : Make → Action
make_action (makes.New d) = new d
make_action (makes.Default d) = default d
make_action (makes.WithCapacity d bits) = with_capacity d bits
make_action (makes.WithCapacityAndBlocks d bits blocks) = with_capacity_and_blocks d bits blocks.items
make_action (makes.Clone d k) = clone d k
make_action (makes.CloneFrom d k) = clone_from d k
make_action (makes.FromIter d list) = from_iter d list.items
make_action (makes.FromValue d json) = from_value d (view json)
make_action (makes.Bitand d a b) = bitand d a b
make_action (makes.Bitor d a b) = bitor d a b
make_action (makes.Bitxor d a b) = bitxor d a b

-- what a command that looks at a set means
abbrev pub look_action : Look → Action
look_action (looks.Len k) = len k
look_action (looks.IsEmpty k) = is_empty k
look_action (looks.IsClear k) = is_clear k
look_action (looks.IsFull k) = is_full k
look_action (looks.Minimum k) = minimum k
look_action (looks.Maximum k) = maximum k
look_action (looks.AsSlice k) = as_slice k
look_action (looks.Contains k p) = contains k p
look_action (looks.Index k p) = index k p
look_action (looks.Text k) = text k
look_action (looks.ToValue k) = to_value k

-- what a command that changes a set means
abbrev pub change_action : Change → Action
change_action (changes.Clear k) = clear k
change_action (changes.Grow k bits) = grow k bits
change_action (changes.GrowAndInsert k p) = grow_and_insert k p
change_action (changes.Insert k p) = insert k p
change_action (changes.Remove k p) = remove k p
change_action (changes.Toggle k p) = toggle k p
change_action (changes.Put k p) = put k p
change_action (changes.Set k p e) = set k p e
change_action (changes.CopyBit k from to) = copy_bit k from to
change_action (changes.SetBlock k i w) = set_block k i w
change_action (changes.Extend k list) = extend k list.items

-- what a command over a range of a set means
abbrev pub ranged_action : Ranged → Action
ranged_action (ranges.CountOnes k r) = count_ones k (r.start, r.end)
ranged_action (ranges.CountZeroes k r) = count_zeroes k (r.start, r.end)
ranged_action (ranges.SetRange k r e) = set_range k (r.start, r.end) e
ranged_action (ranges.InsertRange k r) = insert_range k (r.start, r.end)
ranged_action (ranges.RemoveRange k r) = remove_range k (r.start, r.end)
ranged_action (ranges.ToggleRange k r) = toggle_range k (r.start, r.end)
ranged_action (ranges.ContainsAllInRange k r) = contains_all_in_range k (r.start, r.end)
ranged_action (ranges.ContainsAnyInRange k r) = contains_any_in_range k (r.start, r.end)
ranged_action (ranges.RangeIsValid k r) = range_is_valid k (r.start, r.end)

-- what a command that changes a set by another one means
abbrev pub whole_action : Whole → Action
whole_action (wholes.UnionWith a b) = union_with a b
whole_action (wholes.SymmetricDifferenceWith a b) = symmetric_difference_with a b
whole_action (wholes.BitorAssign a b) = bitor_assign a b
whole_action (wholes.BitxorAssign a b) = bitxor_assign a b
whole_action (wholes.IntersectWith a b) = intersect_with a b
whole_action (wholes.DifferenceWith a b) = difference_with a b
whole_action (wholes.BitandAssign a b) = bitand_assign a b

-- what a command that compares two sets means
abbrev pub compare_action : Compare → Action
compare_action (compares.UnionCount a b) = union_count a b
compare_action (compares.IntersectionCount a b) = intersection_count a b
compare_action (compares.DifferenceCount a b) = difference_count a b
compare_action (compares.SymmetricDifferenceCount a b) = symmetric_difference_count a b
compare_action (compares.IsDisjoint a b) = is_disjoint a b
compare_action (compares.IsSubset a b) = is_subset a b
compare_action (compares.IsSuperset a b) = is_superset a b
compare_action (compares.Eq a b) = eq a b
compare_action (compares.Cmp a b) = cmp a b

-- what a command that iterates over a set or two means
abbrev pub walk_action : Walk → Action
walk_action (walks.Ones k ends) = ones k ends.items
walk_action (walks.IntoOnes k ends) = into_ones k ends.items
walk_action (walks.Zeroes k ends) = zeroes k ends.items
walk_action (walks.Union a b ends) = union a b ends.items
walk_action (walks.Intersection a b ends) = intersection a b ends.items
walk_action (walks.Difference a b ends) = difference a b ends.items
walk_action (walks.SymmetricDifference a b ends) = symmetric_difference a b ends.items

-- what a command means
abbrev pub action_of : Command → Action
action_of (commands.Make c) = make_action c
action_of (commands.Look c) = look_action c
action_of (commands.Change c) = change_action c
action_of (commands.Ranged c) = ranged_action c
action_of (commands.Whole c) = whole_action c
action_of (commands.Compare c) = compare_action c
action_of (commands.Walk c) = walk_action c
