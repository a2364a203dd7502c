-- The table: how a line has each command, what the command returns, and what it leaves.
use Prim.Native.String.{String}
use Rattle.std.specs.Prelude.{ℕ, ◌+◌, Bool, true, false, List, [], ◌∷◌, ◌++◌, map, length}
use Rattle.std.specs.Prelude.{Option, nat_lt, ◌==◌, if◌then◌else◌, codes, slice_set, not}
use Rattle.std.specs.FinSet as set
use Rattle.std.specs.FinSet.{FinSet}
use Rattle.std.specs.Ordering.{nat_cmp}
use Rattle.std.specs.Option.{option_or}
use Rattle.std.specs.Result.{result_unwrap_or}
use Rattle.fixedbitset.specs.Numbers as numbers
use Rattle.fixedbitset.specs.Bits as model
use Rattle.fixedbitset.specs.Bits.{Bits}
use Rattle.fixedbitset.specs.Ranges as ranges
use Rattle.fixedbitset.specs.Ranges.{over}
use Rattle.fixedbitset.specs.TwoSets as sets
use Rattle.fixedbitset.specs.Order.{equal, compare}
use Rattle.fixedbitset.specs.Text as printed
use Rattle.fixedbitset.specs.Json.{meaning, written}
use Rattle.bitcommands.specs.declared.commands.refusals.Refusal.{Refusal}
use Rattle.bitcommands.specs.declared.commands.refusals.Refusal.TheVariants as refusal
use Rattle.bitcommands.specs.Actions as action
use Rattle.bitcommands.specs.Actions.{Action, Range}
use Rattle.bitcommands.specs.Arguments.{Argument, number, flag, range, ends, json}
use Rattle.bitcommands.specs.Answers as answer
use Rattle.bitcommands.specs.Answers.{Answer}
use Rattle.bitcommands.specs.Sets.{Sets, at}
use Rattle.bitcommands.specs.Guards.{no_set, no_sets, no_position, no_word, no_range, no_item, no_items}
use Rattle.bitcommands.specs.Guards.{no_value, past_limit, before_greatest, has_greatest, needs_more_words}
use Rattle.bitcommands.specs.Calls.{calls}

-- What a command does: the first of its guards that refuses; where none does, its reply and the sets left;
-- and whether an allocation may fail in their place.
abbrev pub Row : Type 0
Row = record { refusal : Option Refusal; answer : Answer; left : Sets; may_lack_memory : Bool }

abbrev pub row : Option Refusal → Answer → Sets → Bool → Row
row refusal answer left may_lack_memory =
    record { refusal = refusal; answer = answer; left = left; may_lack_memory = may_lack_memory }

-- A command: its word and its arguments in a line, and what it does at each limit and each list of sets.
abbrev pub Entry : Type 0
Entry = record { word : List ℕ; arguments : List Argument; does : ℕ → Sets → Row }

abbrev pub entry : String → List Argument → (ℕ → Sets → Row) → Entry
entry word arguments does = record { word = codes word; arguments = arguments; does = does }

-- ---- the forms of entries, each with its word, at the limit m and the sets s

-- a value is made of the sets a and b, in the place of set d
abbrev pub makes_of : String → ℕ → ℕ → ℕ → (Bits → Bits → Bits) → Entry
makes_of word d a b join = entry word (number d ∷ number a ∷ number b ∷ [])
    (λ m s. row (option_or (no_set s d) (no_sets s a b)) answer.done (slice_set s d (join (at s a) (at s b))) true)

-- set k is asked, with these other arguments, and nothing changes; the reply may allocate
abbrev pub asks : String → ℕ → List Argument → Bool → (Bits → Answer) → Entry
asks word k others takes_memory tell =
    entry word (number k ∷ others) (λ m s. row (no_set s k) (tell (at s k)) s takes_memory)

-- set k is asked about a range, and nothing changes
abbrev pub asks_range : {A : Type 0} → String → ℕ → Range → (A → Answer) → (Bits → ℕ → ℕ → A) → Entry
asks_range word k r seen_as tell =
    entry word (number k ∷ range r ∷ []) (λ m s. row (no_range s k r) (seen_as (over tell (at s k) r.0 r.1)) s false)

-- the sets a and b are asked, with these other arguments, and nothing changes; the reply may allocate
abbrev pub asks_both : String → ℕ → ℕ → List Argument → Bool → (Bits → Bits → Answer) → Entry
asks_both word a b others takes_memory tell =
    entry word (number a ∷ number b ∷ others) (λ m s. row (no_sets s a b) (tell (at s a) (at s b)) s takes_memory)

-- set k changes at the position p, which is one of these arguments
abbrev pub changes_at : String → List Argument → ℕ → ℕ → (Bits → ℕ → Bits) → Entry
changes_at word arguments k p change =
    entry word arguments (λ m s. row (no_position s k p) answer.done (slice_set s k (change (at s k) p)) false)

-- set k changes in a range, with these other arguments
abbrev pub changes_range : String → ℕ → Range → List Argument → (Bits → ℕ → ℕ → Bits) → Entry
changes_range word k r others change = entry word (number k ∷ range r ∷ others)
    (λ m s. row (no_range s k r) answer.done (slice_set s k (over change (at s k) r.0 r.1)) false)

-- the positions of sets a and b are joined, and counted
abbrev pub counts : String → ℕ → ℕ → (FinSet nat_cmp → FinSet nat_cmp → FinSet nat_cmp) → Entry
counts word a b join = asks_both word a b [] false (λ v w. answer.number (set.len (join v.positions w.positions)))

-- set a changes by set b, where a test of set a and the length of set b tells whether an allocation may fail
abbrev pub changes_by : String → ℕ → ℕ → (Bits → ℕ → Bool) → (Bits → Bits → Bits) → Entry
changes_by word a b takes_memory join = entry word (number a ∷ number b ∷ [])
    (λ m s. row (no_sets s a b) answer.done (slice_set s a (join (at s a) (at s b)))
    (takes_memory (at s a) (at s b).length))

-- ---- the entries

-- The entry of a command.
abbrev pub entry_of : Action → Entry
entry_of (action.new d) =
    entry "new" (number d ∷ []) (λ m s. row (no_set s d) answer.done (slice_set s d (model.empty 0)) false)
entry_of (action.default d) =
    entry "default" (number d ∷ []) (λ m s. row (no_set s d) answer.done (slice_set s d (model.empty 0)) false)
entry_of (action.with_capacity d n) = entry "with_capacity" (number d ∷ number n ∷ [])
    (λ m s. row (option_or (no_set s d) (past_limit m n)) answer.done (slice_set s d (model.empty n)) true)
entry_of (action.with_capacity_and_blocks d n ws) = entry "with_capacity_and_blocks"
    (number d ∷ number n ∷ map number ws)
    (λ m s. row (option_or (no_set s d) (past_limit m n)) answer.done (slice_set s d (model.of_words n ws)) true)
entry_of (action.clone d k) = changes_by "clone" d k (λ v n. true) (λ v w. w)
entry_of (action.clone_from d k) = changes_by "clone_from" d k needs_more_words (λ v w. w)
entry_of (action.from_iter d items) = entry "from_iter" (number d ∷ map number items)
    (λ m s. row (no_items m s d items) (if has_greatest items then answer.refused refusal.Greatest else answer.done)
    (if has_greatest items then s else slice_set s d (model.add_all (model.empty 0) items))
    (nat_lt 0 (length (before_greatest items))))
entry_of (action.from_value d value) = entry "from_value" (number d ∷ json value ∷ [])
    (λ m s.
    row (no_value m s d value) answer.done (slice_set s d (result_unwrap_or (meaning value) (model.empty 0))) true)
entry_of (action.bitand d a b) = makes_of "bitand" d a b sets.bitand
entry_of (action.bitor d a b) = makes_of "bitor" d a b sets.union
entry_of (action.bitxor d a b) = makes_of "bitxor" d a b sets.symmetric_difference
entry_of (action.len k) = asks "len" k [] false (λ v. answer.number v.length)
entry_of (action.is_empty k) = asks "is_empty" k [] false (λ v. answer.bool (v.length == 0))
entry_of (action.is_clear k) = asks "is_clear" k [] false (λ v. answer.bool (set.len v.positions == 0))
entry_of (action.is_full k) =
    asks "is_full" k [] false (λ v. answer.bool (set.is_subset (numbers.numbers_below v.length) v.positions))
entry_of (action.minimum k) = asks "minimum" k [] false (λ v. answer.position (model.minimum v))
entry_of (action.maximum k) = asks "maximum" k [] false (λ v. answer.position (model.maximum v))
entry_of (action.as_slice k) = asks "as_slice" k [] true (λ v. answer.words (model.words v))
entry_of (action.contains k p) = asks "contains" k (number p ∷ []) false (λ v. answer.bool (model.contains v p))
entry_of (action.index k p) = asks "index" k (number p ∷ []) false (λ v. answer.bool (model.contains v p))
entry_of (action.text k) = asks "text" k [] true (λ v. answer.text (printed.text v))
entry_of (action.to_value k) = asks "to_value" k [] true (λ v. answer.value (written v))
entry_of (action.clear k) = entry "clear" (number k ∷ [])
    (λ m s. row (no_set s k) answer.done (slice_set s k (model.empty (at s k).length)) false)
entry_of (action.grow k n) = entry "grow" (number k ∷ number n ∷ [])
    (λ m s. row (option_or (no_set s k) (past_limit m n)) answer.done (slice_set s k (model.grow (at s k) n))
    (needs_more_words (at s k) n))
entry_of (action.grow_and_insert k p) = entry "grow_and_insert" (number k ∷ number p ∷ [])
    (λ m s. row (no_item m s k p) answer.done (slice_set s k (model.insert (model.grow (at s k) (p + 1)) p))
    (needs_more_words (at s k) (p + 1)))
entry_of (action.insert k p) = changes_at "insert" (number k ∷ number p ∷ []) k p model.insert
entry_of (action.remove k p) = changes_at "remove" (number k ∷ number p ∷ []) k p model.remove
entry_of (action.toggle k p) =
    changes_at "toggle" (number k ∷ number p ∷ []) k p (λ v q. model.set_bit v q (not (model.contains v q)))
entry_of (action.put k p) = entry "put" (number k ∷ number p ∷ [])
    (λ m s. row (no_position s k p) (answer.bool (model.contains (at s k) p))
    (slice_set s k (model.insert (at s k) p)) false)
entry_of (action.set k p e) = changes_at "set" (number k ∷ number p ∷ flag e ∷ []) k p (λ v q. model.set_bit v q e)
entry_of (action.copy_bit k from to) = changes_at "copy_bit" (number k ∷ number from ∷ number to ∷ []) k to
    (λ v q. model.set_bit v q (model.contains v from))
entry_of (action.set_block k i w) = entry "set_block" (number k ∷ number i ∷ number w ∷ [])
    (λ m s.
    row (no_word s k i) answer.done
    (slice_set s k (model.of_words (at s k).length (slice_set (model.words (at s k)) i w))) false)
entry_of (action.extend k items) = entry "extend" (number k ∷ map number items)
    (λ m s. row (no_items m s k items) (if has_greatest items then answer.refused refusal.Greatest else answer.done)
    (slice_set s k (model.add_all (at s k) (before_greatest items))) true)
entry_of (action.count_ones k r) = asks_range "count_ones" k r answer.number ranges.count_ones
entry_of (action.count_zeroes k r) = asks_range "count_zeroes" k r answer.number ranges.count_zeroes
entry_of (action.set_range k r e) =
    changes_range "set_range" k r (flag e ∷ []) (λ v start end. ranges.set_range v start end e)
entry_of (action.insert_range k r) = changes_range "insert_range" k r [] ranges.insert_range
entry_of (action.remove_range k r) = changes_range "remove_range" k r [] ranges.remove_range
entry_of (action.toggle_range k r) = changes_range "toggle_range" k r [] ranges.toggle_range
entry_of (action.contains_all_in_range k r) = asks_range "contains_all_in_range" k r answer.bool ranges.contains_all
entry_of (action.contains_any_in_range k r) = asks_range "contains_any_in_range" k r answer.bool ranges.contains_any
entry_of (action.range_is_valid k r) =
    asks "range_is_valid" k (range r ∷ []) false (λ v. answer.bool (over ranges.is_valid v r.0 r.1))
entry_of (action.union_with a b) = changes_by "union_with" a b needs_more_words sets.union
entry_of (action.symmetric_difference_with a b) =
    changes_by "symmetric_difference_with" a b needs_more_words sets.symmetric_difference
entry_of (action.bitor_assign a b) = changes_by "bitor_assign" a b needs_more_words sets.union
entry_of (action.bitxor_assign a b) = changes_by "bitxor_assign" a b needs_more_words sets.symmetric_difference
entry_of (action.intersect_with a b) = changes_by "intersect_with" a b (λ v n. false) sets.intersection
entry_of (action.difference_with a b) = changes_by "difference_with" a b (λ v n. false) sets.difference
entry_of (action.bitand_assign a b) = changes_by "bitand_assign" a b (λ v n. false) sets.intersection
entry_of (action.union_count a b) = counts "union_count" a b set.union
entry_of (action.intersection_count a b) = counts "intersection_count" a b set.intersection
entry_of (action.difference_count a b) = counts "difference_count" a b set.difference
entry_of (action.symmetric_difference_count a b) = counts "symmetric_difference_count" a b numbers.symmetric_difference
entry_of (action.is_disjoint a b) =
    asks_both "is_disjoint" a b [] false (λ v w. answer.bool (set.len (set.intersection v.positions w.positions) == 0))
entry_of (action.is_subset a b) =
    asks_both "is_subset" a b [] false (λ v w. answer.bool (set.is_subset v.positions w.positions))
entry_of (action.is_superset a b) =
    asks_both "is_superset" a b [] false (λ v w. answer.bool (set.is_subset w.positions v.positions))
entry_of (action.eq a b) = asks_both "eq" a b [] false (λ v w. answer.bool (equal v w))
entry_of (action.cmp a b) = asks_both "cmp" a b [] false (λ v w. answer.order (compare v w))
entry_of (action.ones k es) = asks "ones" k (ends es ∷ []) true (λ v. answer.items (calls es (model.asc v)))
entry_of (action.into_ones k es) = entry "into_ones" (number k ∷ ends es ∷ [])
    (λ m s. row (no_set s k) (answer.items (calls es (model.asc (at s k)))) (slice_set s k (model.empty 0)) true)
entry_of (action.zeroes k es) =
    asks "zeroes" k (ends es ∷ []) true (λ v. answer.items (calls es (model.asc (model.complement v))))
entry_of (action.union a b es) = asks_both "union" a b (ends es ∷ []) true
    (λ v w. answer.items (calls es (model.asc v ++ model.asc (sets.difference w v))))
entry_of (action.intersection a b es) = asks_both "intersection" a b (ends es ∷ []) true
    (λ v w. answer.items (calls es (model.asc (sets.intersection v w))))
entry_of (action.difference a b es) =
    asks_both "difference" a b (ends es ∷ []) true (λ v w. answer.items (calls es (model.asc (sets.difference v w))))
entry_of (action.symmetric_difference a b es) = asks_both "symmetric_difference" a b (ends es ∷ []) true
    (λ v w. answer.items (calls es (model.asc (sets.difference v w) ++ model.asc (sets.difference w v))))

-- The row of a command, at the limit m and the sets s.
abbrev pub row_of : ℕ → Sets → Action → Row
row_of m s c = (entry_of c).does m s
