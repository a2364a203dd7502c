-- No public clause cites this module.
-- One call of an iterator, from its front or from its back.
use Rattle.std.specs.Prelude.{ℕ, ◌-◌, List, length, take, drop, slice_get, Option}
use Rattle.bitcommands.specs.declared.commands.arguments.End.{End}
use Rattle.bitcommands.specs.declared.commands.arguments.End.TheVariants.{Front, Back}

-- the first or the last of the items that are left, or `None` where none is left
abbrev pub item_at : End → List ℕ → Option ℕ
item_at Front xs = slice_get xs 0
item_at Back xs = slice_get xs (length xs - 1)

-- the items that are left without that one
abbrev pub without_item_at : End → List ℕ → List ℕ
without_item_at Front xs = drop 1 xs
without_item_at Back xs = take (length xs - 1) xs
