-- The calls of an iterator, each from its front or from its back.
use Rattle.std.specs.Prelude.{ℕ, ◌-◌, List, [], ◌∷◌, length, take, drop, slice_get, Option}
use Rattle.bitcommands.specs.declared.commands.arguments.End.{End}
use Rattle.bitcommands.specs.declared.commands.arguments.End.TheVariants.{Front, Back}

-- what the calls of an iterator return: one item an end, in order, the first or the last
-- of those left, or `None` where none is left
abbrev pub calls : List End → List ℕ → List (Option ℕ)
calls [] xs = []
calls (Front ∷ ends) xs = slice_get xs 0 ∷ calls ends (drop 1 xs)
calls (Back ∷ ends) xs = slice_get xs (length xs - 1) ∷ calls ends (take (length xs - 1) xs)
