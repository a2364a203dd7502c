-- Lines of numbers as commands.
use Rattle.std.specs.Prelude.{ℕ, ◌≤◌, List, length}

-- no number takes a slot, one number gives that slot back, and two or three take a stretch
abbrev pub IsCommand : List ℕ → Type 0
IsCommand numbers = length numbers ≤ 3
