-- The numbers that pass a test, in ascending order.
use Rattle.std.specs.Prelude.{ℕ, Bool, List, filter}
use Rattle.std.specs.List.{range_with_len}

-- those of the `count` numbers from `low` on that pass, the least first
abbrev pub ascending : (ℕ → Bool) → ℕ → ℕ → List ℕ
ascending test low count = filter test (range_with_len low count)
