-- The positions of a value next to a given one.
use Rattle.std.specs.Prelude.{ℕ, nat_lt, nat_le, Option, filter, slice_get}
use Rattle.std.specs.declared.option.Option.TheVariants.{None}
use Rattle.std.specs.List.{last_or}
use Rattle.fixedbitset.specs.Bits.{Bits, asc, complement}

-- the least position at or past `from` that is set, if there is one
unfoldable pub next_one : Bits → ℕ → Option ℕ
next_one v from = slice_get (filter (nat_le from) (asc v)) 0

-- the least position at or past `from` and below the length that is not set, if there is one
unfoldable pub next_zero : Bits → ℕ → Option ℕ
next_zero v from = next_one (complement v) from

-- the greatest position below `below` that is set, if there is one
unfoldable pub previous_one : Bits → ℕ → Option ℕ
previous_one v below = last_or None (filter (λ p. nat_lt p below) (asc v))

-- the greatest position below `below` and below the length that is not set, if there is one
unfoldable pub previous_zero : Bits → ℕ → Option ℕ
previous_zero v below = previous_one (complement v) below
