-- Positions moved up or down, and parts of a value.
use Rattle.std.specs.Prelude.{ℕ, ◌+◌, ◌-◌, min, Bool, ◌&&◌, ◌||◌, nat_le, if◌then◌else◌}
use Rattle.bitlanes.specs.Bits.{bit}
use Rattle.bitwords.specs.Rows.{in_range}
use Rattle.fixedbitset.specs.Bits.{Bits, pair, having, contains}

-- each position moved up by `by`; those that are not below the length then fall away
unfoldable pub shift_up : Bits → ℕ → Bits
shift_up v by = having v.length (λ p. nat_le by p && contains v (p - by))

-- each position moved down by `by`; those below `by` fall away
unfoldable pub shift_down : Bits → ℕ → Bits
shift_down v by = having v.length (λ p. contains v (p + by))

-- the positions of v, and those of w moved up by `by` that are below the length of v
unfoldable pub union_with_shifted : Bits → Bits → ℕ → Bits
union_with_shifted v w by = having v.length (λ p. contains v p || (nat_le by p && contains w (p - by)))

-- the positions of the range less its start, at the length of the range
unfoldable pub slice : Bits → (start end : ℕ) → Bits
slice v start end = having (end - start) (λ p. contains v (start + p))

-- v, with the positions of w from start up to and without end written over those from `at` on
unfoldable pub copy_range : Bits → Bits → (start end at : ℕ) → Bits
copy_range v w start end at =
    having v.length (λ p. if in_range at (at + (end - start)) p then contains w (start + (p - at)) else contains v p)

-- v, with `width` bits of a number, the lowest first, written over the positions from start on
unfoldable pub store : Bits → (start width number : ℕ) → Bits
store v start width number =
    having v.length (λ p. if in_range start (start + width) p then bit number (p - start) else contains v p)

-- the positions of v, and behind them those of w; the lengths are added
unfoldable pub append : Bits → Bits → Bits
append v w = having (v.length + w.length) (λ p. contains v p || (nat_le v.length p && contains w (p - v.length)))

-- the positions below n, at the lesser of the length and n
unfoldable pub truncate : Bits → ℕ → Bits
truncate v n = pair (min v.length n) v.positions

-- the positions below n, at length n; a position past the old length is set or not, as `enabled` says
unfoldable pub resize : Bits → ℕ → Bool → Bits
resize v n enabled = having n (λ p. contains v p || (enabled && nat_le v.length p))
