-- A row of words as positions: position p stands at bit p mod 64 of word p / 64.
use Rattle.std.specs.Prelude.{◌≡◌, ℕ, ◌+◌, ◌-◌, ◌*◌, ◌/◌, ◌%◌, ◌<◌, ◌≤◌, Bool, ◌&&◌}
use Rattle.std.specs.Prelude.{nat_lt, nat_le, List, length, slice_index, count_by}
use Rattle.std.specs.List.{range_with_len}
use Rattle.bitlanes.specs.Bits.{bit}

-- whether word p / 64 is there and has bit p mod 64 (past the last word `slice_index` is 0)
unfoldable pub has_bit : List ℕ → ℕ → Bool
has_bit ws p = bit (slice_index ws (p / 64)) (p % 64)

-- whether p is one of the positions from start up to and without end
abbrev pub in_range : ℕ → ℕ → ℕ → Bool
in_range start end p = nat_le start p && nat_lt p end

-- as many words as before, and at each position f of the old bit and of the test
pub record IsJoined (f : Bool → Bool → Bool) (old : List ℕ) (other : ℕ → Bool) (new : List ℕ) : Type 0 where
  pub long : length new ≡ length old
  pub bits : (p : ℕ) → p < 64 * length old → has_bit new p ≡ f (has_bit old p) (other p)

-- as many words as before; the positions from start up to and without end are
-- those of ws from `from` on, the others stay
pub record IsCopied (ws : List ℕ) (from start end : ℕ) (old new : List ℕ) : Type 0 where
  pub long : length new ≡ length old
  pub copied : (p : ℕ) → start ≤ p → p < end → has_bit new p ≡ has_bit ws (from + (p - start))
  pub before : (p : ℕ) → p < start → has_bit new p ≡ has_bit old p
  pub behind : (p : ℕ) → end ≤ p → has_bit new p ≡ has_bit old p

-- how many numbers below n pass the test
unfoldable pub count_below : (ℕ → Bool) → ℕ → ℕ
count_below test n = count_by test (range_with_len 0 n)

-- f of the bit at a position
unfoldable pub bit_test : (Bool → Bool) → List ℕ → ℕ → Bool
bit_test f ws p = f (has_bit ws p)

-- f of the two bits at a position
unfoldable pub bits_test : (Bool → Bool → Bool) → List ℕ → List ℕ → ℕ → Bool
bits_test f xs ys p = f (has_bit xs p) (has_bit ys p)
