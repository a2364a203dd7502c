-- The length and the members of values that are moved or cut, for those who call a set.
use Rattle.std.proofs.Common.{◌≡◌, ℕ, ◌+◌, ◌-◌, min, Bool, ◌&&◌, ◌||◌, nat_lt, nat_le, if◌then◌else◌}
use Rattle.bitlanes.specs.Bits.{bit}
use Rattle.bitwords.specs.Rows.{in_range}
use Rattle.fixedbitset.specs.Bits.{Bits, contains}
use Rattle.fixedbitset.specs.BitsFacts.{length-pair, contains-pair}
use Rattle.fixedbitset.specs.WordsFacts.{length-having, contains-having}
use Rattle.fixedbitset.specs.Parts.{shift_up, shift_down, union_with_shifted}
use Rattle.fixedbitset.specs.Parts.{slice, copy_range, store, append, truncate, resize}

pub length-shift_up : (v : Bits) (by : ℕ) → (shift_up v by).length ≡ v.length
unfolding shift_up
length-shift_up v by = length-having _ _

pub contains-shift_up : (v : Bits) (by p : ℕ)
    → contains (shift_up v by) p ≡ ((nat_le by p && contains v (p - by)) && nat_lt p v.length)
unfolding shift_up
contains-shift_up v by p = contains-having _ _ p

pub length-shift_down : (v : Bits) (by : ℕ) → (shift_down v by).length ≡ v.length
unfolding shift_down
length-shift_down v by = length-having _ _

pub contains-shift_down : (v : Bits) (by p : ℕ)
    → contains (shift_down v by) p ≡ (contains v (p + by) && nat_lt p v.length)
unfolding shift_down
contains-shift_down v by p = contains-having _ _ p

pub length-union_with_shifted : (v w : Bits) (by : ℕ) → (union_with_shifted v w by).length ≡ v.length
unfolding union_with_shifted
length-union_with_shifted v w by = length-having _ _

pub contains-union_with_shifted : (v w : Bits) (by p : ℕ) → contains (union_with_shifted v w by) p
    ≡ ((contains v p || (nat_le by p && contains w (p - by))) && nat_lt p v.length)
unfolding union_with_shifted
contains-union_with_shifted v w by p = contains-having _ _ p

pub length-slice : (v : Bits) (start end : ℕ) → (slice v start end).length ≡ end - start
unfolding slice
length-slice v start end = length-having _ _

pub contains-slice : (v : Bits) (start end p : ℕ)
    → contains (slice v start end) p ≡ (contains v (start + p) && nat_lt p (end - start))
unfolding slice
contains-slice v start end p = contains-having _ _ p

pub length-copy_range : (v w : Bits) (start end at : ℕ) → (copy_range v w start end at).length ≡ v.length
unfolding copy_range
length-copy_range v w start end at = length-having _ _

pub contains-copy_range : (v w : Bits) (start end at p : ℕ)
    → contains (copy_range v w start end at) p
    ≡ ((if in_range at (at + (end - start)) p then contains w (start + (p - at)) else contains v p)
    && nat_lt p v.length)
unfolding copy_range
contains-copy_range v w start end at p = contains-having _ _ p

pub length-store : (v : Bits) (start width number : ℕ) → (store v start width number).length ≡ v.length
unfolding store
length-store v start width number = length-having _ _

pub contains-store : (v : Bits) (start width number p : ℕ)
    → contains (store v start width number) p
    ≡ ((if in_range start (start + width) p then bit number (p - start) else contains v p) && nat_lt p v.length)
unfolding store
contains-store v start width number p = contains-having _ _ p

pub length-append : (v w : Bits) → (append v w).length ≡ v.length + w.length
unfolding append
length-append v w = length-having _ _

pub contains-append : (v w : Bits) (p : ℕ)
    → contains (append v w) p
    ≡ ((contains v p || (nat_le v.length p && contains w (p - v.length))) && nat_lt p (v.length + w.length))
unfolding append
contains-append v w p = contains-having _ _ p

pub length-truncate : (v : Bits) (n : ℕ) → (truncate v n).length ≡ min v.length n
unfolding truncate
length-truncate v n = length-pair _ _

pub contains-truncate : (v : Bits) (n p : ℕ) → contains (truncate v n) p ≡ (contains v p && nat_lt p (min v.length n))
unfolding truncate contains
contains-truncate v n p = contains-pair (min v.length n) v.positions p

pub length-resize : (v : Bits) (n : ℕ) (enabled : Bool) → (resize v n enabled).length ≡ n
unfolding resize
length-resize v n enabled = length-having _ _

pub contains-resize : (v : Bits) (n : ℕ) (enabled : Bool) (p : ℕ)
    → contains (resize v n enabled) p ≡ ((contains v p || (enabled && nat_le v.length p)) && nat_lt p n)
unfolding resize
contains-resize v n enabled p = contains-having _ _ p

-- what a caller needs of values that are moved or cut
pub ruleset facts = (
  length-shift_up,
  length-shift_down,
  length-union_with_shifted,
  length-slice,
  length-copy_range,
  length-store,
  length-append,
  length-truncate,
  length-resize,
  contains-shift_up,
  contains-shift_down,
  contains-union_with_shifted,
  contains-slice,
  contains-copy_range,
  contains-store,
  contains-append,
  contains-truncate,
  contains-resize,
)
