-- What the tests of an export say of the value.
use Rattle.std.proofs.Common.{◌≡◌, ℕ, ◌≤◌, false, List, sym}
use Rattle.fixedbitset.specs.Bits.{of_words, contains}
use Rattle.fixedbitset.specs.BitsFacts.{contains-past}
use Rattle.fixedbitset.specs.WordsFacts.{length-of_words}

-- no position at or past the length is set
pub none_past : (n : ℕ) (ws : List ℕ) (bit : ℕ) → n ≤ bit → false ≡ contains (of_words n ws) bit
none_past n ws bit past = sym (contains-past (of_words n ws) bit (rw (length-of_words n ws) past))
