-- What a value in the form gives, for those who read and write one.
use Rattle.std.proofs.Common.{◌≡◌, ℕ, zero, suc, ◌+◌, ◌<◌, List, [], ◌∷◌, map, get_or, Ok, false, refl, arith}
use Rattle.std.proofs.lemmas.Bool.{lt-ltb}
use Rattle.std.proofs.lemmas.Bool.Decides.{nat_tests}
use Rattle.serde_json.specs.Data.{depth, items_depth}
use Rattle.serde_json.specs.Written.{has_float, items_have_float}
use Rattle.serde_json.specs.View.{items_of}
use Rattle.serde_json.specs.declared.value.Value.{Value}
use Rattle.bitjson.specs.Form.{parts, bytes, bytes_from, form, item_byte, numbers, object_of}

-- the byte of an item is one
pub item_bytes_lt : (vs : List Value) (j : ℕ) → get_or (map item_byte vs) j 0 < 256
item_bytes_lt [] j = omega arith
item_bytes_lt (v ∷ vs) zero = grind (arith, nat_tests)
item_bytes_lt (v ∷ vs) (suc j) = item_bytes_lt vs j

-- ---- the object of a length and bytes

bytes_from-numbers : (bs : List ℕ) (k : ℕ) → ((j : ℕ) → get_or bs j 0 < 256)
    → bytes_from k (items_of (numbers bs)) ≡ Ok bs
bytes_from-numbers [] k small = refl
bytes_from-numbers (b ∷ bs) k small =
    rw (lt-ltb b 256 (small zero), bytes_from-numbers bs (k + 1) (λ j. small (suc j))) refl

-- it is in the form
pub form-object_of : (n : ℕ) (bs : List ℕ) → ((j : ℕ) → get_or bs j 0 < 256) → form (object_of n bs) ≡ Ok (n, bs)
unfolding form object_of parts bytes
form-object_of n bs small = rw (bytes_from-numbers bs 0 small) refl

-- numbers nest no further, and are whole
plain : (bs : List ℕ) → (items_depth (items_of (numbers bs)) ≡ 0) × (items_have_float (items_of (numbers bs)) ≡ false)
plain [] = (refl, refl)
plain (b ∷ bs) = (rw (plain bs).0 refl, (plain bs).1)

-- it is an object with a list in it
pub depth-object_of : (n : ℕ) (bs : List ℕ) → depth (object_of n bs) ≡ 2
unfolding object_of
depth-object_of n bs = rw (plain bs).0 refl

-- and has whole numbers alone
pub has_float-object_of : (n : ℕ) (bs : List ℕ) → has_float (object_of n bs) ≡ false
unfolding object_of
has_float-object_of n bs = rw (plain bs).1 refl
