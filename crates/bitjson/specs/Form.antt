-- The JSON form of a length and bytes.
use Rattle.std.specs.Prelude.{ℕ, ◌+◌, List, [], ◌∷◌, map, Option, Some, None, Result, Ok, Err}
use Rattle.std.specs.Prelude.{nat_lt, ◌==◌, if◌then◌else◌, option_and_then, unwrap_or, codes}
use Rattle.serde_json.specs.Data.{Data, Items, null, boolean, number, string, array}
use Rattle.serde_json.specs.Data.{object, no_items, item, no_members, member, unsigned}
use Rattle.serde_json.specs.Find.{get_member, as_number, as_u64}
use Rattle.serde_json.specs.Events.{members_len}
use Rattle.serde_json.specs.View.{view, items_of}
use Rattle.serde_json.specs.declared.value.Value.{Value}
use Rattle.bitjson.specs.declared.fault.JsonFault.{JsonFault}
use Rattle.bitjson.specs.declared.fault.JsonFault.TheVariants as fault

infixl 10 ◌>>=◌
-- what comes of a result, or the error that is there already
abbrev pub ◌>>=◌ : {A B : Type 0} → Result A JsonFault → (A → Result B JsonFault) → Result B JsonFault
(Ok x) >>= f = f x
(Err e) >>= f = Err e

-- what is there, or the error where nothing is
abbrev pub or_fault : {A : Type 0} → Option A → JsonFault → Result A JsonFault
or_fault (Some x) f = Ok x
or_fault None f = Err f

-- the whole number of 64 bits that a value is, if it is one
abbrev pub whole : Data → Option ℕ
whole d = option_and_then as_u64 (as_number d)

-- the whole number from 0 to 255 that a value is, if it is one
abbrev pub byte : Data → Option ℕ
byte d = option_and_then (λ n. if nat_lt n 256 then Some n else None) (whole d)

-- the length and the data: of a list of two, or of an object with exactly the keys `length` and `data`
unfoldable pub parts : Data → Result (Data × Data) JsonFault
parts null = Err fault.Shape
parts (boolean b) = Err fault.Shape
parts (number n) = Err fault.Shape
parts (string s) = Err fault.Shape
parts (array no_items) = Err fault.Count
parts (array (item l no_items)) = Err fault.Count
parts (array (item l (item d no_items))) = Ok (l, d)
parts (array (item l (item d (item e more)))) = Err fault.Count
parts (object ms) = do
  l ← or_fault (get_member (codes "length") ms) fault.NoLength
  d ← or_fault (get_member (codes "data") ms) fault.NoData
  if members_len ms == 2 then Ok (l, d) else Err fault.Key

-- the bytes that items are, of which the first is item k; or the first item that is none
abbrev pub bytes_from : ℕ → Items → Result (List ℕ) JsonFault
bytes_from k no_items = Ok []
bytes_from k (item d ds) = or_fault (byte d) (fault.Item k) >>= λ b. bytes_from (k + 1) ds >>= λ bs. Ok (b ∷ bs)

-- the bytes that the items of a list are
unfoldable pub bytes : Data → Result (List ℕ) JsonFault
bytes null = Err fault.Data
bytes (boolean b) = Err fault.Data
bytes (number n) = Err fault.Data
bytes (string s) = Err fault.Data
bytes (array ds) = bytes_from 0 ds
bytes (object ms) = Err fault.Data

-- the length and the bytes of a value in the form, or the first error
unfoldable pub form : Data → Result (ℕ × List ℕ) JsonFault
form d = do
  p ← parts d
  n ← or_fault (whole p.0) fault.Length
  bs ← bytes p.1
  Ok (n, bs)

-- the byte that an item is, and 0 where it is none
abbrev pub item_byte : Value → ℕ
item_byte x = unwrap_or (byte (view x)) 0

-- the object with this length and these items, its keys in order
abbrev pub object_with : ℕ → Items → Data
object_with n items =
    object (member (codes "data") (array items) (member (codes "length") (number (unsigned n)) no_members))

-- whole numbers as values
abbrev pub numbers : List ℕ → List Data
numbers ns = map (λ n. number (unsigned n)) ns

-- the object with this length and these bytes
unfoldable pub object_of : ℕ → List ℕ → Data
object_of n bs = object_with n (items_of (numbers bs))
