-- The JSON form, and what is written of a set in it, for all values.
use Rattle.std.specs.Prelude.{◌≡◌, ◌↔◌, ℕ, List, Result, Ok, Err, false}
use Rattle.serde_json.specs.Data.{Data, depth}
use Rattle.serde_json.specs.Written.{compact_text, has_float}
use Rattle.bitjson.specs.declared.fault.JsonFault.{JsonFault}
use Rattle.fixedbitset.specs.Bits.{Bits}
use Rattle.fixedbitset.specs.Json as json
use Rattle.bitlaws.specs.InForm.{InForm, HasFault}

-- it returns what `of` makes of a length and bytes exactly where the value is in the form with these,
-- and an error exactly where the value has it
abbrev pub ReadsForm : {A : Type 0} → (Data → Result A JsonFault) → (ℕ → List ℕ → A) → Type 0
ReadsForm {A} read of =
    (d : Data) → ((x : A) → (read d ≡ Ok x) ↔ ((n : ℕ) × (bs : List ℕ) × InForm d n bs × (x ≡ of n bs)))
    × ((f : JsonFault) → (read d ≡ Err f) ↔ HasFault d f)

-- so do `meaning`, with the set of this length that the bytes say, and `length_of`, with the length
abbrev pub FormTells : Type 0
FormTells = ReadsForm json.meaning json.of_bytes × ReadsForm json.length_of (λ n bs. n)

-- what is written of a value is in the form, and means that value
abbrev pub WrittenReadsBack : Type 0
WrittenReadsBack = (v : Bits) → json.meaning (json.written v) ≡ Ok v

-- its text without spaces, byte for byte
abbrev pub TextIsExact : Type 0
TextIsExact = (v : Bits) → compact_text (json.written v) ≡ json.json_text v

-- all its numbers are whole, so it is written as this very text
abbrev pub HasWholeNumbers : Type 0
HasWholeNumbers = (v : Bits) → has_float (json.written v) ≡ false

-- it is an object with a list in it, and no deeper, so its text can be read
abbrev pub NestsTwice : Type 0
NestsTwice = (v : Bits) → depth (json.written v) ≡ 2
