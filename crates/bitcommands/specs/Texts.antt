-- The texts of replies.
use Rattle.std.specs.Prelude.{◌≡◌, ◌≤◌, ℕ, Bool, true, not, List, ◌++◌, map, Option}
use Rattle.std.specs.Prelude.{Some, None, codes, if◌then◌else◌, length, ◌==◌}
use Rattle.std.specs.List.{join_with_byte}
use Rattle.std.specs.Fmt.{decimal}
use Rattle.std.specs.declared.cmp.Ordering.{Ordering}
use Rattle.std.specs.declared.cmp.Ordering.TheVariants.{Less, Equal, Greater}
use Rattle.serde_json.specs.Data.{Data, depth}
use Rattle.serde_json.specs.Read.{read, max_depth}
use Rattle.serde_json.specs.Written.{compact_text, has_float, IsInOrder}
use Rattle.bitjson.specs.declared.fault.JsonFault.{JsonFault}
use Rattle.bitjson.specs.declared.fault.JsonFault.TheVariants as fault
use Rattle.bitcommands.specs.declared.commands.refusals.Refusal.{Refusal}
use Rattle.bitcommands.specs.declared.commands.refusals.Refusal.TheVariants.{NoSet, Position, Range}
use Rattle.bitcommands.specs.declared.commands.refusals.Refusal.TheVariants.{Greatest, Json, Memory, Limit}
use Rattle.bitcommands.specs.Answers as answer
use Rattle.bitcommands.specs.Answers.{Answer}

-- the number of an error of a JSON value; behind that of an item stands its index
abbrev pub json_fault_text : JsonFault → List ℕ
json_fault_text fault.Shape = codes "J1"
json_fault_text fault.Count = codes "J2"
json_fault_text fault.NoLength = codes "J3"
json_fault_text fault.NoData = codes "J4"
json_fault_text fault.Key = codes "J5"
json_fault_text fault.Length = codes "J6"
json_fault_text fault.Data = codes "J7"
json_fault_text (fault.Item k) = codes "J8 " ++ decimal k
json_fault_text fault.Memory = codes "J9"

-- the text of a refusal
abbrev pub refusal_text : Refusal → List ℕ
refusal_text NoSet = codes "F1 no such set"
refusal_text Position = codes "F2 position not below the length"
refusal_text Range = codes "F3 range not valid"
refusal_text Greatest = codes "F4 position too great"
refusal_text (Json f) = codes "F5 " ++ json_fault_text f
refusal_text Memory = codes "F6 no memory"
refusal_text Limit = codes "F7 length above the limit"

-- the text of a truth value
abbrev pub flag_text : Bool → List ℕ
flag_text flag = if flag then codes "true" else codes "false"

-- the text of an item, or `none` where none was left
abbrev pub item_text : Option ℕ → List ℕ
item_text None = codes "none"
item_text (Some n) = decimal n

-- one text for each, one space between two of them
abbrev pub spaced_text : {A : Type 0} → (A → List ℕ) → List A → List ℕ
spaced_text text list = join_with_byte 32 (map text list)

-- one number a word, one space between two of them, or `-` where there are none
abbrev pub words_text : List ℕ → List ℕ
words_text ws = if length ws == 0 then codes "-" else spaced_text decimal ws

-- which of two comes first
abbrev pub order_text : Ordering → List ℕ
order_text Less = codes "less"
order_text Equal = codes "equal"
order_text Greater = codes "greater"

-- the text of a reply; that of a JSON value has no space
abbrev pub answer_text : Answer → List ℕ
answer_text answer.done = codes "ok"
answer_text (answer.bool e) = flag_text e
answer_text (answer.number n) = decimal n
answer_text (answer.position p) = item_text p
answer_text (answer.items list) = spaced_text item_text list
answer_text (answer.words list) = words_text list
answer_text (answer.order o) = order_text o
answer_text (answer.text characters) = characters
answer_text (answer.value d) = compact_text d
answer_text (answer.refused f) = refusal_text f

-- whether a reply has but one text: a JSON value has it if it has no number with a fraction or an exponent
abbrev pub has_one_text : Answer → Bool
has_one_text (answer.value d) = not (has_float d)
has_one_text r = true

-- that text, if there is but one
abbrev pub one_text : Answer → Option (List ℕ)
one_text r = if has_one_text r then Some (answer_text r) else None

-- the JSON value that is returned, if one is
abbrev pub value_of : Answer → Option Data
value_of (answer.value d) = Some d
value_of r = None

-- the text has the items and members of the JSON value in order and its whole
-- numbers in decimal, and is read as the value
pub record IsTextOfValue (d : Data) (text : List ℕ) : Type 0 where
  pub in_order : IsInOrder text d
  pub read_back : depth d ≤ max_depth → read text ≡ Some d

-- such a text stands behind the output
pub record PutsValue (old new : List ℕ) (d : Data) : Type 0 where
  pub text : List ℕ
  pub behind : new ≡ old ++ text
  pub is_text : IsTextOfValue d text
