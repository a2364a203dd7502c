-- The replies of the table have one text each, with no line end in it, for those who
-- print replies and cut an output into lines.
use Rattle.std.proofs.Common.{◌≡◌, ℕ, zero, suc, ◌/◌, ◌%◌, List, [], ◌∷◌, ◌++◌, map, Option, Some, None}
use Rattle.std.proofs.Common.{MatchOption, Bool, true, false, not, eqb, ◌⊎◌, inl, inr, refl, arith}
use Rattle.std.specs.Prelude.{⊤, if◌then◌else◌}
use Rattle.std.specs.List.{list_all, join_with_byte}
use Rattle.std.specs.Fmt.{decimal, digits, digits_onto, digit_glyph}
use Rattle.std.proofs.lemmas.Bool.Decides.{nat_tests}
use Rattle.std.proofs.lemmas.List.Folds.{list_all-append}
use Rattle.serde_json.specs.Written.{compact_text, has_float}
use Rattle.fixedbitset.specs.Bits.{Bits}
use Rattle.fixedbitset.specs.Text as printed
use Rattle.fixedbitset.specs.Json.{bytes, written, json_text}
use Rattle.fixedbitset.specs.JsonFacts.{text-written, has_float-written}
use Rattle.bitcommands.specs.declared.commands.refusals.Refusal.{Refusal}
use Rattle.bitcommands.specs.declared.commands.refusals.Refusal.TheVariants as refusal
use Rattle.bitcommands.specs.Actions as action
use Rattle.bitcommands.specs.Actions.{Action}
use Rattle.bitcommands.specs.Answers as answer
use Rattle.bitcommands.specs.Answers.{Answer}
use Rattle.bitcommands.specs.Guards.{has_greatest}
use Rattle.bitcommands.specs.Sets.{Sets, at}
use Rattle.bitcommands.specs.Steps.{Step}
use Rattle.bitcommands.specs.Table.{row_of}
use Rattle.bitcommands.specs.Texts.{item_text, words_text, answer_text, one_text}

-- ---- texts with no line end

-- no byte of the text is a line end
abbrev pub is_one_line : List ℕ → Bool
is_one_line = list_all (λ b. not (eqb b 10))

after : (xs ys : List ℕ) → is_one_line xs ≡ true → is_one_line ys ≡ true → is_one_line (xs ++ ys) ≡ true
after xs ys h k = grind (arith, list_all-append (λ b. not (eqb b 10)) xs ys)

-- the digits of any number, however great
digits_line : (k n : ℕ) (acc : List ℕ) → is_one_line acc ≡ true → is_one_line (digits_onto k 10 false n acc) ≡ true
digits_line zero n acc h = h
digits_line (suc k) n acc h = grind (arith, nat_tests, digits_line k (n / 10) (digit_glyph false (n % 10) ∷ acc))

decimal_line : (n : ℕ) → is_one_line (decimal n) ≡ true
unfolding digits
decimal_line n = digits_line 64 n [] refl

-- texts with no line end, and a byte between two of them that is none
joined_line : {A : Type 0} (text : A → List ℕ) (byte : ℕ) → eqb byte 10 ≡ false
    → ((a : A) → is_one_line (text a) ≡ true) → (list : List A)
    → is_one_line (join_with_byte byte (map text list)) ≡ true
joined_line text byte other line [] = refl
joined_line text byte other line (x ∷ []) = line x
joined_line text byte other line (x ∷ y ∷ list) =
    grind (arith, after, line x, joined_line text byte other line (y ∷ list))

-- bytes that are no line end
mapped_line : {A : Type 0} (byte : A → ℕ) → ((a : A) → eqb (byte a) 10 ≡ false) → (list : List A)
    → is_one_line (map byte list) ≡ true
mapped_line byte other [] = refl
mapped_line byte other (x ∷ list) = grind (arith, other x, mapped_line byte other list)

item_line : (item : Option ℕ) → is_one_line (item_text item) ≡ true
item_line item = grind (arith, decimal_line)

words_line : (ws : List ℕ) → is_one_line (words_text ws) ≡ true
words_line ws = grind (arith, joined_line decimal 32 refl decimal_line ws)

characters_line : (v : Bits) → is_one_line (printed.text v) ≡ true
unfolding printed.text
characters_line v = mapped_line (printed.digit v) (λ p. grind arith) _

value_line : (v : Bits) → is_one_line (compact_text (written v)) ≡ true
unfolding json_text
value_line v = rw text-written (grind (arith, after, decimal_line, joined_line decimal 44 refl decimal_line (bytes v)))

-- ---- the replies of the table

-- a reply that is a text has no line end, and one that is a JSON value has none and no float
abbrev IsPlain : Answer → Type 0
IsPlain (answer.text characters) = is_one_line characters ≡ true
IsPlain (answer.value d) = (is_one_line (compact_text d) ≡ true) × (has_float d ≡ false)
IsPlain r = ⊤

answer_line : (r : Answer) → IsPlain r → is_one_line (answer_text r) ≡ true
answer_line (answer.text characters) plain = plain
answer_line (answer.value d) plain = plain.0
answer_line (answer.items list) plain = joined_line item_text 32 refl item_line list
answer_line r plain = grind (arith, after, decimal_line, item_line, words_line)

answer_one : (r : Answer) → IsPlain r → one_text r ≡ Some (answer_text r)
answer_one (answer.value d) plain = rw plain.1 refl
answer_one r plain = refl

outcome_plain : (items : List ℕ) → IsPlain (if has_greatest items then answer.refused refusal.Greatest else answer.done)
outcome_plain items = by (has_greatest items)
  where
    by : (met : Bool) → IsPlain (if met then answer.refused refusal.Greatest else answer.done)
    by true = tt
    by false = tt

row_plain : (m : ℕ) (s : Sets) (c : Action) → IsPlain (row_of m s c).answer
row_plain m s (action.from_iter a b) = outcome_plain b
row_plain m s (action.extend a b) = outcome_plain b
row_plain m s (action.text a) = characters_line (at s a)
row_plain m s (action.to_value a) = (value_line (at s a), has_float-written (at s a))
row_plain m s c = tt

answered_plain : (r a : Answer) (test : Option Refusal) (P Q R : Type 0) → IsPlain a
    → MatchOption test (((r ≡ a) × P) ⊎ ((r ≡ answer.refused refusal.Memory) × Q)) (λ f. (r ≡ answer.refused f) × R)
    → IsPlain r
answered_plain r a None P Q R plain (inl h) = rw h.0 plain
answered_plain r a None P Q R plain (inr h) = rw h.0 tt
answered_plain r a (Some f) P Q R plain h = rw h.0 tt

-- each step returns what has no line end
pub step_line : (m : ℕ) (old new : Sets) (c : Action) (r : Answer) → Step m old c r new
    → is_one_line (answer_text r) ≡ true
step_line m old new c r step = answer_line r (answered_plain r _ _ _ _ _ (row_plain m old c) step)

-- each step returns what has one text
pub step_one_text : (m : ℕ) (old new : Sets) (c : Action) (r : Answer) → Step m old c r new
    → one_text r ≡ Some (answer_text r)
step_one_text m old new c r step = answer_one r (answered_plain r _ _ _ _ _ (row_plain m old c) step)
