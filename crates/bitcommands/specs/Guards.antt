-- The guards of commands: what refuses a command before it does anything.
use Rattle.std.specs.Prelude.{ℕ, ◌-◌, ◌^◌, Bool, not, ◌==◌, List, length, Option, Some, None, nat_lt, if◌then◌else◌}
use Rattle.std.specs.Option.{option_or, option_map}
use Rattle.std.specs.Result.{result_err, result_unwrap_or}
use Rattle.std.specs.List.{list_any, list_all, take_while}
use Rattle.fixedbitset.specs.Bits as model
use Rattle.fixedbitset.specs.Bits.{Bits}
use Rattle.fixedbitset.specs.Ranges.{over, is_valid}
use Rattle.fixedbitset.specs.Json.{length_of}
use Rattle.serde_json.specs.Data.{Data}
use Rattle.bitcommands.specs.Actions.{Range}
use Rattle.bitcommands.specs.declared.commands.refusals.Refusal.{Refusal}
use Rattle.bitcommands.specs.declared.commands.refusals.Refusal.TheVariants as refusal
use Rattle.bitcommands.specs.Sets.{Sets, at}

-- this refusal, where the test holds
abbrev pub refuse : Refusal → Bool → Option Refusal
refuse f test = if test then Some f else None

-- ---- sets

-- there is no such set
abbrev pub no_set : Sets → ℕ → Option Refusal
no_set s k = refuse refusal.NoSet (not (nat_lt k (length s)))

-- one of two sets isn't there
abbrev pub no_sets : Sets → ℕ → ℕ → Option Refusal
no_sets s a b = option_or (no_set s a) (no_set s b)

-- ---- positions and lengths

-- there is no such set, or the position isn't below its length
abbrev pub no_position : Sets → ℕ → ℕ → Option Refusal
no_position s k p = option_or (no_set s k) (refuse refusal.Position (not (nat_lt p (at s k).length)))

-- there is no such set, or it has no such word
abbrev pub no_word : Sets → ℕ → ℕ → Option Refusal
no_word s k i = option_or (no_set s k) (refuse refusal.Position (not (nat_lt i (length (model.words (at s k))))))

-- a length above the limit is asked for
abbrev pub past_limit : ℕ → ℕ → Option Refusal
past_limit limit n = refuse refusal.Limit (nat_lt limit n)

-- there is no such set, or a length above the limit is asked for
abbrev pub no_length : ℕ → Sets → ℕ → ℕ → Option Refusal
no_length limit s k n = option_or (no_set s k) (past_limit limit n)

-- there is no such set, or the value is not in the form, or its length is above the limit
abbrev pub no_value : ℕ → Sets → ℕ → Data → Option Refusal
no_value limit s d json = option_or (no_set s d)
    (option_or (option_map refusal.Json (result_err (length_of json)))
    (past_limit limit (result_unwrap_or (length_of json) 0)))

-- whether the set needs more words for this length than it has
abbrev pub needs_more_words : Bits → ℕ → Bool
needs_more_words v n = nat_lt (model.words_needed v.length) (model.words_needed n)

-- ---- items that a set grows for

-- whether this is the greatest number, which no length is above
abbrev pub is_greatest : ℕ → Bool
is_greatest p = p == 2 ^ 64 - 1

-- the items before the first greatest number
unfoldable pub before_greatest : List ℕ → List ℕ
before_greatest items = take_while (λ p. not (is_greatest p)) items

-- whether the greatest number is among the items
unfoldable pub has_greatest : List ℕ → Bool
has_greatest items = list_any is_greatest items

-- there is no such set, or the position is the greatest number, or it isn't below the limit
abbrev pub no_item : ℕ → Sets → ℕ → ℕ → Option Refusal
no_item limit s k p = option_or (no_set s k)
    (option_or (refuse refusal.Greatest (is_greatest p)) (refuse refusal.Limit (not (nat_lt p limit))))

-- there is no such set, or one of those items isn't below the limit
abbrev pub no_items : ℕ → Sets → ℕ → List ℕ → Option Refusal
no_items limit s k items =
    option_or (no_set s k) (refuse refusal.Limit (not (list_all (λ p. nat_lt p limit) (before_greatest items))))

-- ---- ranges

-- there is no such set, or the range isn't valid for it
abbrev pub no_range : Sets → ℕ → Range → Option Refusal
no_range s k r = option_or (no_set s k) (refuse refusal.Range (not (over is_valid (at s k) r.0 r.1)))
