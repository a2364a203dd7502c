-- The parts of a JSON value, and the items of its data.
use Rattle.std.proofs.Common.{◌≡◌, ℕ, ◌+◌, ◌≤◌, List, [], ◌∷◌, length, map, drop, Some, None, Ok, refl, sym, ◌∙◌, arith}
use Rattle.std.specs.Result.{result_err}
use Rattle.std.proofs.lemmas.List.{at_drop_all}
use Rattle.std.proofs.lemmas.Bool.Decides.{nat_tests}
use Rattle.serde_json.specs.Data.{Data, array}
use Rattle.serde_json.specs.Find.{as_array}
use Rattle.serde_json.specs.Events.{items_len}
use Rattle.serde_json.specs.View.{items_view}
use Rattle.serde_json.specs.declared.value.Value.{Value}
use Rattle.serde_json.proofs.Views.{view-Array, view-Object, items_len-items_view}
use Rattle.serde_json.proofs.Views.{get_item_within, members_len-members_view}
use Rattle.bitjson.specs.Form.{bytes, bytes_from, item_byte}

-- what a list and an object have (`grind` uses a lemma where its first call stands)
pub items_at_view : (vs : List Value) → (items_view vs ≡ items_view vs) × (items_len (items_view vs) ≡ length vs)
items_at_view vs = (refl, items_len-items_view vs)

pub ruleset parts_facts = (nat_tests, view-Array, view-Object, items_at_view, get_item_within, members_len-members_view)

-- where no item is a fault, the bytes are those of the items
all_bytes : (vs : List Value) (k : ℕ) → result_err (bytes_from k (items_view vs)) ≡ None
    → Ok (map item_byte vs) ≡ bytes_from k (items_view vs)
all_bytes [] k e = refl
all_bytes (v ∷ vs) k e = let rest = all_bytes vs (k + 1) in grind (arith, rest)

-- so of a list that a loop has gone over to its end
pub bytes_ok : (d : Data) (vs : List Value) (k : ℕ) → Some (items_view vs) ≡ as_array d → length vs ≤ k
    → result_err (bytes_from k (items_view (drop k vs))) ≡ result_err (bytes d) → Ok (map item_byte vs) ≡ bytes d
unfolding bytes
bytes_ok d vs k some past same =
    let is : d ≡ array (items_view vs) = grind arith in
    rw is
    (all_bytes vs 0 (sym (rw is at same) ∙ at_drop_all (λ xs. result_err (bytes_from k (items_view xs))) vs k past))
