-- What is written of a set is in the form and means that set, and its text, for those who read and write sets.
use Rattle.std.proofs.Common.{decimal, true, append_assoc, ◌≡◌, ℕ, ◌+◌, ◌*◌, ◌/◌, ◌%◌, ◌<◌}
use Rattle.std.proofs.Common.{false, List, [], ◌∷◌, ◌++◌, map, get_or, Ok, refl, ap, ◌∙◌, arith}
use Rattle.std.specs.List.{join_with_byte}
use Rattle.std.proofs.lemmas.Bool.Decides.{nat_tests}
use Rattle.std.proofs.lemmas.List.{get_or_past}
use Rattle.std.proofs.lemmas.List.FromFn.{get_or-map-range_with_len, length-map-range_with_len}
use Rattle.serde_json.specs.Data.{depth}
use Rattle.serde_json.specs.View.{items_of}
use Rattle.serde_json.specs.Written.{has_float, compact_text, items_text}
use Rattle.serde_json.proofs.OnLiterals.{serde_json_on_literals}
use Rattle.bitjson.specs.Form.{form, numbers, object_of, ◌>>=◌}
use Rattle.bitjson.specs.FormFacts.{form-object_of, depth-object_of, has_float-object_of}
use Rattle.fixedbitset.specs.Bits.{Bits, words_needed}
use Rattle.fixedbitset.specs.BitsFacts.{same_bits, contains_below}
use Rattle.fixedbitset.specs.WordsFacts.{length-having, contains-having, number_at-lt, bit_at-number_at}
use Rattle.fixedbitset.specs.Json.{of_bytes, meaning, byte, bytes, written, json_text}

-- ---- the bytes of a value

pub get_or-bytes : (v : Bits) (j : ℕ) → j < 8 * words_needed v.length → get_or (bytes v) j 0 ≡ byte v j
unfolding bytes
get_or-bytes v j h = get_or-map-range_with_len (byte v) 0 (8 * words_needed v.length) j j 0 h (omega arith)

pub bytes-lt : (v : Bits) (j : ℕ) → get_or (bytes v) j 0 < 256
unfolding bytes
bytes-lt v j =
    grind (
      arith,
      get_or-bytes v j,
      number_at-lt v (8 * j) 8,
      get_or_past (bytes v) j 0,
      length-map-range_with_len (byte v) 0 (8 * words_needed v.length),
    )

-- the bytes of a value mean that value
pub of_bytes-bytes : (v : Bits) → of_bytes v.length (bytes v) ≡ v
unfolding of_bytes
of_bytes-bytes v = same_bits (of_bytes v.length (bytes v)) v (length-having _ _) (λ p.
    let at : 8 * (p / 8) + p % 8 ≡ p = omega arith in
    contains-having v.length _ p
    ∙ grind
    (arith, nat_tests, at, get_or-bytes v (p / 8), bit_at-number_at v (8 * (p / 8)) 8 (p % 8), contains_below v p))

-- ---- what is written

pub form-written : (v : Bits) → form (written v) ≡ Ok (v.length, bytes v)
unfolding written
form-written v = form-object_of v.length (bytes v) (bytes-lt v)

pub reads_back : (v : Bits) → meaning (written v) ≡ Ok v
reads_back v = ap (λ r. r >>= λ f. Ok (of_bytes f.0 f.1)) (form-written v) ∙ ap Ok (of_bytes-bytes v)

pub depth-written : (v : Bits) → depth (written v) ≡ 2
unfolding written
depth-written v = depth-object_of v.length (bytes v)

pub has_float-written : (v : Bits) → has_float (written v) ≡ false
unfolding written
has_float-written v = has_float-object_of v.length (bytes v)

-- ---- its text

later_text : (b : ℕ) (bs : List ℕ)
    → items_text true (items_of (numbers (b ∷ bs))) ≡ 44 ∷ (join_with_byte 44 (map decimal (b ∷ bs)) ++ 93 ∷ [])
later_text b [] = refl
later_text b (c ∷ bs) = rw (later_text c bs, append_assoc)

list_text : (bs : List ℕ) → items_text false (items_of (numbers bs)) ≡ join_with_byte 44 (map decimal bs) ++ 93 ∷ []
list_text [] = refl
list_text (b ∷ []) = refl
list_text (b ∷ c ∷ bs) = rw (later_text c bs, append_assoc)

pub text-written : (v : Bits) → compact_text (written v) ≡ json_text v
unfolding written object_of json_text serde_json_on_literals
text-written v = rw (list_text (bytes v), append_assoc (join_with_byte 44 (map decimal (bytes v))) (93 ∷ []))
