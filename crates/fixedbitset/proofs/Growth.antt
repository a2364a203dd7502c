-- Words are added, cut or written anew: what that does to the value.
use Rattle.std.proofs.Common.{◌≡◌, ℕ, ◌-◌, ◌*◌, ◌/◌, ◌%◌, ◌^◌, ◌<◌, ◌≤◌, List, ◌++◌}
use Rattle.std.proofs.Common.{false, replicate, length, take, drop, get_or, sym, ap, ◌∙◌, ⊎_elim, arith}
use Rattle.std.proofs.lemmas.Bool.{cases_lt}
use borrow.Rule.Slice.PartMut.{put_mid}
use Rattle.bitlanes.specs.Bits.{bit}
use Rattle.std.proofs.lemmas.List.{append-nil, get_or-append_right, get_or_append_left}
use Rattle.std.proofs.lemmas.List.{get_or_past, get_or-replicate, length-replicate, length-append}
use Rattle.std.proofs.lemmas.List.{length-take, length-drop}
use Rattle.bitwords.specs.Rows.{has_bit}
use Rattle.bitwords.specs.RowFacts.{bit-zero, has_bit-same}
use Rattle.fixedbitset.specs.Bits.{Bits, contains, empty, grow, storage_words, of_words}
use Rattle.fixedbitset.specs.BitsFacts.{same_bits, contains-grow, length-grow, contains-empty, length-empty}
use Rattle.fixedbitset.specs.Stored.{IsClean}
use Rattle.fixedbitset.proofs.Words.{Keeps, keeps, has_bit-of, viewed_length}

abbrev pub zeros : ℕ → List ℕ
zeros j = replicate j 0

get_or-none : (j i : ℕ) → get_or (zeros j) i 0 ≡ 0
get_or-none j i =
    grind (arith, get_or-replicate {A = ℕ} j i 0 0, get_or_past (zeros j) i 0, length-replicate {A = ℕ} j 0)

-- zeros behind the words
pub get_or-zeros : (ws : List ℕ) (j i : ℕ) → get_or (ws ++ zeros j) i 0 ≡ get_or ws i 0
get_or-zeros ws j i =
    grind (
      arith,
      get_or_append_left ws (zeros j) 0 i,
      get_or-append_right ws (zeros j) (length ws) i 0,
      get_or-none j (i - length ws),
      get_or_past ws i 0,
    )

-- what `lengthen` leaves
pub keeps_longer : (n m : ℕ) (ws : List ℕ) (v : Bits) (new : List ℕ) (len needed : ℕ) → of_words n ws ≡ v → IsClean n ws
    → m < 2 ^ 64 → n < m → len ≡ length ws → needed ≡ storage_words m → new ≡ ws ++ replicate (needed - len) 0
    → Keeps m new (grow v m)
keeps_longer n m ws v new len needed view clean fits longer same_len same_needed items =
    keeps m new (grow v m) fits
    (omega (
      arith,
      ap length items,
      length-append ws (zeros (needed - len)),
      length-replicate {A = ℕ} (needed - len) 0,
      clean.count,
    ))
    (omega (arith, length-grow v m, viewed_length n ws v view))
    (λ p. rw items (has_bit-same _ ws (get_or-zeros ws (needed - len)) p ∙ has_bit-of n ws v view clean p
    ∙ sym (contains-grow v m p)))

pub grow_same : (n m : ℕ) (ws : List ℕ) (v : Bits) → of_words n ws ≡ v → m ≤ n → v ≡ grow v m
grow_same n m ws v view h =
    same_bits v (grow v m) (omega (arith, viewed_length n ws v view, length-grow v m)) (λ p. sym (contains-grow v m p))

-- as many words as there are
pub none_added : (ws : List ℕ) (count len : ℕ) → count ≡ len → ws ≡ ws ++ replicate (count - len) 0
none_added ws count len same =
    sym (ap (λ j. ws ++ zeros j) (let e : count - len ≡ 0 = omega arith in e) ∙ append-nil ws)

-- words that are all 0
pub has_bit-zeros : (j p : ℕ) → has_bit (zeros j) p ≡ false
unfolding has_bit
has_bit-zeros j p = rw (get_or-none j (p / 64)) (bit-zero (p % 64))

-- words of which those from word k on are written with zeros
module _ (ws zs : List ℕ) (k : ℕ) (inside : k ≤ length ws)
    (are : zs ≡ zeros (length (take (length ws - k) (drop k ws)))) where
  abbrev cut : List ℕ
  cut = put_mid k (length ws - k) ws zs

  long : length zs ≡ length ws - k
  long = ap length are ∙ length-replicate {A = ℕ} _ 0 ∙ omega (arith, length-take {A = ℕ}, length-drop {A = ℕ})

  within : (i : ℕ) → k ≤ i → i < length ws → get_or cut i 0 ≡ get_or zs (i - k) 0
  within i from below = grind (arith, long, get_or_append_left, get_or-append_right, length-take)

  whole : length cut ≡ length ws
  whole = omega (arith, long, length-append {A = ℕ}, length-take {A = ℕ}, length-drop {A = ℕ})

  pub zeros_behind : (p : ℕ) → 64 * k ≤ p → has_bit cut p ≡ false
  unfolding has_bit
  zeros_behind p behind = ⊎_elim
      (λ (lt : p / 64 < length ws).
      ap (λ w. bit w (p % 64))
      (within (p / 64) (omega arith) lt ∙ ap (λ z. get_or z (p / 64 - k) 0) are ∙ get_or-none _ (p / 64 - k))
      ∙ bit-zero (p % 64))
      (λ (ge : length ws ≤ p / 64).
      ap (λ w. bit w (p % 64)) (get_or_past cut (p / 64) 0 (omega (arith, whole))) ∙ bit-zero (p % 64))
      (cases_lt (p / 64) (length ws))

has_bit-none : (j n p : ℕ) → has_bit (zeros j) p ≡ contains (empty n) p
has_bit-none j n p = has_bit-zeros j p ∙ sym (contains-empty n p)

pub keeps_zeros : (n : ℕ) → n < 2 ^ 64 → Keeps n (replicate (storage_words n) 0) (empty n)
keeps_zeros n fits = keeps n _ (empty n) fits (length-replicate _ 0) (length-empty n) (has_bit-none _ n)
