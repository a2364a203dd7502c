-- One word is replaced: what that does to the value.
use Rattle.std.proofs.Common.{◌≡◌, ◌≢◌, ℕ, ◌*◌, ◌/◌, ◌%◌, ◌^◌, ◌<◌, ◌≤◌, Bool, true, false, cond, not, ◌==◌, List}
use Rattle.std.proofs.Common.{[], length, get_or, set, refl, sym, ap, ◌∙◌, arith, bit_or, bit_and, bit_xor, lit<}
use Rattle.std.proofs.Common.{Option, Some, None, IfSome, IfNone}
use Rattle.std.specs.Int.{bit_at, bit_not, w64}
use Rattle.std.proofs.lemmas.Bool.Decides.{nat_tests}
use Rattle.std.proofs.lemmas.List.{length-set}
use Rattle.std.proofs.lemmas.Nat.{one_shl}
use Rattle.std.proofs.lemmas.Nat.Bits.{bit_at_set_same, bit_at_set_other, bit_at_clear_same, bit_at_clear_other}
use Rattle.std.proofs.lemmas.Nat.Bits.{bit_at_xor, bit_at-pow_same, bit_at-pow_other, bit_at-lt}
use Rattle.bitlanes.specs.BitLaws.{test_of_and}
use Rattle.bitwords.specs.CountFacts.{indicator}
use Rattle.bitwords.specs.Rows.{has_bit}
use Rattle.bitwords.specs.RowFacts.{has_bit-past}
use Rattle.fixedbitset.specs.Bits.{Bits, contains, insert, remove, set_bit, toggle, empty, minimum, maximum, of_words}
use Rattle.fixedbitset.specs.BitsFacts.{length-set_bit, contains-set_bit, length-empty, contains-empty}
use Rattle.fixedbitset.specs.BitsFacts.{contains_below, contains-past}
use Rattle.fixedbitset.specs.FirstFacts.{minimum_least}
use Rattle.fixedbitset.specs.NeighbourFacts.{maximum_greatest}
use Rattle.fixedbitset.specs.Stored.{IsClean}
use Rattle.fixedbitset.specs.Views.{held, Becomes}
use Rattle.fixedbitset.specs.declared.views.BitsMut.{BitsMut}
use Rattle.fixedbitset.specs.WordsFacts.{length-of_words, has_bit-written}
use Rattle.fixedbitset.proofs.Words.{Keeps, keeps, contains_word}

-- the word has b at bit j, and else the bits of the old one
record ChangesBit (old new j : ℕ) (b : Bool) : Type 0 where
  same : bit_at new j ≡ indicator b
  others : (i : ℕ) → i < 64 → i ≢ j → bit_at new i ≡ bit_at old i

ChangesBit-set : (x j : ℕ) → j < 64 → ChangesBit x (bit_or x (1 * 2 ^ j % 2 ^ 64)) j true
ChangesBit-set x j h = record { same = bit_at_set_same w64 x j h; others = λ i _ ne. bit_at_set_other w64 x j h i ne }

ChangesBit-clear : (x j : ℕ) → j < 64 → ChangesBit x (bit_and x (bit_not w64 (1 * 2 ^ j % 2 ^ 64))) j false
ChangesBit-clear x j h =
    record { same = bit_at_clear_same w64 x j h; others = λ i l ne. bit_at_clear_other w64 x j h i l ne }

ChangesBit-flip : (x j : ℕ) → j < 64 → ChangesBit x (bit_xor x (1 * 2 ^ j % 2 ^ 64)) j (not (bit_at x j == 1))
ChangesBit-flip x j h = record {
  same = rw (one_shl j 64 h, bit_at_xor, bit_at-pow_same) (grind (arith, nat_tests, bit_at-lt x j));
  others = λ i _ ne. let l : bit_at x i < 2 = bit_at-lt x i in
      rw (one_shl j 64 h, bit_at_xor, bit_at-pow_other j i ne) (omega arith);
}

-- a position below the length stands in one of the words
pub place_within : (n bit : ℕ) (ws : List ℕ) → IsClean n ws → bit < n → bit / 64 < length ws
place_within n bit ws clean h = omega (arith, clean.count)

-- the words with word bit / 64 replaced by one that has b at bit mod 64
module _ (n bit : ℕ) (ws : List ℕ) (new : ℕ) (b : Bool) (inside : bit < n) (clean : IsClean n ws)
    (changes : ChangesBit (get_or ws (bit / 64) 0) new (bit % 64) b) where
  has_bit-set : (p : ℕ) → has_bit (set ws (bit / 64) new) p ≡ cond (p == bit) b (has_bit ws p)
  unfolding has_bit
  has_bit-set p = has_bit-written ws (bit / 64) new p (place_within n bit ws clean inside)
      ∙ grind (arith, nat_tests, changes.same, changes.others (p % 64))

  keeps_set : Keeps n (set ws (bit / 64) new) (set_bit (of_words n ws) bit b)
  keeps_set =
      keeps n _ (set_bit (of_words n ws) bit b) clean.fits (length-set ws (bit / 64) new ∙ clean.count)
      (length-set_bit (of_words n ws) bit b ∙ length-of_words n ws) (λ p.
      rw (has_bit-set p, contains_word n ws p clean)
      (sym (contains-set_bit (of_words n ws) bit b p (rw (length-of_words n ws) inside))))

-- no word stands for a value of length 0
pub keeps_nil : Keeps 0 [] (empty 0)
keeps_nil =
    keeps 0 [] (empty 0) (lit< tt) refl (length-empty 0)
    (λ p. has_bit-past [] p (omega arith) ∙ sym (contains-empty 0 p))

-- ---- one bit of words, of which x is the one that has it
module _ (n : ℕ) (ws : List ℕ) (bit : ℕ) (clean : IsClean n ws) (inside : bit < n) where
  abbrev x : ℕ
  x = get_or ws (bit / 64) 0

  pub insert_of : of_words n (set ws (bit / 64) (bit_or x (1 * 2 ^ (bit % 64) % 2 ^ 64))) ≡ insert (of_words n ws) bit
  unfolding set_bit
  insert_of = (keeps_set n bit ws _ true inside clean (ChangesBit-set x (bit % 64) (omega arith))).value

  pub insert_clean : IsClean n (set ws (bit / 64) (bit_or x (1 * 2 ^ (bit % 64) % 2 ^ 64)))
  insert_clean = (keeps_set n bit ws _ true inside clean (ChangesBit-set x (bit % 64) (omega arith))).clean

  pub remove_of : of_words n (set ws (bit / 64) (bit_and x (bit_not w64 (1 * 2 ^ (bit % 64) % 2 ^ 64))))
      ≡ remove (of_words n ws) bit
  unfolding set_bit
  remove_of = (keeps_set n bit ws _ false inside clean (ChangesBit-clear x (bit % 64) (omega arith))).value

  pub remove_clean : IsClean n (set ws (bit / 64) (bit_and x (bit_not w64 (1 * 2 ^ (bit % 64) % 2 ^ 64))))
  remove_clean = (keeps_set n bit ws _ false inside clean (ChangesBit-clear x (bit % 64) (omega arith))).clean

  pub toggle_of : of_words n (set ws (bit / 64) (bit_xor x (1 * 2 ^ (bit % 64) % 2 ^ 64))) ≡ toggle (of_words n ws) bit
  unfolding toggle has_bit
  toggle_of = (keeps_set n bit ws _ _ inside clean (ChangesBit-flip x (bit % 64) (omega arith))).value
      ∙ ap (λ b. set_bit (of_words n ws) bit (not b)) (contains_word n ws bit clean)

  pub toggle_clean : IsClean n (set ws (bit / 64) (bit_xor x (1 * 2 ^ (bit % 64) % 2 ^ 64)))
  toggle_clean = (keeps_set n bit ws _ _ inside clean (ChangesBit-flip x (bit % 64) (omega arith))).clean

  -- the test `word & (1 << k) != 0`
  pub read_bit : not (bit_and x (1 * 2 ^ (bit % 64) % 2 ^ 64) == 0) ≡ contains (of_words n ws) bit
  unfolding has_bit
  read_bit = test_of_and x (bit % 64) (omega arith) ∙ contains_word n ws bit clean

-- the first and the last position of words are below the length
pub first_within : (n : ℕ) (ws : List ℕ) (p : ℕ) → minimum (of_words n ws) ≡ Some p → p < n
first_within n ws p is =
    omega (arith, length-of_words n ws, contains_below (of_words n ws) p (minimum_least _ p is).0)

pub last_within : (n : ℕ) (ws : List ℕ) (p : ℕ) → maximum (of_words n ws) ≡ Some p → p < n
last_within n ws p is =
    omega (arith, length-of_words n ws, contains_below (of_words n ws) p (maximum_greatest _ p is).0)

-- a call takes out the position that it finds, or finds none: either way it leaves a value
pub popped : (old new : BitsMut) (found : Option ℕ) → IfSome found (λ p. Becomes old new (remove (held old) p))
    → IfNone found (Becomes old new (held old)) → (v : Bits) × Becomes old new v
popped old new None taken unchanged = (held old, unchanged)
popped old new (Some p) taken unchanged = (remove (held old) p, taken)

-- no position past the length is set
pub none_past : (v : Bits) (bit : ℕ) → v.length ≤ bit → false ≡ contains v bit
none_past v bit past = sym (contains-past v bit past)
