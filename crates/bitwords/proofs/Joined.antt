-- Words joined with the positions of a range, part by part.
use Rattle.std.proofs.Common.{◌≡◌, ◌≢◌, ℕ, ◌+◌, ◌*◌, ◌/◌, ◌%◌, ◌^◌, ◌<◌, ◌≤◌, Bool, true, false}
use Rattle.std.proofs.Common.{◌&&◌, nat_lt, List, length, get_or, set, refl, sym, ap, ◌∙◌, arith}
use Rattle.std.proofs.Common.{◌⊎◌, inl, inr, ⊎_elim, get_or-set_same, get_or-set_other, length-set}
use Rattle.std.proofs.lemmas.Bool.{cases_eq, lt-ltb}
use Rattle.std.proofs.lemmas.Bool.Decides.{nat_tests}
use Rattle.bitlanes.specs.Bits.{bit}
use Rattle.bitlanes.specs.Ops.{IsWordOp}
use Rattle.bitwords.specs.Rows.{has_bit, in_range, IsJoined}
use Rattle.bitwords.specs.RowFacts.{AreWords, bit-zero}

-- ---- a row joined, word by word, with the positions that pass a test

-- word k takes in a word that has the bits of the test
pub record TakesWord (f : ℕ → ℕ → ℕ) (old : List ℕ) (test : ℕ → Bool) (new : List ℕ) (k : ℕ) : Type 0 where
  pub word : ℕ
  pub fits : word < 2 ^ 64
  pub joined : get_or new k 0 ≡ f (get_or old k 0) word
  pub bits : (i : ℕ) → i < 64 → bit word i ≡ test (64 * k + i)

-- a word stays, or is 0 where positions that do not pass are not kept
abbrev pub Rests : (keep : Bool) (old new : List ℕ) (k : ℕ) → Type 0
Rests keep old new k = ((keep ≡ true) × (get_or new k 0 ≡ get_or old k 0)) ⊎ ((keep ≡ false) × (get_or new k 0 ≡ 0))

-- no position of word k passes, and the word rests
pub record LeavesWord (keep : Bool) (old : List ℕ) (test : ℕ → Bool) (new : List ℕ) (k : ℕ) : Type 0 where
  pub none : (i : ℕ) → i < 64 → test (64 * k + i) ≡ false
  pub left : Rests keep old new k

pub IsJoined_words : {f : ℕ → ℕ → ℕ} {t : Bool → Bool → Bool} {keep take : Bool} → IsWordOp f t keep take
    → (old : List ℕ) → AreWords old → (test : ℕ → Bool) (new : List ℕ) → length new ≡ length old
    → ((k : ℕ) → k < length old → TakesWord f old test new k ⊎ LeavesWord keep old test new k) → IsJoined t old test new
unfolding has_bit
IsJoined_words {f} {t} {keep} law old words test new long each = record {
  long = long;
  bits = λ p within.
      ⊎_elim
      (λ (takes : TakesWord f old test new (p / 64)).
      grind (
        arith,
        takes.joined,
        takes.bits (p % 64) (omega arith),
        law.by_bits (get_or old (p / 64) 0) takes.word (p % 64) (words (p / 64)) takes.fits,
      ))
      (λ (leaves : LeavesWord keep old test new (p / 64)).
      grind (arith, leaves.left, leaves.none (p % 64) (omega arith), law.of_first (has_bit old p), bit-zero (p % 64)))
      (each (p / 64) (omega arith));
}

-- an operation under which what lies outside the range stays
module _ {f : ℕ → ℕ → ℕ} {t : Bool → Bool → Bool} {keep take : Bool} (law : IsWordOp f t keep take)
    (keeps : keep ≡ true) (old : List ℕ) where
  stays : (x r : Bool) → r ≡ false → t x r ≡ x
  stays x r out = ap (t x) out ∙ law.of_first x ∙ ap (λ b. b && x) keeps

  -- where no position passes nothing changes
  pub IsJoined-none : (test : ℕ → Bool) → ((p : ℕ) → p < 64 * length old → test p ≡ false) → IsJoined t old test old
  IsJoined-none test none = record { long = refl; bits = λ p h. sym (stays (has_bit old p) _ (none p h)) }

  -- joined with one test and then with another: at each position one of the two fails, and the other says what u says
  IsJoined-then : (mid new : List ℕ) (r s u : ℕ → Bool)
      → ((n : ℕ) → ((r n ≡ false) × (s n ≡ u n)) ⊎ ((s n ≡ false) × (r n ≡ u n))) → IsJoined t old r mid
      → IsJoined t mid s new → IsJoined t old u new
  IsJoined-then mid new r s u apart first second = record {
    long = second.long ∙ first.long;
    bits = λ n h. grind (arith, stays, first, second, apart n);
  }

  -- two ranges, one behind the other, the one before first
  pub IsJoined-append : (mid new : List ℕ) (start middle end : ℕ) → start ≤ middle → middle ≤ end
      → IsJoined t old (in_range start middle) mid → IsJoined t mid (in_range middle end) new
      → IsJoined t old (in_range start end) new
  IsJoined-append mid new start middle end p q = IsJoined-then mid new _ _ _ (λ n. grind (arith, nat_tests))

  -- the same, the one behind first
  pub IsJoined-append_back : (mid new : List ℕ) (start middle end : ℕ) → start ≤ middle → middle ≤ end
      → IsJoined t old (in_range middle end) mid → IsJoined t mid (in_range start middle) new
      → IsJoined t old (in_range start end) new
  IsJoined-append_back mid new start middle end p q = IsJoined-then mid new _ _ _ (λ n. grind (arith, nat_tests))

  -- a range within word k, which is joined with the mask of the range
  pub IsJoined-word : AreWords old → (k mask start end : ℕ) → k < length old → mask < 2 ^ 64 → 64 * k ≤ start
      → end ≤ 64 * (k + 1) → ((i : ℕ) → bit mask i ≡ (nat_lt i 64 && in_range start end (64 * k + i)))
      → IsJoined t old (in_range start end) (set old k (f (get_or old k 0) mask))
  IsJoined-word words k mask start end inside fits from to masked =
      IsJoined_words law old words _ _ (length-set old k _) (λ j within. ⊎_elim
      (λ (here : j ≡ k).
      rw here
      (inl (record {
        word = mask;
        fits = fits;
        joined = get_or-set_same old k _ 0 inside;
        bits = λ i h. masked i ∙ ap (λ b. b && in_range start end (64 * k + i)) (lt-ltb i 64 h);
      })))
      (λ (other : j ≢ k).
      inr (record { none = λ i h. grind (arith, nat_tests); left = inl (keeps, get_or-set_other old k j _ 0 other) }))
      (cases_eq j k))

-- tests that agree join alike
pub IsJoined-same : {t : Bool → Bool → Bool} (old new : List ℕ) (c d : ℕ → Bool) → ((p : ℕ) → c p ≡ d p)
    → IsJoined t old c new → IsJoined t old d new
IsJoined-same {t} old new c d same done =
    record { long = done.long; bits = λ p h. done.bits p h ∙ ap (t (has_bit old p)) (same p) }
