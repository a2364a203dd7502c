-- The ranks of words that are lent.
use Rattle.std.proofs.Common.{◌≡◌, ℕ, ◌+◌, ◌-◌, ◌*◌, ◌^◌, ◌<◌, ◌≤◌, Bool, true, false}
use Rattle.std.proofs.Common.{◌&&◌, List, [], length, refl, sym, ap, ◌∙◌, arith, ⊎_elim}
use Rattle.std.specs.Prelude.{slice_get}
use Rattle.std.proofs.lemmas.Bool.{cases_lt, lt-ltb, and_left}
use Rattle.bitwords.specs.Ascending.{ascending}
use Rattle.bitwords.specs.AscendingFacts.{ascending-cut}
use Rattle.bitwords.specs.CountFacts.{count-same}
use Rattle.bitwords.specs.RowFacts.{has_bit-past}
use Rattle.bitwords.specs.Rows.{has_bit, count_below}
use Rattle.fixedbitset.specs.Bits.{contains, asc, empty, of_words}
use Rattle.fixedbitset.specs.BitsFacts.{same_bits, contains-past, contains-empty, length-empty}
use Rattle.fixedbitset.specs.Stored.{IsClean}
use Rattle.fixedbitset.specs.WordsFacts.{length-of_words, contains-of_words}
use Rattle.bitranks.specs.Ranks.{IsDirectory, rank, select}
use Rattle.bitranks.specs.RanksFacts.{rank-count}

and_right_true : (a b : Bool) → b ≡ true → (a && b) ≡ a
and_right_true a b h = grind arith

module _ (n : ℕ) (ws : List ℕ) (clean : IsClean n ws) where
  -- the positions of the words are those of the value
  same_bit : (p : ℕ) → has_bit ws p ≡ contains (of_words n ws) p
  same_bit p =
      ⊎_elim
      (λ (lt : p < n). sym (contains-of_words n ws p ∙ and_right_true (has_bit ws p) _ (lt-ltb p n lt)))
      (λ (ge : n ≤ p). clean.tail p ge ∙ sym (contains-past (of_words n ws) p (rw (length-of_words n ws) ge)))
      (cases_lt p n)

  pub all_fit : 64 * length ws ≤ 2 ^ 64
  all_fit = let fits = clean.fits in omega (arith, clean.count)

  pub lent_rank : (p : ℕ) → count_below (has_bit ws) p ≡ rank (of_words n ws) p
  lent_rank p =
      count-same (has_bit ws) (contains (of_words n ws)) p (λ q _. same_bit q) ∙ sym (rank-count (of_words n ws) p)

  pub lent_select : (k : ℕ) → slice_get (ascending (has_bit ws) 0 (64 * length ws)) k ≡ select (of_words n ws) k
  unfolding select asc
  lent_select k =
      let room : 64 * length ws ≡ n + (64 * length ws - n) = omega (arith, clean.count) in
      ap (λ xs. slice_get xs k)
      (ap (ascending (has_bit ws) 0) room
      ∙ ascending-cut (has_bit ws) (contains (of_words n ws)) 0 n (64 * length ws - n) (λ p _ _. same_bit p)
      (λ p past _. clean.tail p (omega (arith, past)))
      ∙ ap (ascending (contains (of_words n ws)) 0) (sym (length-of_words n ws)))

-- ---- no words

no_bit : (p : ℕ) → has_bit [] p ≡ false
no_bit p = has_bit-past [] p (omega arith)

pub nothing_clean : IsClean 0 []
nothing_clean = record { fits = omega arith; count = refl; tail = λ p _. no_bit p }

pub nothing_kept : IsDirectory [] []
nothing_kept = record { long = refl; counts = λ k below. absurd (omega (arith, below)) }

pub nothing_ranked : of_words 0 [] ≡ empty 0
nothing_ranked =
    same_bits _ _ (length-of_words 0 [] ∙ sym (length-empty 0)) (λ p.
    contains-of_words 0 [] p ∙ and_left (has_bit [] p) _ (no_bit p) ∙ sym (contains-empty 0 p))
