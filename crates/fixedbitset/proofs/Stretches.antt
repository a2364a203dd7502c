-- The stretches of a value, as those of its words.
use Rattle.std.proofs.Common.{◌≡◌, ℕ, true, false, List, sym, ap, ◌∙◌, arith}
use Rattle.std.proofs.lemmas.Bool.Decides.{nat_tests}
use Rattle.bitwords.specs.Runs.{stretches, is_like}
use Rattle.bitwords.specs.RunsFacts.{stretches-same}
use Rattle.fixedbitset.specs.Bits.{Bits, contains, complement, words}
use Rattle.fixedbitset.specs.BitsFacts.{length-complement, contains-complement}
use Rattle.fixedbitset.specs.Runs.{runs, zero_runs}
use Rattle.fixedbitset.specs.WordsFacts.{has_bit-words}

module _ (v : Bits) (ws : List ℕ) (is : ws ≡ words v) (n : ℕ) (long : n ≡ v.length) where
  pub runs_of : stretches (is_like true ws) n 0 n ≡ runs v
  unfolding runs
  runs_of =
      rw (
        is,
        long,
      ) (stretches-same (is_like true (words v)) (contains v) v.length 0 v.length (omega arith)
      (λ i _. has_bit-words v i))

  pub zero_runs_of : stretches (is_like false ws) n 0 n ≡ zero_runs v
  unfolding runs zero_runs
  zero_runs_of =
      rw is (stretches-same (is_like false (words v)) (contains (complement v)) n 0 n (omega arith)
      (λ i below. grind (arith, nat_tests, long, has_bit-words v i, contains-complement v i))
      ∙ ap (λ m. stretches (contains (complement v)) m 0 m) (long ∙ sym (length-complement v)))
