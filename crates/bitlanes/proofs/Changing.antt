-- the bits that a join changes, by lanes of four and a last part
use Rattle.std.proofs.Common.{min, ◌==◌, ◌&&◌, ◌||◌, not, Bool, ◌≡◌, ℕ, zero, suc, ◌+◌, ◌≤◌, true, false, List, ◌∷◌}
use Rattle.std.proofs.Common.{take, drop, length, replicate, bit_xor, refl, sym, ap, ◌∙◌, arith}
use Rattle.std.specs.List.{list_all}
use Rattle.std.specs.Simd.Lanes.{zip2, chunk, put_chunk}
use Rattle.std.proofs.lemmas.List.{take_all, take-replicate, length-replicate, replicate-append-replicate, drop-drop}
use Rattle.std.proofs.lemmas.Simd.{take_more_put_chunk, length-put_chunk}
use Rattle.bitlanes.specs.Changes.{changed_bits}
use Rattle.bitlanes.specs.Words.{zip_longest, filled}
use Rattle.bitlanes.proofs.Filling.{all_with_part}
use Rattle.bitlanes.proofs.Folding.{all_lane, drop_put}
use Rattle.bitlanes.proofs.Kept.{kept_none}
use Rattle.bitlanes.proofs.Zipping.{length_joined, chunk_zip2}

-- the old words against the new ones
pub against_joined : (f : ℕ → ℕ → ℕ) (xs ys : List ℕ) → zip2 bit_xor xs (zip2 f xs ys) ≡ zip2 (changed_bits f) xs ys
against_joined f (x ∷ xs) (y ∷ ys) = ap (λ zs. bit_xor x (f x y) ∷ zs) (against_joined f xs ys)
against_joined f xs ys = refl

-- the words from i on are as they were, where those before were joined
kept_chunk : (f : ℕ → ℕ → ℕ) (i n : ℕ) (xs ys : List ℕ)
    → chunk i n (zip_longest f true false xs (take i ys)) ≡ chunk i n xs
kept_chunk f zero n xs ys = ap (chunk 0 n) (kept_none f xs)
kept_chunk f (suc i) n (x ∷ xs) (y ∷ ys) = kept_chunk f i n xs ys
kept_chunk f i n xs ys = refl

-- so what is made of them is made of the first words
pub of_kept : (f g : ℕ → ℕ → ℕ) (i n : ℕ) (xs ys : List ℕ)
    → zip2 g (chunk i n (zip_longest f true false xs (take i ys))) (chunk i n ys) ≡ chunk i n (zip2 g xs ys)
of_kept f g i n xs ys = ap (λ zs. zip2 g zs (chunk i n ys)) (kept_chunk f i n xs ys) ∙ sym (chunk_zip2 g i n xs ys)

-- whether words change, where the i words before are joined: of one lane more, and of the last n words
module _ (f : ℕ → ℕ → ℕ) (old src : List ℕ) (i : ℕ) (mid lane : List ℕ)
    (kept : mid ≡ zip_longest f true false old (take i src)) where
  pub changed_lane : lane ≡ zip2 (changed_bits f) (chunk i 4 mid) (chunk i 4 src)
      → list_all (λ w. w == 0) (take (i + 4) (zip2 (changed_bits f) old src))
      ≡ (list_all (λ w. w == 0) (take i (zip2 (changed_bits f) old src)) && list_all (λ w. w == 0) lane)
  changed_lane is =
      rw (is, kept, of_kept f (changed_bits f) i 4 old src) (all_lane (λ w. w == 0) i (zip2 (changed_bits f) old src))

  pub changed_part : (n : ℕ) → i + n ≡ min (length old) (length src) → lane ≡ filled i n (zip2 (changed_bits f) mid src)
      → (list_all (λ w. w == 0) (take i (zip2 (changed_bits f) old src)) && list_all (λ w. w == 0) lane)
      ≡ list_all (λ w. w == 0) (zip2 (changed_bits f) old src)
  changed_part n e is =
      let whole = all_with_part i n (zip2 (changed_bits f) old src)
      (e ∙ sym (length_joined (changed_bits f) old src)) in
      rw (is, kept, chunk_zip2 (changed_bits f) i n _ src, of_kept f (changed_bits f) i n old src) whole

-- a bit changed in one of two parts
pub either_changed : (a b x y z : Bool) → a ≡ x → b ≡ y → (x && y) ≡ z → (not a || not b) ≡ not z
either_changed true true x y z p q r = rw (← p, ← q) at (ap not r)
either_changed true false x y z p q r = rw (← p, ← q) at (ap not r)
either_changed false b x y z p q r = rw (← p) at (ap not r)

-- ---- a row made 0

-- the words from a lane on are as they were, where that lane was written
pub rest_written : (i : ℕ) (old xs ys : List ℕ) → length ys ≡ 4 → drop i xs ≡ drop i old
    → drop (i + 4) (put_chunk i xs ys) ≡ drop (i + 4) old
rest_written i old xs ys four same =
    rw (drop_put (i + 4) i xs ys (omega (arith, four)), ← drop-drop 4 i xs, ← drop-drop 4 i old, same) refl

-- the whole lanes are 0, and the last words are written
pub zeros_written : (i n m : ℕ) (xs : List ℕ) → m ≡ i + n → length xs ≡ m → n ≤ 4 → take i xs ≡ replicate i 0
    → put_chunk i xs (take n (replicate 4 0)) ≡ replicate m 0
zeros_written i n m xs e long few front =
    let zeros : List ℕ = replicate n 0 in
    let all = take_all (i + n) (put_chunk i xs zeros) (omega (arith, length-put_chunk i xs zeros)) in
    let parts = take_more_put_chunk i xs zeros (i + n) (omega (arith, length-replicate {A = ℕ} n 0)) (omega arith) in
    rw (take-replicate {X = ℕ} n 4 0 few, e, ← replicate-append-replicate {A = ℕ} i n 0, ← front) (sym all ∙ parts)

-- where no word is left, the whole lanes are all
pub zeros_in_lanes : (i m : ℕ) (xs : List ℕ) → m ≡ i → length xs ≡ m → take i xs ≡ replicate i 0 → xs ≡ replicate m 0
zeros_in_lanes i m xs e long front = rw e (sym (take_all i xs (omega arith)) ∙ front)
