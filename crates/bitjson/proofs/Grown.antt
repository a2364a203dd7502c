-- Lists that a loop makes one item longer, or writes item by item.
use Rattle.std.proofs.Common.{◌≡◌, ℕ, ◌+◌, ◌*◌, ◌<◌, ◌≤◌, List, [], ◌∷◌, ◌++◌, map, length, get_or, drop, arith}
use Rattle.std.specs.List.{range_with_len}
use Rattle.std.proofs.lemmas.Grind.{elements, common_steps}
use Rattle.std.proofs.lemmas.List.{get_or_past}
use Rattle.std.proofs.lemmas.Simd.{map-map}
use Rattle.bitjson.specs.Bytes.{word_of}
use Rattle.std.proofs.lemmas.List.FromFn.{map-range_with_len_more, get_or-map-range_with_len, length-map-range_with_len}

-- one more value of f
pub one_more : {X : Type 0} (f : ℕ → X) (k : ℕ)
    → map f (range_with_len 0 (k + 1)) ≡ map f (range_with_len 0 k) ++ f k ∷ []
one_more f k = map-range_with_len_more f 0 k k (omega arith)

-- a list that takes one more value, and is then mapped
pub ruleset grown = (common_steps, one_more, map-map)

-- the list of all values
pub written_all : (f : ℕ → ℕ) (xs : List ℕ) (n : ℕ) → length xs ≡ n
    → ((k : ℕ) → k < n → get_or xs k 0 ≡ f k) → xs ≡ map f (range_with_len 0 n)
written_all f xs n long each = grind (arith, elements, length-map-range_with_len f, get_or-map-range_with_len f)

-- a word past all bytes
pub no_word : (bs : List ℕ) (k : ℕ) → length bs ≤ 8 * k → word_of bs k ≡ 0
unfolding word_of
no_word bs k h =
    let none : (i : ℕ) → get_or bs (8 * k + i) 0 ≡ 0 = λ i. get_or_past bs (8 * k + i) 0 (omega arith) in
    cc (none 0, none 1, none 2, none 3, none 4, none 5, none 6, none 7)

-- one of the words of bytes that stand before zeros
each_before_zeros : (bs : List ℕ) (used : ℕ) (old : List ℕ) → used ≤ length old → ((k : ℕ) → get_or old k 0 ≡ 0)
    → (k : ℕ) → (used ≤ k → length bs ≤ 8 * k)
    → get_or (map (word_of bs) (range_with_len 0 used) ++ drop used old) k 0 ≡ word_of bs k
each_before_zeros bs used old h zeros k past = grind (
  arith,
  elements,
  length-map-range_with_len (word_of bs),
  get_or-map-range_with_len (word_of bs),
  no_word bs k,
  past,
  zeros,
)

-- the words of bytes, before zeros for those past all bytes
pub before_zeros : (bs : List ℕ) (used : ℕ) (old : List ℕ) → used ≤ length old → ((k : ℕ) → get_or old k 0 ≡ 0)
    → ((k : ℕ) → used ≤ k → k < length old → length bs ≤ 8 * k)
    → map (word_of bs) (range_with_len 0 used) ++ drop used old ≡ map (word_of bs) (range_with_len 0 (length old))
before_zeros bs used old h zeros past =
    written_all (word_of bs) _ (length old) (grind (arith, elements, length-map-range_with_len (word_of bs)))
    (λ k less. each_before_zeros bs used old h zeros k (λ beyond. past k beyond less))
