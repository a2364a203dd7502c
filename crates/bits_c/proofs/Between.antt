-- How many words a walk has between its first and its last one.
use Rattle.std.proofs.Common.{◌≡◌, ℕ, ◌-◌, ◌/◌, ◌≤◌, min, List, length, take, drop, length-drop, map, ap, ◌∙◌, arith}
use Rattle.std.specs.Int.{bit_not, w64, div_ceil}
use Rattle.std.proofs.lemmas.List.{length-take, length-map}
use Rattle.bitwords.specs.Walk.{between_ends, range_cut}
use Rattle.fixedbitset.specs.Bits.{Bits, of_words, words, words_needed}
use Rattle.fixedbitset.specs.TwoSets.{bitand, difference}
use Rattle.fixedbitset.specs.TwoSetsFacts.{length-bitand, length-difference}
use Rattle.fixedbitset.specs.WordsFacts.{length-of_words, length-words}
use Rattle.bits_c.specs.Walks.{words_between, range_words_between}

module _ (row middle : List ℕ) (n : ℕ) (count : length row ≡ words_needed n) where
  row_between : middle ≡ between_ends row → length middle ≡ words_between n
  row_between is =
      omega (arith, count, ap length is, length-drop 1 (take (length row - 1) row), length-take (length row - 1) row)

  range_between : (start end : ℕ) → end ≤ n → middle ≡ between_ends (range_cut start end row)
      → length middle ≡ range_words_between start end
  range_between start end within is =
      let few : ℕ = div_ceil end 64 - start / 64 in
      let cut : List ℕ = range_cut start end row in
      let long : length cut ≡ few =
      omega (arith, count, within, length-take few (drop (start / 64) row), length-drop (start / 64) row) in
      omega (arith, long, ap length is, length-drop 1 (take (length cut - 1) cut), length-take (length cut - 1) cut)

module _ (n : ℕ) (ws middle : List ℕ) where
  count : length (words (of_words n ws)) ≡ words_needed n
  count = length-words (of_words n ws) ∙ ap words_needed (length-of_words n ws)

  inverted_count : length (map (bit_not w64) (words (of_words n ws))) ≡ words_needed n
  inverted_count = length-map (words (of_words n ws)) (bit_not w64) ∙ count

  -- of the words of a set
  pub words_left : middle ≡ between_ends (words (of_words n ws)) → length middle ≡ words_between n
  words_left = row_between (words (of_words n ws)) middle n count

  pub inverted_left : middle ≡ between_ends (map (bit_not w64) (words (of_words n ws)))
      → length middle ≡ words_between n
  inverted_left = row_between (map (bit_not w64) (words (of_words n ws))) middle n inverted_count

  -- of those that hold a range
  pub range_left : (start end : ℕ) → end ≤ n → middle ≡ between_ends (range_cut start end (words (of_words n ws)))
      → length middle ≡ range_words_between start end
  range_left = range_between (words (of_words n ws)) middle n count

  pub inverted_range_left : (start end : ℕ) → end ≤ n
      → middle ≡ between_ends (range_cut start end (map (bit_not w64) (words (of_words n ws))))
      → length middle ≡ range_words_between start end
  inverted_range_left = range_between (map (bit_not w64) (words (of_words n ws))) middle n inverted_count

  -- of those joined with another set's
  pub difference_left : (w : Bits) → middle ≡ between_ends (words (difference (of_words n ws) w))
      → length middle ≡ words_between n
  difference_left w =
      row_between (words (difference (of_words n ws) w)) middle n (length-words (difference (of_words n ws) w)
      ∙ ap words_needed (length-difference (of_words n ws) w ∙ length-of_words n ws))

  pub shared_left : (m : ℕ) (others : List ℕ)
      → middle ≡ between_ends (words (bitand (of_words n ws) (of_words m others)))
      → length middle ≡ words_between (min n m)
  shared_left m others =
      let v : Bits = bitand (of_words n ws) (of_words m others) in
      row_between (words v) middle (min n m) (length-words v
      ∙ ap words_needed (length-bitand (of_words n ws) (of_words m others)
      ∙ (λ i. min (length-of_words n ws i) (length-of_words m others i))))
