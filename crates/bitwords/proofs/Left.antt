-- What a call of a cursor does to the positions left.
use Rattle.std.proofs.Math.Seq.{take-append_seam}
use Rattle.std.proofs.Common.{take, drop, ◌≡◌, ℕ, suc, ◌+◌, ◌-◌, ◌*◌, ◌^◌, ◌<◌, ◌≤◌, List, []}
use Rattle.std.proofs.Common.{◌∷◌, ◌++◌, length, Option, Some, None, sym, ap, ◌∙◌, arith, SomeIff}
use Rattle.std.proofs.Common.{IfSome, unwrap_or, length-append, length-drop, length-take-le}
use Rattle.std.specs.Iterator.{YieldsFirst, YieldsLast, UpTo, at_most}
use Rattle.bitlanes.specs.Word.{IsLowestBit, IsHighestBit, ClearsBit}
use Rattle.bitwords.specs.Rows.{has_bit}
use Rattle.bitwords.specs.Walk.{between_ends}
use Rattle.bitwords.specs.WalkedWords.{ones_from}
use Rattle.bitwords.proofs.OnesFrom.{has_bit-drop_last, ones_from-skip, ones_from-drop_last}
use Rattle.bitwords.proofs.OnesFrom.{ones_from-first, ones_from-last, length-ones_from}

-- those of the words f and b at the ends, f at `start`, and of the words ms between
abbrev pub left : ℕ → ℕ → List ℕ → ℕ → List ℕ
left start f ms b = ones_from start (f ∷ (ms ++ b ∷ []))

module _ (start f b : ℕ) (ms items : List ℕ) (same : left start f ms b ≡ items) where
  -- the front word is empty, and the next one is taken
  pub left_next : (w : ℕ) (rest : List ℕ) → f ≡ 0 → ms ≡ w ∷ rest → left (start + 64) w rest b ≡ items
  left_next w rest none is = sym (ones_from-skip start (w ∷ (rest ++ b ∷ []))) ∙ (rw (none, is) at same)

  -- the back word is empty, and the one before it is taken
  pub left_before : (w : ℕ) (rest : List ℕ) → b ≡ 0 → ms ≡ rest ++ w ∷ [] → left start f rest w ≡ items
  left_before w rest none is = sym (ones_from-drop_last start (f ∷ (rest ++ w ∷ []))) ∙ (rw (none, is) at same)

  -- the lowest bit of the front word comes
  pub left_lowest : (new k : ℕ) → IsLowestBit f k → ClearsBit f new k → items ≡ (start + k) ∷ left start new ms b
  left_lowest new k is clears = sym same ∙ ones_from-first start f new k (ms ++ b ∷ []) is clears

  -- the highest bit of the back word comes
  pub left_highest : (end new k : ℕ) → end ≡ start + 64 * (length ms + 1) → IsHighestBit b k → ClearsBit b new k
      → items ≡ left start f ms new ++ (end + k) ∷ []
  left_highest end new k ends is clears =
      sym same ∙ ones_from-last start end b new k (f ∷ ms) (ends ∙ omega arith) is clears

  -- no other word is left, and the back word comes to the front and gives its lowest bit
  pub left_lowest_of_back : (end new k : ℕ) → f ≡ 0 → ms ≡ [] → end ≡ start + 64 → IsLowestBit b k → ClearsBit b new k
      → items ≡ (end + k) ∷ left end new ms 0
  left_lowest_of_back end new k none empty ends is clears =
      sym same ∙ rw (none, empty, ends, ones_from-skip, ones_from-drop_last (start + 64) (new ∷ []))
      (ones_from-first (start + 64) b new k [] is clears)

  -- no other word is left, and the highest bit of the front word comes
  pub left_highest_of_front : (new k : ℕ) → b ≡ 0 → ms ≡ [] → IsHighestBit f k → ClearsBit f new k
      → items ≡ left start new ms b ++ (start + k) ∷ []
  left_highest_of_front new k none empty is clears =
      let one = ones_from-last start start f new k [] (omega arith) is clears in
      sym same ∙ rw (none, empty, ones_from-drop_last start (f ∷ []), ones_from-drop_last start (new ∷ [])) one

  -- nothing is left
  pub left_nothing : f ≡ 0 → ms ≡ [] → b ≡ 0 → items ≡ []
  unfolding ones_from
  left_nothing none empty none_back =
      sym same ∙ rw (none, empty, none_back) (ones_from-skip start (0 ∷ []) ∙ ones_from-skip (start + 64) [])

-- where no word was taken, the words between are as they were
pub left_kept : (start f b : ℕ) (ms others items : List ℕ) → ms ≡ [] → others ≡ [] → left start f ms b ≡ items
    → left start f others b ≡ items
left_kept start f b ms others items none empty same = ap (λ xs. left start f xs b) (empty ∙ sym none) ∙ same

-- at most 64 positions a word
pub length-left : (start f : ℕ) (ms : List ℕ) (b : ℕ) → length (left start f ms b) ≤ 64 * (length ms + 2)
length-left start f ms b = omega (arith, length-ones_from start (f ∷ (ms ++ b ∷ [])), length-append ms (b ∷ []))

-- a product that fits is an upper hint
pub hint : (r : Option ℕ) (n most : ℕ) → SomeIff r (n < 2 ^ 64) n → most ≤ n → IfSome r (UpTo (at_most most))
hint None n most is below = tt
hint (Some x) n most is below = (tt, omega (arith, is.1, below))

-- ---- a row cut into its first word, its last, and those between

between-both : (first last : ℕ) (middle : List ℕ) → between_ends (first ∷ (middle ++ last ∷ [])) ≡ middle
between-both first last middle =
    let count : suc (length (middle ++ last ∷ [])) - 1 ≡ suc (length middle) =
    omega (arith, length-append middle (last ∷ [])) in
    ap (λ n. drop 1 (take n (first ∷ (middle ++ last ∷ [])))) count ∙ take-append_seam middle (last ∷ [])

pub length-between : (ws : List ℕ) → length (between_ends ws) ≡ length ws - 2
length-between ws =
    length-drop 1 (take (length ws - 1) ws) ∙ omega (arith, length-take-le (length ws - 1) ws (omega arith))

pub length-row : (ws ms : List ℕ) (first last : ℕ) → ms ≡ between_ends ws
    → length ws ≤ length (first ∷ (ms ++ last ∷ []))
length-row ws ms first last is = omega (arith, ap length is, length-between ws, length-append ms (last ∷ []))

module _ {S : Type 0} (words : S → List ℕ) (whole rest middle : S) where
  pub ends_bits : (first last : Option ℕ) → YieldsFirst words whole first rest → YieldsLast words rest last middle
      → (p : ℕ) → has_bit (unwrap_or first 0 ∷ (words middle ++ unwrap_or last 0 ∷ [])) p ≡ has_bit (words whole) p
  ends_bits (Some f) (Some b) one two p = ap (λ ws. has_bit ws p) (sym (one ∙ ap (λ ws. f ∷ ws) two))
  ends_bits (Some f) None one two p =
      ap (λ ws. has_bit (f ∷ (ws ++ 0 ∷ [])) p) two.1 ∙ has_bit-drop_last (f ∷ []) p
      ∙ sym (ap (λ ws. has_bit ws p) (one ∙ ap (λ ws. f ∷ ws) two.0))
  ends_bits None (Some b) one two p =
      absurd (omega (arith, ap length (sym two ∙ one.1), length-append (words middle) (b ∷ [])))
  ends_bits None None one two p =
      ap (λ ws. has_bit (0 ∷ (ws ++ 0 ∷ [])) p) two.1 ∙ has_bit-drop_last (0 ∷ []) p ∙ has_bit-drop_last [] p
      ∙ sym (ap (λ ws. has_bit ws p) one.0)

  pub ends_middle : (first last : Option ℕ) → YieldsFirst words whole first rest → YieldsLast words rest last middle
      → words middle ≡ between_ends (words whole)
  ends_middle (Some f) (Some b) one two =
      sym (ap between_ends (one ∙ ap (λ ws. f ∷ ws) two) ∙ between-both f b (words middle))
  ends_middle (Some f) None one two = two.1 ∙ sym (ap between_ends (one ∙ ap (λ ws. f ∷ ws) two.0))
  ends_middle None (Some b) one two =
      absurd (omega (arith, ap length (sym two ∙ one.1), length-append (words middle) (b ∷ [])))
  ends_middle None None one two = two.1 ∙ sym (ap between_ends one.0)
