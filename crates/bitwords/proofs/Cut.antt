-- The words of a row that hold the positions of a range, and a row of words whose ends are cut at a position.
use Rattle.std.proofs.Common.{◌≡◌, ℕ, ◌+◌, ◌-◌, ◌*◌, ◌/◌, ◌<◌, ◌≤◌, List, ap, ◌∙◌, arith, get_or-drop}
use Rattle.std.proofs.Common.{get_or-take, ◌&&◌, bit_and, [], ◌∷◌, ◌++◌, length, refl, sym, ⊎_elim, length-append}
use Rattle.bitwords.specs.Ascending.{ascending}
use Rattle.bitwords.specs.AscendingFacts.{ascending-same, ascending-skip, ascending-cut}
use Rattle.bitwords.specs.Rows.{has_bit, in_range}
use Rattle.bitwords.specs.Walk.{Walk, between_ends, range_cut, range_row, within_row}
use Rattle.std.proofs.lemmas.Bool.{cases_lt}
use Rattle.std.proofs.lemmas.Bool.Decides.{nat_tests}
use Rattle.bitlanes.specs.Bits.{bit}
use Rattle.bitlanes.specs.BitLaws.{bit-and}
use Rattle.bitwords.specs.WalkedWords.{ones_from}
use Rattle.bitwords.proofs.OnesFrom.{has_bit-first, has_bit-later, has_bit-before, has_bit-last}
use Rattle.bitwords.proofs.Left.{length-row, length-between}

module _ (ws : List ℕ) (start end : ℕ) where
  -- a position of the range, in them
  has_bit-range_cut : (p : ℕ) → start ≤ p → p < end
      → has_bit (range_cut start end ws) (p - 64 * (start / 64)) ≡ has_bit ws p
  unfolding has_bit
  has_bit-range_cut p from to = grind (arith, get_or-take, get_or-drop)

  -- the positions of the range, in them
  pub ascending-range_cut : (at : ℕ) → at ≡ 64 * (start / 64)
      → ascending (λ p. has_bit (range_cut start end ws) (p - at)) (at + (start - at)) (end - at - (start - at))
      ≡ ascending (has_bit ws) start (end - start)
  ascending-range_cut at is =
      let from : at + (start - at) ≡ start = omega (arith, is) in
      let count : end - at - (start - at) ≡ end - start = omega (arith, is) in
      (λ i. ascending (λ p. has_bit (range_cut start end ws) (p - is i)) (from i) (count i))
      ∙ ascending-same _ (has_bit ws) start (end - start)
      (λ p above below. has_bit-range_cut p above (omega (arith, above, below)))

-- the walk over them is that over the range
pub within-range : (ws cut : List ℕ) (start end at : ℕ) → cut ≡ range_cut start end ws → at ≡ 64 * (start / 64)
    → (walk : Walk) → walk ≡ within_row cut at (start - at) (end - at) → walk ≡ range_row ws start end
within-range ws cut start end at is_cut is_at walk made =
    let items : walk.items ≡ ascending (has_bit ws) start (end - start) =
    ap (λ w. w.items) made
    ∙ ap (λ xs. ascending (λ p. has_bit xs (p - at)) (at + (start - at)) (end - at - (start - at))) is_cut
    ∙ ascending-range_cut ws start end at is_at in
    let words : walk.words ≡ between_ends (range_cut start end ws) = ap (λ w. w.words) made ∙ ap between_ends is_cut in
    λ i. record { items = items i; words = words i; turns = (made i).turns; taken = (made i).taken }

module _ (ws ms : List ℕ) (f b at low end : ℕ) (middle : ms ≡ between_ends ws)
    (bits : (p : ℕ) → has_bit (f ∷ (ms ++ b ∷ [])) p ≡ has_bit ws p) (first : low ≤ 64) (order : low ≤ end)
    (long : end ≤ 64 * length ws) (last : 64 * length ws < end + 64)
    (first_mask last_mask : ℕ) (is_first : (i : ℕ) → i < 64 → bit first_mask i ≡ in_range low end i)
    (is_last : (i : ℕ) → bit last_mask i ≡ in_range low end (64 * (length ms + 1) + i)) where
  abbrev cut : List ℕ
  cut = bit_and f first_mask ∷ (ms ++ bit_and b last_mask ∷ [])

  has_bit-cut : (p : ℕ) → p < 64 * (length ms + 2) → has_bit cut p ≡ (has_bit ws p && in_range low end p)
  has_bit-cut p within =
      ⊎_elim
      (λ (lt : p < 64).
      has_bit-first _ _ p lt ∙ bit-and f first_mask p
      ∙ (let a = is_first p lt in let e = sym (has_bit-first f (ms ++ b ∷ []) p lt) ∙ bits p in λ i. e i && a i))
      (λ (ge : 64 ≤ p).
      let q : ℕ = p - 64 in
      let is : p ≡ q + 64 = omega arith in
      let whole : has_bit (ms ++ b ∷ []) q ≡ has_bit ws p = sym (has_bit-later f (ms ++ b ∷ []) p q is) ∙ bits p in
      has_bit-later _ _ p q is ∙ ⊎_elim
      (λ (before : q < 64 * length ms).
      has_bit-before ms _ q before ∙ sym (has_bit-before ms b q before) ∙ whole
      ∙ grind (arith, nat_tests, length-between ws, ap length middle))
      (λ (behind : 64 * length ms ≤ q).
      let j : ℕ = q - 64 * length ms in
      let last_bit = has_bit-last ms b q j (omega arith) (omega arith) in
      has_bit-last ms _ q j (omega arith) (omega arith) ∙ bit-and b last_mask j
      ∙ grind (arith, whole, last_bit, is_last j))
      (cases_lt q (64 * length ms)))
      (cases_lt p 64)

  -- its positions are those of the range
  pub ones_from-cut : ones_from at cut ≡ ascending (λ p. has_bit ws (p - at)) (at + low) (end - low)
  unfolding ones_from
  ones_from-cut =
      let row : length cut ≡ length ms + 2 = omega (arith, length-append ms (bit_and b last_mask ∷ [])) in
      let rest : ℕ = 64 * length cut - end in
      let size : 64 * length cut ≡ low + ((end - low) + rest) =
      omega (arith, order, long, length-row ws ms f b middle, length-append ms (b ∷ []), row) in
      let same : (i : ℕ) → at ≤ i → i < at + 64 * length cut
      → has_bit cut (i - at) ≡ (has_bit ws (i - at) && in_range low end (i - at)) =
      λ i above below. has_bit-cut (i - at) (omega (arith, above, below, row)) in
      ap (ascending (λ p. has_bit cut (p - at)) at) size
      ∙ ascending-skip _ (λ p. has_bit cut (p - at)) at low ((end - low) + rest)
      (λ i above below. same i above (omega (arith, below, size)) ∙ grind (arith, nat_tests))
      (λ i above below. refl)
      ∙ ascending-cut _ (λ p. has_bit ws (p - at)) (at + low) (end - low) rest
      (λ i above below. same i (omega (arith, above)) (omega (arith, below, size)) ∙ grind (arith, nat_tests))
      (λ i above below. same i (omega (arith, above)) (omega (arith, below, size)) ∙ grind (arith, nat_tests))
