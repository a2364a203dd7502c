-- The turns of a search that halves, and the words that are looked at behind it.
use Rattle.std.proofs.Common.{◌≡◌, ℕ, zero, suc, ◌+◌, ◌-◌, ◌*◌, ◌/◌, ◌^◌, ◌<◌, ◌≤◌}
use Rattle.std.proofs.Common.{min, Option, Some, None, IfSome, IfNone, refl, ap, arith}
use Rattle.std.proofs.Math.Nat.{pow-suc}
use Rattle.std.proofs.lemmas.Nat.{pow_pos}
use Rattle.bitranks.specs.Ranks.{Halves, entries, last_words, nth_of_entry}

-- of n steps more than `before` some are left, and those are enough for so many entries
pub record IsSpent (n before steps size : ℕ) : Type 0 where
  pub within : steps ≤ before + n
  pub left : size ≤ 2 ^ (before + n - steps)

-- one step halves the entries
pub halved : (n before steps new size half : ℕ) → new ≡ steps + 1 → IsSpent n before steps size → 1 < size
    → half + half ≤ size + 1 → IsSpent n before new half
halved n before steps new size half one is more less = by_rest (before + n - steps) (omega (arith, is.within)) is.left
  where
    by_rest : (rest : ℕ) → steps + rest ≡ before + n → size ≤ 2 ^ rest → IsSpent n before new half
    by_rest zero all enough = absurd (omega arith)
    by_rest (suc rest) all enough =
        let e : before + n - new ≡ rest = omega arith in
        record {
          within = omega arith;
          left = omega (arith, pow-suc 2 rest, ap (λ k. 2 ^ k) e);
        }

-- where n steps need more entries than are left, one step leaves at least half of them
pub halved_least : (n before steps new size half : ℕ) → new ≡ steps + 1 → 2 ^ (before + n - steps) ≤ size → 1 < size
    → size ≤ half + half + 1 → 2 ^ (before + n - new) ≤ half
halved_least n before steps new size half one enough more less = by_rest (before + n - steps) refl enough
  where
    by_rest : (rest : ℕ) → before + n - steps ≡ rest → 2 ^ rest ≤ size → 2 ^ (before + n - new) ≤ half
    by_rest zero all le =
        let e : before + n - new ≡ 0 = omega (arith, all, one) in
        let two = ap (λ k. 2 ^ k) e in
        omega (arith, two, more, less)
    by_rest (suc rest) all le =
        let e : before + n - new ≡ rest = omega (arith, all, one) in
        omega (arith, pow-suc 2 rest, ap (λ k. 2 ^ k) e, le, less)

-- where one entry is left, all steps were taken
pub all_taken : (n before steps size : ℕ) → 2 ^ (before + n - steps) ≤ size → size ≤ 1 → before + n ≤ steps
all_taken n before steps size enough one = by_rest (before + n - steps) refl enough
  where
    by_rest : (rest : ℕ) → before + n - steps ≡ rest → 2 ^ rest ≤ size → before + n ≤ steps
    by_rest zero all le = omega (arith, all)
    by_rest (suc rest) all le = absurd (omega (arith, pow-suc 2 rest, pow_pos rest, le, one))

-- so many steps more
more_steps : (n k before mid after : ℕ) → Halves n before mid → after ≡ mid + k → Halves n (before + k) after
more_steps n k before mid after is all = record {
  grows = omega (arith, is.grows, all);
  least = λ log le. omega (arith, is.least log le, all);
  most = λ log le. omega (arith, is.most log le, all);
}

-- no entries are left as they are
pub none_halved : (n before : ℕ) → n ≡ 0 → Halves n before before
none_halved n before none = record {
  grows = omega arith;
  least = λ log le. absurd (omega (arith, pow_pos log, le, none));
  most = λ log le. omega arith;
}

-- the halving, and the words of the entry up to that of the position
pub found_steps : (n before mid after entry end : ℕ) (found : Option ℕ) → Halves n before mid → end ≤ 8 * entry + 8
    → IfSome found (λ p. 64 * (8 * entry) ≤ p) → IfSome found (λ p. p < 64 * end)
    → IfSome found (λ p. after + 8 * entry ≡ mid + (p / 64 + 1))
    → IfSome found (λ p. Halves n (before + nth_of_entry (p / 64)) after)
found_steps n before mid after entry end None halves ends from below cost = tt
found_steps n before mid after entry end (Some p) halves ends from below cost =
    more_steps n (nth_of_entry (p / 64)) before mid after halves (omega (arith, ends, from, below, cost))

-- the halving, and all words of the last entry
pub unfound_steps : {None_in : Type 0} (n words before mid after entry end : ℕ) (found : Option ℕ) → Halves n before mid
    → n ≡ entries words → (None_in → entry + 1 ≡ n) → end ≡ min words (8 * entry + 8)
    → IfNone found None_in → IfNone found (after ≡ mid + (end - 8 * entry))
    → IfNone found (Halves n (before + last_words words) after)
unfound_steps n words before mid after entry end None halves long last ends none cost =
    more_steps n (last_words words) before mid after halves (omega (arith, long, last none, ends, cost))
unfound_steps n words before mid after entry end (Some p) halves long last ends none cost = tt
