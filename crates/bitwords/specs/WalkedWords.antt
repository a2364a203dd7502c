-- The words that a cursor holds. Public clauses cite this module only where a caller keeps a cursor's parts.
use Rattle.std.specs.Prelude.{◌≡◌, ℕ, ◌+◌, ◌-◌, ◌*◌, ◌^◌, ◌<◌, ◌≤◌, List, [], ◌∷◌, ◌++◌, length}
use Rattle.bitwords.specs.Rows.{has_bit}
use Rattle.bitwords.specs.Ascending.{ascending}
use Rattle.bitwords.specs.Walk.{Walk}

-- the positions set in a row of words, ascending, where bit 0 of the first word has position `start`
unfoldable pub ones_from : ℕ → List ℕ → List ℕ
ones_from start words = ascending (λ p. has_bit words (p - start)) start (64 * length words)

-- the positions left of these two words and of those between them, where bit 0 of the first stands at `front_at`
abbrev pub held_items : (front_at front : ℕ) → List ℕ → (back : ℕ) → List ℕ
held_items front_at front middle back = ones_from front_at (front ∷ (middle ++ back ∷ []))

-- the words of a row, each joined by f with the word at its place of another row, and past the end of that with 0
abbrev pub beside : (ℕ → ℕ → ℕ) → List ℕ → List ℕ → List ℕ
beside f [] others = []
beside f (word ∷ words) [] = f word 0 ∷ beside f words []
beside f (word ∷ words) (other ∷ others) = f word other ∷ beside f words others

-- the words at these positions have so many words between them, and end within a usize; a last word that is 0 and has
-- no word before it may stand anywhere from the first one on
pub record IsSpaced (front_at back_at between back : ℕ) : Type 0 where
  pub apart : 0 < between + back → back_at ≡ front_at + 64 * (between + 1)
  pub order : front_at ≤ back_at
  pub fits : back_at + 64 ≤ 2 ^ 64

-- the iterator that holds these, before its first call
abbrev pub held_walk : (front_at front : ℕ) → List ℕ → (back : ℕ) → Walk
held_walk front_at front middle back =
    record { items = held_items front_at front middle back; words = middle; turns = 0; taken = 0 }
