use Rattle.std.proofs.Common.{◌≡◌, ◌+◌, List, ℕ, length, [], ◌∷◌, ◌++◌}
use Rattle.bitwords.specs.WalkedWords.{IsSpaced, ones_from}
use Rattle.bitwords.proofs.cursors.CursorIterator.next.Given as goal

-- the end words and the middle have the items that were left, and each word taken made a turn
abbrev pub invariant-loop-self : goal.invariant-loop-self
invariant-loop-self g l = record {
  spaced : IsSpaced l.self-inside.front_at l.self-inside.back_at (length (g.M.Middle.words l.self-inside.middle))
      l.self-inside.back;
  same : ones_from l.self-inside.front_at
      (l.self-inside.front ∷ (g.M.Middle.words l.self-inside.middle ++ l.self-inside.back ∷ [])) ≡ l.fn.self.items;
  words : List ℕ;
  front : l.fn.self.words ≡ words ++ g.M.Middle.words l.self-inside.middle;
  taken : l.self-inside.taken ≡ l.fn.self.taken + length words;
  turns : l.self-inside.turns ≡ l.fn.self.turns + length words;
}

abbrev pub decreases-loop-self : goal.decreases-loop-self
decreases-loop-self g l = length (g.M.Middle.words l.self-inside.middle)
