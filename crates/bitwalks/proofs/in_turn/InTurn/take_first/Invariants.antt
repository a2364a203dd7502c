use Rattle.std.proofs.Common.{◌≡◌, ℕ, Bool, true, false, []}
use Rattle.bitwalks.proofs.in_turn.InTurn.take_first.Given as goal

abbrev pub turns_left : Bool → ℕ
turns_left true = 1
turns_left false = 0

-- the first walk was called no more than once, and then it had no items
abbrev pub invariant-loop-self : goal.invariant-loop-self
invariant-loop-self g l = record {
  second : l.self-inside.second ≡ l.fn.self.second;
  items : g.A.Part.items l.self-inside.first ≡ g.A.Part.items l.fn.self.first;
  front : g.A.Part.front l.fn.self.first l.self-inside.first;
  fresh : l.self-inside.first_left ≡ true → l.self-inside.first ≡ l.fn.self.first;
  none : l.self-inside.first_left ≡ false → g.A.Part.items l.self-inside.first ≡ [];
  over : l.fn.self.first_left ≡ false → l.self-inside.first_left ≡ false;
  stays : l.fn.self.first_left ≡ false → l.self-inside.first ≡ l.fn.self.first;
}

abbrev pub decreases-loop-self : goal.decreases-loop-self
decreases-loop-self g l = turns_left l.self-inside.first_left
