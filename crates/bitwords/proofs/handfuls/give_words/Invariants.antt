use Rattle.std.proofs.Common.{◌≡◌, ◌<◌, ◌≤◌, ◌+◌, ◌⊎◌, length, drop, count_ones}
use Rattle.bitwords.specs.Handfuls.{GivesSome}
use Rattle.bitwords.specs.WalkedWords.{held_items, IsSpaced}
use Rattle.bitwords.proofs.handfuls.give_words.Given as goal

-- the words that are left have the positions that are left, and the others are given; of the words none is yet, or the
-- first one is
abbrev pub invariant-loop-room : goal.invariant-loop-room
invariant-loop-room g l = record {
  spaced : IsSpaced l.held.front_at l.held.back_at (length (g.M.Middle.words l.held.middle)) l.held.back;
  gives : GivesSome (held_items l.fn.held.front_at l.fn.held.front (g.M.Middle.words l.fn.held.middle) l.fn.held.back)
      l.fn.places l.count l.places
      (held_items l.held.front_at l.held.front (g.M.Middle.words l.held.middle) l.held.back);
  first : ((l.held.front_at ≡ l.fn.held.front_at) × (l.held.front ≡ l.fn.held.front)
      × (g.M.Middle.words l.held.middle ≡ g.M.Middle.words l.fn.held.middle) × (l.count ≡ 0))
      ⊎ ((l.fn.held.front_at < l.held.front_at) × (count_ones l.fn.held.front ≤ l.count));
  others : drop (l.count + 7) l.places ≡ drop (l.count + 7) l.fn.places;
}

abbrev pub decreases-loop-room : goal.decreases-loop-room
decreases-loop-room g l = length (g.M.Middle.words l.held.middle)
