-- What holds of calls of an iterator from its two ends, in any order.
use Rattle.std.specs.Prelude.{◌≡◌, ℕ, ◌+◌, ◌*◌, ◌≤◌, List, [], ◌∷◌, ◌++◌, length, reverse, Option}
use Rattle.std.specs.Option.{option_to_list}
use Rattle.bitwords.specs.Walk.{Walk, GivesFirst, GivesLast}
use Rattle.bitwalks.specs.Pairs.{Sieved, SievesFirst, SievesLast, Joined, joined_items, JoinsFirst}
use Rattle.bitwalks.specs.Pairs.{JoinsLast, Split, split_items, SplitsFirst, SplitsLast}

-- a call from one end, and what it returned
pub data Call : Type 0 where
  from_front : Option ℕ → Call
  from_back : Option ℕ → Call

-- the items that came from the front, in the order in which they came
abbrev pub given_front : List Call → List ℕ
given_front [] = []
given_front (from_front answer ∷ calls) = option_to_list answer ++ given_front calls
given_front (from_back answer ∷ calls) = given_front calls

-- the items that came from the back, in the order in which they came
abbrev pub given_back : List Call → List ℕ
given_back [] = []
given_back (from_front answer ∷ calls) = given_back calls
given_back (from_back answer ∷ calls) = option_to_list answer ++ given_back calls

-- an iterator, by what it has left and by what a call from each end does to it
module _ {S : Type 0} (items : S → List ℕ) (first last : S → Option ℕ → S → Type 0) where
  -- these calls, one after the other, took the iterator from s to t
  abbrev pub Called : List Call → S → S → Type 0
  Called [] s t = s ≡ t
  Called (from_front answer ∷ calls) s t = (u : S) × first s answer u × Called calls u t
  Called (from_back answer ∷ calls) s t = (u : S) × last s answer u × Called calls u t

  -- items from the front, then those left, then those from the back reversed, are the iterator's list
  abbrev pub PartsAreTheList : Type 0
  PartsAreTheList = (calls : List Call) (s t : S) → Called calls s t
      → given_front calls ++ (items t ++ reverse (given_back calls)) ≡ items s

-- ---- how many turns calls make

-- Calls made exactly one turn each, and one more for each word that they took. The words not yet taken are one stretch
-- of those that were not: each word is taken once at most.
pub record TookWords (calls : ℕ) (s t : Walk) : Type 0 where
  pub front : List ℕ
  pub back : List ℕ
  pub stretch : s.words ≡ front ++ (t.words ++ back)
  pub taken : t.taken ≡ s.taken + length front + length back
  pub turns : t.turns ≡ s.turns + calls + length front + length back

-- whatever calls were made of an iterator over one set
abbrev pub TurnsOfCalls : Type 0
TurnsOfCalls = (calls : List Call) (s t : Walk) → Called (λ walk. walk.items) GivesFirst GivesLast calls s t
    → TookWords (length calls) s t

-- what a sieve still has to do, and what it did: its source's turns, items left and words not yet taken
abbrev pub effort : Sieved → ℕ
effort sieved = sieved.source.turns + length sieved.source.items + length sieved.source.words

-- each item that the source gave was looked up once, and the source made at most one
-- turn for each call, each item and each word
pub record LookedUp (calls : ℕ) (s t : Sieved) : Type 0 where
  pub asked : t.asked + length t.source.items ≡ s.asked + length s.source.items
  pub turns : effort t ≤ effort s + calls

-- whatever calls were made of a sieve
abbrev pub LooksUpOnce : Type 0
LooksUpOnce = (calls : List Call) (s t : Sieved) → Called (λ sieved. sieved.items) SievesFirst SievesLast calls s t
    → LookedUp (length calls) s t

-- the same of an iterator and then a sieve, over both: the items of the iterator are not looked up
abbrev pub joined_effort : Joined → ℕ
joined_effort walk = walk.first.turns + length walk.first.words + effort walk.second

-- each item that the second source gave was looked up once, and both sources made at most two turns
-- for each call, and one for each item and word
pub record JoinedUp (calls : ℕ) (s t : Joined) : Type 0 where
  pub asked : t.second.asked + length t.second.source.items ≡ s.second.asked + length s.second.source.items
  pub turns : joined_effort t ≤ joined_effort s + 2 * calls

-- whatever calls were made of an iterator and then a sieve
abbrev pub JoinsOnce : Type 0
JoinsOnce = (calls : List Call) (s t : Joined) → Called joined_items JoinsFirst JoinsLast calls s t
    → JoinedUp (length calls) s t

-- each item that a source gave was looked up once, and both sources made at most two turns
-- for each call, and one for each item and word
pub record SplitUp (calls : ℕ) (s t : Split) : Type 0 where
  pub asked_first : t.first.asked + length t.first.source.items ≡ s.first.asked + length s.first.source.items
  pub asked_second : t.second.asked + length t.second.source.items ≡ s.second.asked + length s.second.source.items
  pub turns : effort t.first + effort t.second ≤ effort s.first + effort s.second + 2 * calls

-- whatever calls were made of two sieves in turn
abbrev pub SplitsOnce : Type 0
SplitsOnce =
    (calls : List Call) (s t : Split) → Called split_items SplitsFirst SplitsLast calls s t → SplitUp (length calls) s t
