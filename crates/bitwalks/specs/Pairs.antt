-- What a contract sees of an iterator over two rows of words.
use Rattle.std.specs.Prelude.{◌≡◌, ℕ, ◌+◌, ◌*◌, ◌≤◌, Bool, filter, List, ◌++◌, length, Option}
use Rattle.std.specs.Iterator.{YieldsFirst, YieldsLast}
use Rattle.bitwords.specs.Ascending.{ascending}
use Rattle.bitwords.specs.Rows.{has_bit}
use Rattle.bitwords.specs.Walk.{Walk, TakesFromFront, TakesFromBack, over_row}

-- ---- the iterator over one row, sieved by another: the items left, how many items were
-- looked up in the other row, and the source

pub record Sieved : Type 0 where
  pub items : List ℕ
  pub asked : ℕ
  pub source : Walk

-- the iterator over a row, sieved by another, before its first call
abbrev pub sieve_over : (Bool → Bool) → List ℕ → List ℕ → Sieved
sieve_over passes words other = record {
  items = filter (λ p. passes (has_bit other p)) (ascending (has_bit words) 0 (64 * length words));
  asked = 0;
  source = over_row words (64 * length words);
}

-- each item that the source gave was looked up once, and the source was called once for each, and once more at most
pub record Asks (calls : ℕ) (old new : Sieved) : Type 0 where
  pub asked : new.asked + length new.source.items ≡ old.asked + length old.source.items
  pub fewer : length new.source.items ≤ length old.source.items
  pub few : calls + length new.source.items ≤ length old.source.items + 1

-- the same, and the source was called from the front
pub record AsksFront (old new : Sieved) : Type 0 where
  pub calls : ℕ
  pub asks : Asks calls old new
  pub takes : TakesFromFront calls old.source new.source

-- the same, and the source was called from the back
pub record AsksBack (old new : Sieved) : Type 0 where
  pub calls : ℕ
  pub asks : Asks calls old new
  pub takes : TakesFromBack calls old.source new.source

-- a call gave the first of the items left, or `None` where none was left
abbrev pub SievesFirst : Sieved → Option ℕ → Sieved → Type 0
SievesFirst old result new = YieldsFirst (λ sieved. sieved.items) old result new × AsksFront old new

-- a call gave the last of the items left, or `None` where none was left
abbrev pub SievesLast : Sieved → Option ℕ → Sieved → Type 0
SievesLast old result new = YieldsLast (λ sieved. sieved.items) old result new × AsksBack old new

-- ---- two iterators in turn

-- what each of the two shows, and whether the first may have items left: it has none once it gave none from the front
pub record Two (A B : Type 0) : Type 0 where
  pub first : A
  pub second : B
  pub first_left : Bool

-- an iterator was called from the front once at most
pub record WalksFront (old new : Walk) : Type 0 where
  pub calls : ℕ
  pub few : calls ≤ 1
  pub takes : TakesFromFront calls old new

-- an iterator was called from the back once at most
pub record WalksBack (old new : Walk) : Type 0 where
  pub calls : ℕ
  pub few : calls ≤ 1
  pub takes : TakesFromBack calls old new

-- the positions of one row, and then those of another that the first lacks
pub record Joined : Type 0 where
  pub first : Walk
  pub second : Sieved

abbrev pub joined_items : Joined → List ℕ
joined_items walk = walk.first.items ++ walk.second.items

-- a call gave the first of the items left; only items of the second row were looked up
abbrev pub JoinsFirst : Joined → Option ℕ → Joined → Type 0
JoinsFirst old result new =
    YieldsFirst joined_items old result new × (WalksFront old.first new.first × AsksFront old.second new.second)

-- a call gave the last of the items left; only items of the second row were looked up
abbrev pub JoinsLast : Joined → Option ℕ → Joined → Type 0
JoinsLast old result new =
    YieldsLast joined_items old result new × (WalksBack old.first new.first × AsksBack old.second new.second)

-- what one row has that another lacks, and then what the other has that the first lacks
pub record Split : Type 0 where
  pub first : Sieved
  pub second : Sieved

abbrev pub split_items : Split → List ℕ
split_items walk = walk.first.items ++ walk.second.items

-- a call gave the first of the items left
abbrev pub SplitsFirst : Split → Option ℕ → Split → Type 0
SplitsFirst old result new =
    YieldsFirst split_items old result new × (AsksFront old.first new.first × AsksFront old.second new.second)

-- a call gave the last of the items left
abbrev pub SplitsLast : Split → Option ℕ → Split → Type 0
SplitsLast old result new =
    YieldsLast split_items old result new × (AsksBack old.first new.first × AsksBack old.second new.second)
