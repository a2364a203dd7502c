-- What a contract sees of an iterator over the positions of words.
use Rattle.std.specs.Prelude.{◌≡◌, ℕ, ◌+◌, ◌-◌, ◌/◌, List, Option, ◌++◌, length, take, drop}
use Rattle.std.specs.Int.{div_ceil}
use Rattle.std.specs.Iterator.{YieldsFirst, YieldsLast}
use Rattle.bitwords.specs.Ascending.{ascending}
use Rattle.bitwords.specs.Rows.{has_bit}

-- the items left, the words not yet taken, how many turns were made and how many words taken
pub record Walk : Type 0 where
  pub items : List ℕ
  pub words : List ℕ
  pub turns : ℕ
  pub taken : ℕ

-- the words between the first and the last of a row
abbrev pub between_ends : List ℕ → List ℕ
between_ends words = drop 1 (take (length words - 1) words)

-- the iterator over the positions below `end` that a row of words has, before its first call
abbrev pub over_row : List ℕ → ℕ → Walk
over_row words end =
    record { items = ascending (has_bit words) 0 end; words = between_ends words; turns = 0; taken = 0 }

-- the iterator over those from `low` up to and without `end`, each moved up by `at`
abbrev pub within_row : List ℕ → (at low end : ℕ) → Walk
within_row words at low end =
    record {
      items = ascending (λ p. has_bit words (p - at)) (at + low) (end - low);
      words = between_ends words;
      turns = 0;
      taken = 0;
    }

-- the words that hold the positions from `start` up to and without `end`
abbrev pub range_cut : (start end : ℕ) → List ℕ → List ℕ
range_cut start end words = take (div_ceil end 64 - start / 64) (drop (start / 64) words)

-- the iterator over the positions from `start` up to and without `end` that a row of words has, before its first call
abbrev pub range_row : List ℕ → (start end : ℕ) → Walk
range_row words start end =
    record {
      items = ascending (has_bit words) start (end - start);
      words = between_ends (range_cut start end words);
      turns = 0;
      taken = 0;
    }

-- so many calls made one turn each, and one more for each of so many words that they took
pub record Counts (calls words : ℕ) (old new : Walk) : Type 0 where
  pub taken : new.taken ≡ old.taken + words
  pub turns : new.turns ≡ old.turns + calls + words

-- so many calls took some words from the front of those not yet taken
pub record TakesFromFront (calls : ℕ) (old new : Walk) : Type 0 where
  pub words : List ℕ
  pub front : old.words ≡ words ++ new.words
  pub counts : Counts calls (length words) old new

-- so many calls took some words from the back of those not yet taken
pub record TakesFromBack (calls : ℕ) (old new : Walk) : Type 0 where
  pub words : List ℕ
  pub back : old.words ≡ new.words ++ words
  pub counts : Counts calls (length words) old new

-- a call gave the first of the items left, or `None` where none was left, and took words from the front
abbrev pub GivesFirst : Walk → Option ℕ → Walk → Type 0
GivesFirst old result new = YieldsFirst (λ walk. walk.items) old result new × TakesFromFront 1 old new

-- a call gave the last of the items left, or `None` where none was left, and took words from the back
abbrev pub GivesLast : Walk → Option ℕ → Walk → Type 0
GivesLast old result new = YieldsLast (λ walk. walk.items) old result new × TakesFromBack 1 old new
