-- No public clause cites this module.
-- Where a range is cut at the edges of words.
use Rattle.std.specs.Prelude.{◌≡◌, ℕ, ◌*◌, ◌/◌, ◌%◌, ◌≤◌, ◌⊎◌}
use Rattle.std.specs.Int.{div_ceil}

-- The range from start to end is cut at low and at high: before low and behind high it has positions of one word alone,
-- and between them whole words, or nothing.
pub record IsCut (start end low high : ℕ) : Type 0 where
  pub first : start ≤ low
  pub middle : low ≤ high
  pub last : high ≤ end
  pub first_word : low ≤ 64 * div_ceil start 64
  pub last_word : 64 * (end / 64) ≤ high
  pub whole : (low ≡ end) ⊎ ((low % 64 ≡ 0) × (high % 64 ≡ 0))
