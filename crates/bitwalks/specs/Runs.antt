-- What a contract sees of the fields of an iterator over runs.
use Rattle.std.specs.Prelude.{ℕ, List}
use Rattle.bitwords.specs.Runs.{stretches, is_like}
use Rattle.bitwalks.specs.declared.runs.HeldRuns.{HeldRuns}

-- the runs left
abbrev pub held_stretches : HeldRuns → List (ℕ × ℕ)
held_stretches held = stretches (is_like held.are_set held.words.now) held.end held.low held.high
