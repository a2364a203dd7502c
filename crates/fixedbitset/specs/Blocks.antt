-- What is taken of an iterator.
use Rattle.std.specs.Prelude.{ℕ, ◌<◌, ◌≤◌, IsTrue, Option, List, length}
use Rattle.std.specs.Iterator.Runs.{SomeRun}

-- P holds of the first n items that the iterator gives, or of all where it ends before
abbrev pub FirstItems : {S A : Type 0} → (S → Option A → S → Type 0) → S → ℕ → (List A → Type 0) → Type 0
FirstItems steps it n P =
    SomeRun steps it (λ run. (length run.items ≤ n) × (length run.items < n → IsTrue run.whole) × P run.items)
