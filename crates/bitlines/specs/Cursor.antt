-- No public clause cites this module.
-- The words that are left of a text, where one is left.
use Rattle.std.specs.Prelude.{ℕ, List, [], Option, Some, None}
use Rattle.std.specs.Borrow.{Bor}
use Rattle.bitlines.specs.Words.{words}

-- the words of the text that is left, and none where none is left
abbrev pub words_left : Option (Bor (List ℕ)) → List (List ℕ)
words_left None = []
words_left (Some text) = words text.now
