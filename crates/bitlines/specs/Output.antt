-- What the program writes for an input.
use Rattle.std.specs.Prelude.{◌≡◌, ℕ, List, [], ◌∷◌, ◌++◌, length, replicate, MatchOption, ◌==◌, if◌then◌else◌, codes}
use Rattle.std.specs.List.{slice_split}
use Rattle.std.specs.Io.BufRead.{strip_last}
use Rattle.fixedbitset.specs.Bits.{empty}
use Rattle.bitcommands.specs.Answers.{Answer}
use Rattle.bitcommands.specs.Sets.{Sets}
use Rattle.bitcommands.specs.Steps.{Step}
use Rattle.bitlines.specs.Lines.{command_of}
use Rattle.bitcommands.specs.Texts.{answer_text}

-- ---- lines

-- an input is cut at each byte 10, but for one at its end; an empty input has no line
unfoldable pub lines_of : List ℕ → List (List ℕ)
lines_of input = if length input == 0 then [] else slice_split (λ b. b == 10) (strip_last 10 input)

-- ---- the output

-- The reply to a line, and the sets that it leaves: where the line stands for a command, the text of what a step
-- returns, at the limit 1,000,000; else the text of an error, and nothing changes.
abbrev pub Replies : Sets → List ℕ → List ℕ → Sets → Type 0
Replies old line reply new = MatchOption (command_of line) ((reply ≡ codes "F8 not a command") × (new ≡ old))
    (λ c. (r : Answer) × Step 1000000 old c r new × (reply ≡ answer_text r))

-- The output belongs to these lines, from these sets: their replies, one after
-- the other, each with a line end behind it.
abbrev pub IsOutputFrom : Sets → List (List ℕ) → List ℕ → Type 0
IsOutputFrom sets [] output = output ≡ []
IsOutputFrom sets (line ∷ lines) output = (reply rest : List ℕ) × (mid : Sets)
    × Replies sets line reply mid × IsOutputFrom mid lines rest × (output ≡ reply ++ 10 ∷ rest)

-- The output belongs to the input: to its lines, from sixteen sets of length 0.
abbrev pub IsOutput : List ℕ → List ℕ → Type 0
IsOutput input output = IsOutputFrom (replicate 16 (empty 0)) (lines_of input) output
