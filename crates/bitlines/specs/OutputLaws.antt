-- What holds of all outputs of one input.
use Rattle.std.specs.Prelude.{◌≡◌, ℕ, List, [], ◌∷◌, length, replicate, Contains}
use Rattle.fixedbitset.specs.Bits.{empty}
use Rattle.bitcommands.specs.declared.commands.refusals.Refusal.TheVariants.{Memory}
use Rattle.bitcommands.specs.Sets.{Sets}
use Rattle.bitcommands.specs.Texts.{refusal_text}
use Rattle.bitlines.specs.Output.{IsOutput, Replies, lines_of}

-- no line of the output says that an allocation failed
abbrev pub LacksNothing : List ℕ → Type 0
LacksNothing output = ¬ Contains (lines_of output) (refusal_text Memory)

-- two outputs of one input, neither with a line that says that an allocation failed, are equal
abbrev pub OneOutput : Type 0
OneOutput = (input first second : List ℕ) → IsOutput input first → IsOutput input second
    → LacksNothing first → LacksNothing second → first ≡ second

-- these are the replies to the lines, from these sets, in order and one for each
abbrev pub AreReplies : Sets → List (List ℕ) → List (List ℕ) → Type 0
AreReplies sets [] replies = replies ≡ []
AreReplies sets (line ∷ lines) replies = (reply : List ℕ) × (rest : List (List ℕ)) × (mid : Sets)
    × Replies sets line reply mid × AreReplies mid lines rest × (replies ≡ reply ∷ rest)

-- The lines of an output are the replies to the lines of the input, in order and
-- as many. So no reply has a line end in it.
abbrev pub OneLineEach : Type 0
OneLineEach = (input output : List ℕ) → IsOutput input output
    → AreReplies (replicate 16 (empty 0)) (lines_of input) (lines_of output)
    × (length (lines_of output) ≡ length (lines_of input))
