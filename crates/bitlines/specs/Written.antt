-- The line that a command is written as.
use Rattle.std.specs.Prelude.{◌≡◌, ℕ, ◌^◌, ◌<◌, List, [], ◌∷◌, ◌++◌, map, length}
use Rattle.std.specs.Prelude.{Option, Some, None, MatchOption, codes, decimal}
use Rattle.std.specs.List.{join_with_byte}
use Rattle.serde_json.specs.Written.{compact_text}
use Rattle.bitcommands.specs.declared.commands.arguments.End.{End}
use Rattle.bitcommands.specs.declared.commands.arguments.End.TheVariants.{Front, Back}
use Rattle.bitcommands.specs.Actions.{Action}
use Rattle.bitcommands.specs.Arguments.{Argument, number, flag, range, ends, json}
use Rattle.bitcommands.specs.Table.{entry_of}
use Rattle.bitcommands.specs.Texts.{flag_text}
use Rattle.bitlines.specs.Arguments.{json_of}

-- a bound of a range, or nothing
abbrev pub bound_text : Option ℕ → List ℕ
bound_text None = []
bound_text (Some n) = decimal n

-- the letter of an end
abbrev pub letter : End → ℕ
letter Front = 102
letter Back = 98

-- the text of an argument
abbrev pub argument_text : Argument → List ℕ
argument_text (number n) = decimal n
argument_text (flag e) = flag_text e
argument_text (range r) = bound_text r.0 ++ (codes ".." ++ bound_text r.1)
argument_text (ends es) = map letter es
argument_text (json d) = compact_text d

-- a bound fits a `usize`
abbrev pub FitsBound : Option ℕ → Type 0
FitsBound bound = MatchOption bound (Unit {0}) (λ n. n < 2 ^ 64)

-- numbers fit a `usize`, there is at least one letter, and the text of a JSON value stands for it
abbrev pub Fits : Argument → Type 0
Fits (number n) = n < 2 ^ 64
Fits (flag e) = Unit {0}
Fits (range r) = FitsBound r.0 × FitsBound r.1
Fits (ends es) = 0 < length es
Fits (json d) = json_of (compact_text d) ≡ Some d

-- all arguments do
abbrev pub AllFit : List Argument → Type 0
AllFit [] = Unit {0}
AllFit (x ∷ xs) = Fits x × AllFit xs

-- the word and the arguments of a command
abbrev pub spelling : Action → List ℕ × List Argument
spelling c = ((entry_of c).word, (entry_of c).arguments)

-- the word, and the arguments with a space before each
abbrev pub line_of : Action → List ℕ
line_of c = join_with_byte 32 ((spelling c).0 ∷ map argument_text (spelling c).1)
