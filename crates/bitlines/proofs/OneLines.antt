-- The law of replies is proved: no text of a reply has a line end, so each line of the input puts out one line.
use Rattle.std.proofs.Common.{◌≡◌, ℕ, suc, List, [], ◌∷◌, ◌++◌, length, Option}
use Rattle.std.proofs.Common.{Some, None, MatchOption, true, codes, refl, ap, ◌∙◌}
use Rattle.bitcommands.specs.Actions.{Action}
use Rattle.bitcommands.specs.Answers.{Answer}
use Rattle.bitcommands.specs.TextsFacts.{is_one_line, step_line}
use Rattle.bitcommands.specs.Sets.{Sets}
use Rattle.bitcommands.specs.Steps.{Step}
use Rattle.bitcommands.specs.Texts.{answer_text}
use Rattle.bitlines.specs.Lines.{command_of}
use Rattle.bitlines.specs.Output.{IsOutputFrom, lines_of}
use Rattle.bitlines.specs.OutputLaws.{AreReplies, OneLineEach}
use Rattle.bitlines.proofs.ArgumentTexts.{not_cut}
use Rattle.bitlines.proofs.Outputs.{lines_of-append, lines_of_nil}

-- ---- the lines of an output

-- a text and a line end in front are one line in front
one_more_line : (text rest : List ℕ) → is_one_line text ≡ true → lines_of (text ++ 10 ∷ rest) ≡ text ∷ lines_of rest
one_more_line text rest line = lines_of-append text rest ∙ ap (λ part. part ++ lines_of rest) (not_cut 10 text line)

-- a reply is one line
one_line_reply : (read : Option Action) (old new : Sets) (reply : List ℕ)
    → MatchOption read ((reply ≡ codes "F8 not a command") × (new ≡ old))
    (λ c. (r : Answer) × Step 1000000 old c r new × (reply ≡ answer_text r))
    → is_one_line reply ≡ true
one_line_reply None old new reply is = rw is.0 refl
one_line_reply (Some c) old new reply is = rw is.2 (step_line 1000000 old new c is.0 is.1)

-- the law for these lines, from any sets
lines_are : (lines : List (List ℕ)) (sets : Sets) (output : List ℕ) → IsOutputFrom sets lines output
    → AreReplies sets lines (lines_of output) × (length (lines_of output) ≡ length lines)
lines_are [] sets output is = rw is (lines_of_nil, ap length lines_of_nil)
lines_are (line ∷ lines) sets output is =
    let rest = lines_are lines is.2 is.1 is.4 in
    let cut : lines_of output ≡ is.0 ∷ lines_of is.1 = ap lines_of is.5
    ∙ one_more_line is.0 is.1 (one_line_reply (command_of line) sets is.2 is.0 is.3) in
    ((is.0, lines_of is.1, is.2, is.3, rest.0, cut), ap length cut ∙ ap suc rest.1)

pub one_line_each : OneLineEach
one_line_each input output is = lines_are (lines_of input) _ output is
