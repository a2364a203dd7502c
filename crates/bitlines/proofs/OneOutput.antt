-- The law of outputs is proved.
use Rattle.std.proofs.Common.{◌≡◌, ◌≢◌, ℕ, List, [], ◌∷◌, ◌++◌, Option, Some, None}
use Rattle.std.proofs.Common.{MatchOption, codes, eqb, ◌⊎◌, refl, sym, ap, ◌∙◌, arith}
use Rattle.std.specs.List.{slice_split}
use Rattle.std.proofs.lemmas.List.Elements.{Contains-append_left, Contains-append_right}
use Rattle.bitcommands.specs.declared.commands.refusals.Refusal.{Refusal}
use Rattle.bitcommands.specs.declared.commands.refusals.Refusal.TheVariants.{Memory}
use Rattle.bitcommands.specs.Actions.{Action}
use Rattle.bitcommands.specs.Answers.{Answer, refused}
use Rattle.bitcommands.specs.Texts.{refusal_text, answer_text}
use Rattle.bitcommands.specs.Sets.{Sets}
use Rattle.bitcommands.specs.Steps.{Step}
use Rattle.bitlines.specs.Lines.{command_of}
use Rattle.bitlines.specs.Output.{IsOutputFrom, lines_of}
use Rattle.bitlines.specs.OutputLaws.{LacksNothing, OneOutput}
use Rattle.bitlines.proofs.Outputs.{lines_of-append}

-- ---- a line of an output

-- what stands behind a line lacks nothing if the whole does
lacks_nothing_behind : (line rest output : List ℕ) → output ≡ line ++ 10 ∷ rest → LacksNothing output
    → LacksNothing rest
lacks_nothing_behind line rest output is clean found =
    clean (rw (is, lines_of-append line rest)
    (Contains-append_right (slice_split (λ x. eqb x 10) line) (lines_of rest) _ found))

-- a line of an output that lacks nothing does not say that memory was refused
no_refusal : (line rest output : List ℕ) → output ≡ line ++ 10 ∷ rest → LacksNothing output → line ≢ refusal_text Memory
no_refusal line rest output is clean e =
    clean (rw (is, e, lines_of-append (refusal_text Memory) rest)
    (Contains-append_left (refusal_text Memory ∷ []) (lines_of rest) (refusal_text Memory) (0, omega arith, refl)))

-- ---- a step, and the replies to lines

-- the rows of one step, by its test: two answers, neither of which refuses
-- memory, are the same, and leave the same sets
same_row : (test : Option Refusal) (answer r s : Answer) (left old new now : Sets) (P Q : Type 0)
    → MatchOption test (((r ≡ answer) × (new ≡ left)) ⊎ ((r ≡ refused Memory) × P)) (λ f. (r ≡ refused f) × (new ≡ old))
    → MatchOption test (((s ≡ answer) × (now ≡ left)) ⊎ ((s ≡ refused Memory) × Q)) (λ f. (s ≡ refused f) × (now ≡ old))
    → r ≢ refused Memory → s ≢ refused Memory → (r ≡ s) × (new ≡ now)
same_row (Some f) answer r s left old new now P Q a b no_first no_second = (a.0 ∙ sym b.0, a.1 ∙ sym b.1)
same_row None answer r s left old new now P Q a b no_first no_second = (grind arith, grind arith)

same_step : (limit : ℕ) (old : Sets) (c : Action) (r s : Answer) (new now : Sets) → Step limit old c r new
    → Step limit old c s now
    → r ≢ refused Memory → s ≢ refused Memory → (r ≡ s) × (new ≡ now)
same_step limit old c r s new now = same_row _ _ r s _ old new now _ _

-- two replies to one line, neither of which says that memory was refused, are the same, and leave the same sets
same_reply : (read : Option Action) (old new now : Sets) (first second : List ℕ)
    → MatchOption read ((first ≡ codes "F8 not a command") × (new ≡ old))
    (λ c. (r : Answer) × Step 1000000 old c r new × (first ≡ answer_text r))
    → MatchOption read ((second ≡ codes "F8 not a command") × (now ≡ old))
    (λ c. (r : Answer) × Step 1000000 old c r now × (second ≡ answer_text r))
    → first ≢ refusal_text Memory → second ≢ refusal_text Memory → (first ≡ second) × (new ≡ now)
same_reply None old new now first second a b no_first no_second = (a.0 ∙ sym b.0, a.1 ∙ sym b.1)
same_reply (Some c) old new now first second a b no_first no_second =
    let step = same_step 1000000 old c a.0 b.0 new now a.1 b.1 (λ e. no_first (a.2 ∙ ap answer_text e))
    (λ e. no_second (b.2 ∙ ap answer_text e)) in
    (a.2 ∙ ap answer_text step.0 ∙ sym b.2, step.1)

one_output_of : (lines : List (List ℕ)) (sets : Sets) (first second : List ℕ) → IsOutputFrom sets lines first
    → IsOutputFrom sets lines second
    → LacksNothing first → LacksNothing second → first ≡ second
one_output_of [] sets first second a b clean_first clean_second = a ∙ sym b
one_output_of (line ∷ lines) sets first second a b clean_first clean_second =
    let reply = same_reply (command_of line) sets a.2 b.2 a.0 b.0 a.3 b.3 (no_refusal _ _ first a.5 clean_first)
    (no_refusal _ _ second b.5 clean_second) in
    let behind : IsOutputFrom a.2 lines b.1 = rw reply.1 b.4 in
    let rest = one_output_of lines a.2 a.1 b.1 a.4 behind (lacks_nothing_behind _ _ first a.5 clean_first)
    (lacks_nothing_behind _ _ second b.5 clean_second) in
    a.5 ∙ rw (reply.0, rest) (sym b.5)

pub one_output : OneOutput
one_output input = one_output_of (lines_of input) _
