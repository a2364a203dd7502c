-- Lines and texts from the front.
use Rattle.std.proofs.Common.{◌≡◌, ℕ, ◌+◌, ◌<◌, List, [], ◌∷◌, ◌++◌, length, take, drop, Option}
use Rattle.std.proofs.Common.{Some, None, Bool, Result, Ok, Err, OnOk, is_ok, cond, eqb, IfSome}
use Rattle.std.proofs.Common.{codes, refl, ap, subst, ◌∙◌, arith, append_assoc, append-nil, ◌-◌}
use Rattle.std.specs.List.{position, slice_split}
use Rattle.std.specs.Io.BufRead.{strip_last}
use Rattle.std.proofs.Math.Seq.{take-append-add}
use Rattle.std.proofs.lemmas.Bool.{eq-eqb}
use Rattle.std.proofs.lemmas.List.{length-append, get_or-append-add}
use Rattle.std.proofs.lemmas.List.Splits.{slice_split-cons_yes, slice_split-cons_no}
use Rattle.std.proofs.lemmas.Bool.Decides.{nat_tests}
use Rattle.std.proofs.lemmas.Grind.{common_steps}
use Rattle.bitcommands.specs.Actions.{Action}
use Rattle.bitcommands.specs.Answers.{Answer}
use Rattle.bitcommands.specs.Texts.{answer_text, one_text}
use Rattle.bitcommands.specs.TextsFacts.{step_one_text}
use Rattle.bitcommands.specs.Sets.{Sets}
use Rattle.bitcommands.specs.Steps.{Step}
use Rattle.bitlines.specs.Lines.{command_of}
use Rattle.bitlines.specs.Output.{IsOutputFrom, lines_of}
use Rattle.bitlines.specs.Reads.{Reads}
use Rattle.bitlines.specs.declared.fault.LineFault.{LineFault}
use Rattle.bitlines.specs.declared.fault.LineFault.TheVariants.{NotACommand}
use Rattle.bitlines.specs.OneLine.{AnswersLine, AnswersCommand}
use Rattle.bitlines.proofs.LineSplits.{parts, found_at, last_fails, cut_none}

-- ---- a text cut at a byte 10

-- what stands before a byte and what stands behind it are cut by themselves
slice_split-append : (b : ℕ) (xs ys : List ℕ)
    → slice_split (λ x. eqb x b) (xs ++ b ∷ ys) ≡ slice_split (λ x. eqb x b) xs ++ slice_split (λ x. eqb x b) ys
slice_split-append b [] ys = slice_split-cons_yes (λ x. eqb x b) b ys (eq-eqb b b refl)
slice_split-append b (x ∷ xs) ys =
    grind (
      arith,
      nat_tests,
      slice_split-cons_yes (λ x. eqb x b) x,
      slice_split-cons_no (λ x. eqb x b) x,
      slice_split-append b xs ys,
      parts b xs,
    )

-- the last byte of a text is that of what stands behind
strip_last-append : (b : ℕ) (xs ys : List ℕ) → 0 < length ys → strip_last b (xs ++ ys) ≡ xs ++ strip_last b ys
strip_last-append b xs ys some =
    let at : length (xs ++ ys) - 1 ≡ length xs + (length ys - 1) = omega (arith, length-append xs ys) in
    grind (
      arith,
      nat_tests,
      at,
      get_or-append-add xs ys (length ys - 1) 0,
      take-append-add xs ys (length ys - 1),
      length-append xs ys,
    )

pub lines_of-append : (xs ys : List ℕ) → lines_of (xs ++ 10 ∷ ys) ≡ slice_split (λ x. eqb x 10) xs ++ lines_of ys
unfolding lines_of
lines_of-append xs [] =
    grind (arith, nat_tests, strip_last-append 10 xs (10 ∷ []) (omega arith), length-append xs (10 ∷ []), append-nil)
lines_of-append xs (y ∷ ys) =
    let cut : strip_last 10 (xs ++ 10 ∷ y ∷ ys) ≡ xs ++ 10 ∷ strip_last 10 (y ∷ ys) =
    strip_last-append 10 xs (10 ∷ y ∷ ys) (omega arith)
    ∙ ap (λ zs. xs ++ zs) (strip_last-append 10 (10 ∷ []) (y ∷ ys) (omega arith)) in
    grind (arith, nat_tests, cut, slice_split-append 10 xs (strip_last 10 (y ∷ ys)), length-append xs (10 ∷ y ∷ ys))

pub lines_of_found : (xs : List ℕ) (k : ℕ) → position (λ x. eqb x 10) xs ≡ Some k
    → lines_of xs ≡ take k xs ∷ lines_of (drop (k + 1) xs)
lines_of_found xs k e =
    let f = found_at 10 xs k e in
    ap lines_of f.0 ∙ lines_of-append (take k xs) (drop (k + 1) xs)
    ∙ ap (λ part. part ++ lines_of (drop (k + 1) xs)) f.1

pub lines_of_none : (xs : List ℕ) → 0 < length xs → position (λ x. eqb x 10) xs ≡ None → lines_of xs ≡ xs ∷ []
unfolding lines_of
lines_of_none xs some e = grind (arith, nat_tests, last_fails 10 xs e some, cut_none 10 xs e)

pub lines_of_nil : lines_of [] ≡ []
unfolding lines_of
lines_of_nil = refl

pub lines_of_empty : (xs : List ℕ) → length xs ≡ 0 → lines_of xs ≡ []
unfolding lines_of
lines_of_empty xs e = grind (arith, common_steps)

-- ---- one line, before the lines left

-- a line that is a command is carried out
line_answered : (line : List ℕ) (old new : Sets) (c : Action) (r : Answer) → command_of line ≡ Some c
    → Step 1000000 old c r new → AnswersLine line old new (answer_text r ++ 10 ∷ [])
line_answered line old new c r is step lines output rest =
    (answer_text r, output, new, rw is (r, step, refl), rest, append_assoc (answer_text r) (10 ∷ []) output)

-- its text and a line end are put behind an output
pub command_answered : (before mid after : List ℕ) (old new : Sets) (c : Action) (r : Answer) → Step 1000000 old c r new
    → IfSome (one_text r) (λ text. mid ≡ before ++ text) → after ≡ mid ++ 10 ∷ []
    → (out : List ℕ) × (after ≡ before ++ out) × AnswersCommand c old new out
command_answered before mid after old new c r step put ended =
    let text = answer_text r in
    let pushed : mid ≡ before ++ text =
    subst (λ o. IfSome o (λ t. mid ≡ before ++ t)) (step_one_text 1000000 old new c r step) put in (
      text ++ 10 ∷ [],
      ended ∙ ap (λ u. u ++ 10 ∷ []) pushed ∙ append_assoc before text (10 ∷ []),
      λ line is. line_answered line old new c r is step,
    )

-- a line that is none leaves the sets
line_refused : (line : List ℕ) (sets : Sets) → command_of line ≡ None
    → AnswersLine line sets sets (codes "F8 not a command" ++ 10 ∷ [])
line_refused line sets none lines output rest =
    (codes "F8 not a command", output, sets, rw none (refl, refl), rest, refl)

-- what a reader answers for a line that is no command
pub not_read : {X Y : Type 0} (may_lack_memory : Bool) (view : X → Y) (fault : LineFault) (read : Option Y)
    → fault ≡ NotACommand → Reads may_lack_memory view (Err fault) read → read ≡ None
not_read may_lack_memory view fault read is answered = subst (λ f. Reads may_lack_memory view (Err f) read) is answered

-- the text of a fault is put behind an output, or memory for it is refused
pub fault_answered : {E : Type 0} (r : Result (Unit {0}) E) (line before after : List ℕ) (sets : Sets)
    → command_of line ≡ None
    → after ≡ cond (is_ok r) (before ++ (codes "F8 not a command" ++ 10 ∷ [])) before
    → OnOk r ((out : List ℕ) × (after ≡ before ++ out) × AnswersLine line sets sets out)
fault_answered (Ok u) line before after sets none put =
    (codes "F8 not a command" ++ 10 ∷ [], put, line_refused line sets none)
fault_answered (Err e) line before after sets none put = tt

-- no lines put out nothing
pub no_lines : (sets : Sets) (lines : List (List ℕ)) → lines ≡ [] → IsOutputFrom sets lines []
no_lines sets lines none = rw none refl
