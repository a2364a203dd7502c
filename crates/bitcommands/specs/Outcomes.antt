-- What the functions of a group return, and what a check of a guard returns.
use Rattle.std.specs.Prelude.{◌≡◌, ℕ, List, [], Option, Some, None, Result, Ok, Err, MatchOption, IsOk, decimal}
use Rattle.fixedbitset.specs.declared.extend.ExtendFault.{ExtendFault}
use Rattle.fixedbitset.specs.declared.extend.ExtendFault.TheVariants as fault
use Rattle.bitjson.specs.declared.fault.JsonFault.{JsonFault}
use Rattle.bitjson.specs.declared.fault.JsonFault.TheVariants as json
use Rattle.bitcommands.specs.declared.commands.refusals.Refusal.{Refusal}
use Rattle.bitcommands.specs.declared.commands.refusals.Refusal.TheVariants as refusal
use Rattle.bitcommands.specs.declared.commands.replies.Reply.{Reply}
use Rattle.bitcommands.specs.Actions.{Action}
use Rattle.bitcommands.specs.Answers as answer
use Rattle.bitcommands.specs.Answers.{Answer, answer_of}
use Rattle.bitcommands.specs.Sets.{Sets}
use Rattle.bitcommands.specs.Steps.{Step}

-- a check returns the first refusal of its guard
abbrev pub Passes : {A : Type 0} → Result A Refusal → Option Refusal → Type 0
Passes result guard = MatchOption guard (IsOk result) (λ f. result ≡ Err f)

-- a refusal that is returned as an error is the reply
abbrev pub replied : Result Reply Refusal → Answer
replied (Ok r) = answer_of r
replied (Err f) = answer.refused f

-- a function that returns a refusal as an error makes a step
abbrev pub Answers : ℕ → Sets → Action → Result Reply Refusal → Sets → Type 0
Answers m old c result new = Step m old c (replied result) new

-- it does so whatever the limit is
abbrev pub AnswersAlways : Sets → Action → Result Reply Refusal → Sets → Type 0
AnswersAlways old c result new = (m : ℕ) → Answers m old c result new

-- the refusal that an error of `extend` or `from_iter` is
abbrev pub fault_refusal : ExtendFault → Refusal
fault_refusal fault.Position = refusal.Greatest
fault_refusal fault.Memory = refusal.Memory

-- the refusal that an error of a JSON value is
abbrev pub json_refusal : JsonFault → Refusal
json_refusal json.Memory = refusal.Memory
json_refusal f = refusal.Json f

-- a number behind a text, or nothing
abbrev pub number_text : Option ℕ → List ℕ
number_text None = []
number_text (Some n) = decimal n
