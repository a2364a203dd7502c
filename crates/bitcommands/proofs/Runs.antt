-- Runs that go on by one step.
use Rattle.std.proofs.Common.{◌≡◌, ℕ, ◌+◌, ◌<◌, List, [], ◌∷◌, ◌++◌, length, get_or, take, map, refl, subst}
use Rattle.std.proofs.lemmas.List.{take_more, map-append}
use Rattle.bitcommands.specs.declared.commands.Command.{Command}
use Rattle.bitcommands.specs.declared.commands.replies.Reply.{Reply}
use Rattle.bitcommands.specs.Actions.{Action, action_of}
use Rattle.bitcommands.specs.Answers.{Answer, answer_of}
use Rattle.bitcommands.specs.Sets.{Sets}
use Rattle.bitcommands.specs.Steps.{Step, Run}

pub Run-snoc : (limit : ℕ) (old mid new : Sets) (cs : List Action) (rs : List Answer) (c : Action) (r : Answer)
    → Run limit old cs rs mid → Step limit mid c r new → Run limit old (cs ++ c ∷ []) (rs ++ r ∷ []) new
Run-snoc limit old mid new [] [] c r run step = (new, subst (λ s. Step limit s c r new) run step, refl)
Run-snoc limit old mid new (d ∷ cs) (q ∷ rs) c r run step =
    (run.0, run.1, Run-snoc limit run.0 mid new cs rs c r run.2 step)
Run-snoc limit old mid new cs rs c r run step = absurd run

pub Run_more : (limit : ℕ) (old mid new : Sets) (cs : List Command) (rs : List Reply) (i : ℕ) (c : Command) (r : Reply)
    → i < length cs → c ≡ get_or cs i c → Run limit old (map action_of (take i cs)) (map answer_of rs) mid
    → Step limit mid (action_of c) (answer_of r) new
    → Run limit old (map action_of (take (i + 1) cs)) (map answer_of (rs ++ r ∷ [])) new
Run_more limit old mid new cs rs i c r lt is run step =
    rw (take_more cs i c lt, ← is, map-append action_of (take i cs), map-append answer_of rs)
    (Run-snoc limit old mid new (map action_of (take i cs)) (map answer_of rs) (action_of c) (answer_of r) run step)

-- equal commands with equal answers make equal steps
pub step_as : (limit : ℕ) (old new : Sets) (c d : Action) (r q : Answer) → c ≡ d → r ≡ q → Step limit old d q new
    → Step limit old c r new
step_as limit old new c d r q same answered step = rw (same, answered) step
