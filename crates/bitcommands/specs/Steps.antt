-- Steps and runs: the table, one command after another.
use Rattle.std.specs.Prelude.{◌≡◌, ℕ, ◌+◌, IsTrue, List, [], ◌∷◌, ◌++◌, MatchOption, ◌⊎◌, slice_set}
use Rattle.fixedbitset.specs.Bits as model
use Rattle.fixedbitset.specs.Bits.{Bits}
use Rattle.bitcommands.specs.declared.commands.refusals.Refusal.TheVariants as refusal
use Rattle.bitcommands.specs.Actions as action
use Rattle.bitcommands.specs.Actions.{Action}
use Rattle.bitcommands.specs.Answers as answer
use Rattle.bitcommands.specs.Answers.{Answer}
use Rattle.bitcommands.specs.Sets.{Sets, at}
use Rattle.bitcommands.specs.Guards.{before_greatest, needs_more_words}
use Rattle.bitcommands.specs.Table.{row_of}

-- An allocation may fail for this command, and then all sets are as they were; but of the items of `extend` those
-- before the one whose allocation failed stand. That one needs more words than the set has once these are added.
abbrev pub LacksMemory : ℕ → Sets → Action → Sets → Type 0
LacksMemory m old (action.extend k items) new =
    (added : List ℕ) × (item : ℕ) × (others : List ℕ) × (before_greatest items ≡ added ++ item ∷ others)
    × IsTrue (needs_more_words (model.add_all (at old k) added) (item + 1))
    × (new ≡ slice_set old k (model.add_all (at old k) added))
LacksMemory m old c new = IsTrue (row_of m old c).may_lack_memory × (new ≡ old)

-- The first guard that refuses gives the reply, and nothing changes. Where none does, the reply and the sets left
-- are those of the row; or an allocation fails, where it may.
abbrev pub Step : ℕ → Sets → Action → Answer → Sets → Type 0
Step m old c r new = MatchOption (row_of m old c).refusal
    (((r ≡ (row_of m old c).answer) × (new ≡ (row_of m old c).left))
    ⊎ ((r ≡ answer.refused refusal.Memory) × LacksMemory m old c new))
    (λ f. (r ≡ answer.refused f) × (new ≡ old))

-- A run: one reply for each command, each step from the sets that the one before left.
abbrev pub Run : ℕ → Sets → List Action → List Answer → Sets → Type 0
Run m old [] [] new = new ≡ old
Run m old (c ∷ cs) (r ∷ rs) new = (mid : Sets) × Step m old c r mid × Run m mid cs rs new
Run m old cs rs new = ⊥
