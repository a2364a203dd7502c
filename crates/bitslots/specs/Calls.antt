-- Runs of calls, by what each call promises.
use Rattle.std.specs.Prelude.{◌≡◌, ℕ, ◌+◌, ◌<◌, ◌≤◌, Option, List, [], ◌∷◌}
use Rattle.std.specs.declared.option.Option.TheVariants.{Some, None}
use Rattle.fixedbitset.specs.Bits.{Bits, remove}
use Rattle.fixedbitset.specs.Ranges.{remove_range}
use Rattle.bitslots.specs.Slots.{IsTaken, IsTakenStretch, IsAnswer, IsLeft}
use Rattle.bitslots.specs.Slots.{IsStretchAnswer, IsAlignedAnswer, IsStretchLeft}

-- a call of `take` and its result, of `give_back` and its slot, or one of a stretch: `take_stretch` or
-- `take_aligned_stretch` with its result, and `give_back_stretch`
pub data Call : Type 0 where
  Take : (answer : Option ℕ) → Call
  Give_back : (slot : ℕ) → Call
  Take_stretch : (count from : ℕ) → (answer : Option ℕ) → Call
  Take_aligned : (count align : ℕ) → (answer : Option ℕ) → Call
  Give_back_stretch : (start count : ℕ) → Call

-- what holds of the slots before and after a call
abbrev pub Happens : Bits → Call → Bits → Type 0
Happens old (Take answer) new = IsAnswer old answer × IsLeft old answer new
Happens old (Give_back slot) new = IsTaken old slot × (new ≡ remove old slot)
Happens old (Take_stretch count from answer) new =
    IsStretchAnswer old count from answer × IsStretchLeft old count answer new
Happens old (Take_aligned count align answer) new =
    IsAlignedAnswer old count align answer × IsStretchLeft old count answer new
Happens old (Give_back_stretch start count) new =
    IsTakenStretch old count start × (new ≡ remove_range old start (start + count))

-- a run is one call after another
abbrev pub Runs : Bits → List Call → Bits → Type 0
Runs old [] new = new ≡ old
Runs old (call ∷ calls) new = (mid : Bits) × Happens old call mid × Runs mid calls new

-- the call takes the slot, alone or in a stretch
abbrev pub Takes : Call → ℕ → Type 0
Takes (Take (Some taken)) slot = slot ≡ taken
Takes (Take None) slot = ⊥
Takes (Take_stretch count from (Some start)) slot = (start ≤ slot) × (slot < start + count)
Takes (Take_stretch count from None) slot = ⊥
Takes (Take_aligned count align (Some start)) slot = (start ≤ slot) × (slot < start + count)
Takes (Take_aligned count align None) slot = ⊥
Takes (Give_back given) slot = ⊥
Takes (Give_back_stretch start count) slot = ⊥

-- the call gives the slot back, alone or in a stretch
abbrev pub GivesBack : Call → ℕ → Type 0
GivesBack (Give_back given) slot = slot ≡ given
GivesBack (Give_back_stretch start count) slot = (start ≤ slot) × (slot < start + count)
GivesBack (Take answer) slot = ⊥
GivesBack (Take_stretch count from answer) slot = ⊥
GivesBack (Take_aligned count align answer) slot = ⊥
