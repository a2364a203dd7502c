-- What a reader of a line returns.
use Rattle.std.specs.Prelude.{◌≡◌, Bool, IsTrue, Option, Some, None, Result, Ok, Err}
use Rattle.bitlines.specs.declared.fault.LineFault.{LineFault}
use Rattle.bitlines.specs.declared.fault.LineFault.TheVariants as fault

-- What a reader of a line returns, seen by view, is what the definition gives: a value, or none; or memory is
-- lacking, where it may be.
abbrev pub Reads : {X Y : Type 0} → Bool → (X → Y) → Result X LineFault → Option Y → Type 0
Reads may_lack_memory view (Ok x) read = read ≡ Some (view x)
Reads may_lack_memory view (Err fault.NotACommand) read = read ≡ None
Reads may_lack_memory view (Err fault.Memory) read = IsTrue may_lack_memory
