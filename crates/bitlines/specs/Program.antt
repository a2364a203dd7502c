-- What the program reads, and how it ends.
use Rattle.std.specs.Prelude.{ℕ, List, Option, Result, Ok, Err}
use Rattle.std.specs.Io.KnownBytes.{Consumes, IsAtEnd}
use Rattle.bitlines.specs.declared.program.RunFault.{RunFault}
use Rattle.bitlines.specs.declared.program.RunFault.TheVariants.{Read, Write, Memory}

-- the input is all that the reader had left
abbrev pub IsRead : {R : Type 0} → (R → Option (List ℕ)) → R → R → List ℕ → Type 0
IsRead remaining old new input = Consumes (remaining old) (remaining new) input × IsAtEnd (remaining new)

-- the exit status
abbrev pub status_of : Result (Unit {0}) RunFault → ℕ
status_of (Ok u) = 0
status_of (Err Read) = 1
status_of (Err Write) = 2
status_of (Err Memory) = 3
