-- The depth of a tally: how many steps it has counted.
use Rattle.std.specs.Prelude.{ℕ, ◌+◌}
use Rattle.bitlanes.specs.declared.counter.Tally.{Tally}
use Rattle.bitlanes.specs.declared.counter.Tally.TheVariants.{Zero, Next'}

-- the number that a tally stands for
abbrev pub depth : Tally → ℕ
depth Zero = 0
depth (Next' mark before) = depth before + 1
