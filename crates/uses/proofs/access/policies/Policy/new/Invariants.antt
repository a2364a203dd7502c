use Rattle.std.proofs.Common.{◌≡◌, length, All}
use Rattle.fixedbitset.specs.Bits.{empty}
use Rattle.uses.proofs.access.policies.Policy.new.Given as goal

abbrev pub invariant-loop : goal.invariant-loop
invariant-loop l =
    record { many : length l.sets.items ≡ l.counter; blank : All (λ role. role ≡ empty l.rights) l.sets.items }
