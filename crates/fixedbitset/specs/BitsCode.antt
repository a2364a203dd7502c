-- No public clause cites this module.
-- Two values of `Bits` are equal if their lengths and their positions are.
use Rattle.std.specs.Prelude.{◌≡◌, ℕ}
use Rattle.std.specs.Ordering.{nat_cmp}
use Rattle.std.specs.FinSet as set
use Rattle.std.specs.FinSet.{FinSet}
use Rattle.std.specs.Coded.{Coded, coded×, coded_ℕ}
use Rattle.std.proofs.Common.{ap}
use base.Stored.{coded_via}
use Rattle.fixedbitset.specs.Bits.{Bits, contains}
use Rattle.fixedbitset.specs.BitsFacts.{same_bits}

pub same_pair : (v w : Bits) → ◌≡◌ {A = ℕ × FinSet nat_cmp} (v.length, v.positions) (w.length, w.positions) → v ≡ w
unfolding contains
same_pair v w e = same_bits v w (ap (λ d. d.0) e) (λ p. ap (λ d. set.contains d.1 p) e)

abbrev pub code : Coded Bits
code = coded_via (coded× coded_ℕ (set.code coded_ℕ)) (λ v. (v.length, v.positions)) same_pair
