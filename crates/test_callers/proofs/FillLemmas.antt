-- What a loop that sets positions keeps.
use Rattle.std.proofs.Common.{◌≡◌, ℕ, Bool, true, false, ◌||◌, ◌==◌, ◌∙◌, refl}
use Rattle.std.proofs.lemmas.Bool.{lt-ltb, and_from}
use Rattle.fixedbitset.specs.Bits.{Bits, contains, insert}
use Rattle.fixedbitset.specs.BitsFacts.{contains-insert, contains_below}

-- what was set before an insertion is set after it
pub contains_stays : (v : Bits) (bit p : ℕ) → contains v p ≡ true → contains (insert v bit) p ≡ true
contains_stays v bit p here =
    contains-insert v bit p ∙ and_from _ _ (either (p == bit) _ here) (lt-ltb p v.length (contains_below v p here))
  where
    either : (a b : Bool) → b ≡ true → (a || b) ≡ true
    either true b h = refl
    either false b h = h
