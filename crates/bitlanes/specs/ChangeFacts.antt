-- The bits that an operation changes are an operation too.
use Rattle.std.proofs.Common.{◌≡◌, ℕ, Bool, true, false, not, ◌&&◌, refl, ap, ◌∙◌}
use Rattle.std.proofs.lemmas.Nat.{xor_lt}
use Rattle.bitlanes.specs.Bits.{bit, either}
use Rattle.bitlanes.specs.BitLaws.{bit-xor}
use Rattle.bitlanes.specs.Changes.{changed_bits, changes}
use Rattle.bitlanes.specs.Ops.{IsWordOp}

lost : (keep x : Bool) → either x (keep && x) ≡ (not keep && x)
lost true true = refl
lost true false = refl
lost false true = refl
lost false false = refl

-- a bit that only the first word has changes if it is not kept, and one that only the second has if it is taken
pub laws_of_changes : {f : ℕ → ℕ → ℕ} {t : Bool → Bool → Bool} {keep take : Bool} → IsWordOp f t keep take
    → IsWordOp (changed_bits f) (changes t) (not keep) take
laws_of_changes {f} {t} {keep} {take} law = record {
  by_bits = λ a b i p q. bit-xor a (f a b) i ∙ ap (either (bit a i)) (law.by_bits a b i p q);
  fits = λ a b p q. xor_lt 64 a (f a b) p (law.fits a b p q);
  of_neither = law.of_neither;
  of_first = λ x. ap (either x) (law.of_first x) ∙ lost keep x;
  of_second = law.of_second;
}
