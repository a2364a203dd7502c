-- The value of the words that come from an iterator, for those who call a set.
use Rattle.std.proofs.Common.{map-id, get_or-take, ◌≡◌, ℕ, ◌/◌, ◌%◌, ◌<◌, ◌≤◌, List, length}
use Rattle.std.proofs.Common.{take, Option, sym, ap, ◌∙◌, arith, refl, None, ⊎_elim}
use Rattle.std.specs.Iterator.Runs.{YieldsRun}
use Rattle.std.proofs.lemmas.Bool.{cases_lt}
use Rattle.std.proofs.lemmas.Bool.Decides.{nat_tests}
use Rattle.std.proofs.lemmas.Iterator.{YieldsList}
use Rattle.std.proofs.lemmas.Iterator.Consumers.{YieldsList-so_far, YieldsList-end, YieldsList-at}
use Rattle.bitlanes.specs.Bits.{bit}
use Rattle.bitwords.specs.Rows.{has_bit}
use Rattle.fixedbitset.specs.Bits.{Bits, words_needed, of_words}
use Rattle.fixedbitset.specs.BitsFacts.{same_bits}
use Rattle.fixedbitset.specs.WordsFacts.{length-of_words, contains-of_words}
use Rattle.fixedbitset.specs.Blocks.{FirstItems}

pub has_bit-take : (n k p : ℕ) (ws : List ℕ) → words_needed n ≤ k → p < n → has_bit (take k ws) p ≡ has_bit ws p
unfolding has_bit
has_bit-take n k p ws enough inside = ap (λ w. bit w (p % 64)) (get_or-take k ws (p / 64) 0 (omega arith))

-- words past those that the length needs do not count
pub of_words-take : (n k : ℕ) (ws : List ℕ) → words_needed n ≤ k → of_words n (take k ws) ≡ of_words n ws
of_words-take n k ws enough =
    same_bits _ _ (omega (arith, length-of_words)) (λ p. let same = has_bit-take n k p ws enough in
    grind (arith, nat_tests, contains-of_words, same))

-- an iterator that gives these blocks
pub first_blocks : {S : Type 0} {steps : S → Option ℕ → S → Type 0} {s : S} {blocks : List ℕ} (n : ℕ) (v : Bits)
    → FirstItems steps s (words_needed n) (λ words. v ≡ of_words n words) → YieldsList steps (λ x. x) s blocks
    → v ≡ of_words n blocks
unfolding YieldsRun
first_blocks {S} {steps} {s} {blocks} n v h from_s =
    let run = h.0 in
    let road = YieldsList-at h.1 from_s in
    let gave = run.gave.0 in
    let front = sym (map-id run.items) ∙ YieldsList-so_far road run.items gave.0 gave.1 in
    h.2.2 ∙ ⊎_elim
    (λ (few : length run.items < words_needed n).
    let end = gave.2 (h.2.1 few) in
    ap (of_words n) (sym (map-id run.items) ∙ (YieldsList-end road run.items gave.0 gave.1 None end.0 refl end.1).0))
    (λ (enough : words_needed n ≤ length run.items).
    ap (of_words n) front ∙ of_words-take n (length run.items) blocks enough)
    (cases_lt (length run.items) (words_needed n))
