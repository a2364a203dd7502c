use Rattle.std.proofs.Common.{◌≡◌, ℕ, ◌<◌, List, [], ◌∷◌, ◌++◌, length, take, refl, sym, ap, ◌∙◌, arith}
use Rattle.std.proofs.Math.ListN.{set}
use Rattle.std.proofs.lemmas.Bool.Decides.{nat_tests}
use Rattle.test_callers.proofs.streams.SourceRead.read.Goals as goal

-- the first byte, which was written
first_set : (bytes : List ℕ) (byte : ℕ) → 0 < length bytes → take 1 (set bytes 0 byte) ≡ byte ∷ []
first_set [] byte lt = absurd (omega arith)
first_set (b ∷ bytes) byte lt = refl

pub returns-clause-bytes : goal.returns-clause-bytes
returns-clause-bytes c =
    let room : 0 < length c.args.buffer.now = grind (arith, nat_tests) in (
      c.in-Some.ensures.cases.0
          ∙ ap (λ given. given ++ c.in-Some.rest.now) (sym (first_set c.args.buffer.now c.in-Some.first.now room)),
      λ none. absurd (omega arith),
    )
