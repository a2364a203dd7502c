use Rattle.std.proofs.Common.{rules, ◌≡◌, ◌+◌, ◌<◌, ◌≤◌, ◌⊎◌, inl, inr, ℕ, arith}
use Rattle.std.proofs.lemmas.List.{take_more}
use Rattle.std.proofs.lemmas.List.Elements.{All-push}
use Rattle.uses.proofs.LettersRead.{no_variables, space_more, letter_more}
use Rattle.uses.proofs.live.variables_of.Goals as goal
use Rattle.uses.proofs.live.variables_of.Goals.{in-32, in-97-to-122}

-- a space or one of the letters
abbrev IsLetter : ℕ → Type 0
IsLetter b = (b ≡ 32) ⊎ ((97 ≤ b) × (b < 97 + 26))

pub loop-byte-init : goal.loop-byte-init
loop-byte-init c = record { letters = λ k d h. absurd (omega arith); variables = rw c.in_ok-set.ensures no_variables }

pub loop-byte-preserved : goal.loop-byte-preserved
loop-byte-preserved c =
    let bytes = c.as_bytes-byte-items.result.now in
    let i = c.loop-byte.byte-index in
    let before = c.loop-byte.invariant in
    rw (take_more bytes i 0 c.loop-byte-test.true)
    (elim c.match-byte.branch [
      | in-32 w ↦ record {
        letters = All-push IsLetter _ _ before.letters (inl w.in-32.is);
        variables = rw w.set-is (space_more _ _ _ w.in-32.is before.variables);
      }
      | in-97-to-122 w ↦ record {
        letters = All-push IsLetter _ _ before.letters (inr (search rules));
        variables = rw (w.set-is, w.insert.ensures, w.from.ensures)
            (letter_more _ _ _ (search rules) (search rules) before.variables);
      }
    ])

pub returns-in_default : goal.returns-in_default
returns-in_default c = search rules steps 300000
