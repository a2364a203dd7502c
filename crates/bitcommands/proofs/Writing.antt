-- A text that is written through a formatter, part by part.
use Rattle.std.proofs.Common.{List, ℕ}
use Rattle.std.specs.Fmt.{HasWritten, IsPlainFormatter}
use Rattle.std.specs.declared.fmt.Formatter.{Formatter}

-- f has begun to write the whole text: what is left, written through the plain formatter g, ends it
pub record HasBegun {W : Type 0} (took : W → List ℕ → W → Type 0) (f : Formatter W) (left whole : List ℕ)
    (g : Formatter W) : Type 0 where
  pub plain : IsPlainFormatter g
  pub ends : (h : Formatter W) → HasWritten took g left h → HasWritten took f whole h
