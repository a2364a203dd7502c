use Rattle.std.proofs.Common.{◌∙◌, ap, arith, refl}
use Rattle.fixedbitset.specs.Parts.{truncate}
use Rattle.fixedbitset.proofs.Moves.{keeps_truncated, truncate_longer}
use Rattle.fixedbitset.proofs.Words.{viewed_length}
use Rattle.fixedbitset.proofs.set.FixedBitSet.truncate.Goals as goal

pub invariant_of-self : goal.invariant_of-self
invariant_of-self c =
    (keeps_truncated _ c.args.bits c.self.inside.words.items _ _ c.self.invariant c.if-bits-self.true refl
    c.shorten.ensures).clean

pub returns-then-bits-self : goal.returns-then-bits-self
returns-then-bits-self c =
    (keeps_truncated _ c.args.bits c.self.inside.words.items _ _ c.self.invariant c.if-bits-self.true refl
    c.shorten.ensures).value
    ∙ ap (λ v. truncate v c.args.bits) c.self.view_is

pub returns-else-bits-self : goal.returns-else-bits-self
returns-else-bits-self c =
    truncate_longer c.args.self.now c.args.bits (omega (arith, viewed_length _ _ _ c.self.view_is))
