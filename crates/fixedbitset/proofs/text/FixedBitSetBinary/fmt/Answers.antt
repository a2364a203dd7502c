use Rattle.std.proofs.Common.{refl}
use Rattle.std.proofs.Output.{has_written_styled_append}
use Rattle.fixedbitset.proofs.text.FixedBitSetBinary.fmt.Goals as goal

pub returns : goal.returns
returns g c = λ flush ok.
    let first = c.in_ok-write_prefix.ensures flush refl in
    has_written_styled_append _ _ _ _ _ _ first (c.write_digits.ensures first.flush ok)
