use Rattle.std.proofs.Common.{ap, ◌∙◌}
use Rattle.bitjson.specs.Bytes.{bytes_of}
use Rattle.fixedbitset.specs.Views.{value}
use Rattle.fixedbitset.proofs.Texts.{bytes_of-words}
use Rattle.fixedbitset.proofs.views.Bits.to_bytes.Goals as goal

pub returns : goal.returns
returns c = c.fill_bytes.ensures ∙ ap bytes_of c.as_slice.ensures.value ∙ bytes_of-words (value c.args.self)
