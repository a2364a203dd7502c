use Rattle.fixedbitset.proofs.Texts.{bytes_of-words}
use Rattle.fixedbitset.proofs.set.FixedBitSet.to_bytes.Goals as goal

pub returns : goal.returns
returns c = rw (c.as_slice.ensures, bytes_of-words c.args.self.now) at c.bytes_of_words.ensures
