use Rattle.fixedbitset.proofs.Texts.{object_of-words}
use Rattle.fixedbitset.proofs.set.FixedBitSet.to_value.Goals as goal

pub returns : goal.returns
returns c = rw (c.len.ensures, c.as_slice.ensures, object_of-words c.args.self.now) at c.value_of_words.ensures
