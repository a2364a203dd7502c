-- What a clause sees of a set over borrowed words: the value of the words and the length.
use Rattle.std.specs.Prelude.{◌≡◌}
use Rattle.fixedbitset.specs.Bits as model
use Rattle.fixedbitset.specs.declared.views.Bits.{Bits}
use Rattle.fixedbitset.specs.declared.views.BitsMut.{BitsMut}

-- the value of a set that is read
abbrev pub value : Bits → model.Bits
value bits = model.of_words bits.length bits.words.now

-- the value of a set that may be changed
abbrev pub held : BitsMut → model.Bits
held bits = model.of_words bits.length bits.words.now

-- the same words and the same length, and they have the value v
pub record Becomes (old new : BitsMut) (v : model.Bits) : Type 0 where
  pub value : held new ≡ v
  pub length : new.length ≡ old.length
  pub same : new.words.ghost_name ≡ old.words.ghost_name
