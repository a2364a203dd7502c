use Rattle.std.proofs.Common.{rules}
use Rattle.bitjson.specs.Bytes.{word_of}
use Rattle.bitjson.proofs.values.word_at.Goals as goal

pub returns : goal.returns
unfolding word_of
returns c = search rules steps 300000
