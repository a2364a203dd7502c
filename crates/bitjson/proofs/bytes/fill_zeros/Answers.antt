use Rattle.std.proofs.Common.{arith}
use Rattle.std.proofs.lemmas.Grind.{elements}
use Rattle.bitjson.proofs.Grown.{before_zeros}
use Rattle.bitjson.proofs.bytes.fill_zeros.Goals as goal

pub returns : goal.returns
returns c =
    let whole = before_zeros c.args.source.now c.min-used.result c.args.words.now (omega arith) c.requires.zeros
    (λ k past less. omega arith) in
    grind (arith, elements, whole)
