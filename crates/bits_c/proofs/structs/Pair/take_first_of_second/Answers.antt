use Rattle.std.proofs.Common.{◌++◌, ◌∷◌, [], sym, subst}
use Rattle.std.specs.Iterator.{YieldsFirst}
use Rattle.bits_c.specs.Walks.{lacked_left}
use Rattle.bits_c.proofs.Words.{front_apart}
use Rattle.bitlanes.specs.Bits.{bit_without}
use Rattle.bitwords.specs.WalkedWords.{beside}
use Rattle.bits_c.proofs.structs.Pair.take_first_of_second.Goals as goal

pub returns-clause-joined : goal.returns-clause-joined
returns-clause-joined c =
    let item = c.take_first-item in
    let walk = item.new.self.walk in
    subst (λ all. YieldsFirst (λ all. all) (lacked_left c.args.self.now.second) item.result all)
    (sym (front_apart walk.front_at walk.front
    (beside bit_without walk.words.now item.new.self.other.now ++ walk.back ∷ []))) item.ensures

pub returns-clause-split : goal.returns-clause-split
returns-clause-split c = returns-clause-joined c
