use Rattle.std.proofs.Common.{refl, rules}
use Rattle.fixedbitset.proofs.set.FixedBitSet.from_iter.Goals as goal

pub returns-in_err-extend : goal.returns-in_err-extend
returns-in_err-extend g c =
    let (it, becomes, run) = c.in_err-extend.ensures in (
      it,
      c.extend.new.self,
      becomes,
      record { taken = run.taken; positions = run.positions; added = cc; next = search rules steps 800000 },
      search rules steps 800000,
    )

pub returns : goal.returns
returns g c =
    let (it, becomes, run) = c.in_ok-extend.ensures in (
      it,
      c.extend.new.self,
      becomes,
      record { taken = run.taken; positions = run.positions; added = cc; next = run.next },
      refl,
    )
