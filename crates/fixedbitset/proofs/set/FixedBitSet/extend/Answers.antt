use Rattle.std.proofs.Common.{◌<◌, ◌-◌, ◌^◌, arith, rules}
use Rattle.std.proofs.lemmas.List.Elements.{All-push}
use Rattle.fixedbitset.specs.AddFacts.{add_all-last}
use Rattle.fixedbitset.proofs.set.FixedBitSet.extend.Goals as goal

pub loop-item-preserved : goal.loop-item-preserved
loop-item-preserved g c = record {
  added = grind (arith, add_all-last) steps 100000;
  positions = All-push (λ item. item < 2 ^ 64 - 1) _ _ c.loop-item.invariant.positions (search rules steps 800000);
}

pub returns-in_err-add_item : goal.returns-in_err-add_item
returns-in_err-add_item g c = grind arith steps 100000

pub returns : goal.returns
returns g c = grind arith
