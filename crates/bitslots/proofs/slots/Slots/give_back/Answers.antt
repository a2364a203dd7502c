use Rattle.std.proofs.Common.{◌∙◌, ap, arith}
use Rattle.fixedbitset.specs.Bits.{remove}
use Rattle.fixedbitset.specs.BitsFacts.{contains_below}
use Rattle.bitslots.specs.Slots.{free_count}
use Rattle.bitslots.proofs.Taken.{below_back}
use Rattle.fixedbitset.specs.SizeFacts.{count_zeroes-remove}
use Rattle.bitslots.proofs.slots.Slots.give_back.Goals as goal

pub remove-requires : goal.remove-requires
remove-requires c =
    let h = contains_below c.args.self.now c.args.slot c.requires in
    let long = ap (λ v. v.length) c.self.view_is in
    omega arith

pub returns-clause-left : goal.returns-clause-left
returns-clause-left c =
    ap free_count (c.remove.ensures ∙ ap (λ v. remove v c.args.slot) c.self.view_is)
    ∙ count_zeroes-remove c.args.self.now c.args.slot c.requires

pub invariant_of-self : goal.invariant_of-self
invariant_of-self c =
    rw (c.remove.ensures, c.min-self-inside.ensures)
    (below_back c.self.inside.taken c.self.inside.low c.self.invariant c.args.slot)
