use Rattle.std.proofs.Common.{ap, arith, ◌+◌}
use Rattle.bitslots.proofs.Taken.{below_stretch_back}
use Rattle.bitslots.proofs.slots.Slots.give_back_stretch.Goals as goal

pub overflow_add-start : goal.overflow_add-start
overflow_add-start c = let long = ap (λ v. v.length) c.self.view_is in omega (arith, c.requires.0)

pub invariant_of-self : goal.invariant_of-self
invariant_of-self c =
    rw (c.remove_range.ensures, c.min-self-inside.ensures)
    (below_stretch_back c.self.inside.taken c.self.inside.low c.self.invariant c.args.start
    (c.args.start + c.args.count))
