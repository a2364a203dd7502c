use Rattle.std.proofs.Common.{arith, take_at}
use Rattle.bitwords.proofs.new_rows.joined.Goals as goal

pub returns-clause-bits : goal.returns-clause-bits
returns-clause-bits g c =
    rw (take_at c.join.new.words _ c.extend_from_slice.new.self.len
    (omega (arith, c.join.ensures.bits.long, c.deref_mut.ensures.len)))
    (rw (
      c.deref_mut.ensures.value,
      c.in_ok-extend_from_slice.ensures.items,
      c.in_ok-new.ensures.items,
    ) at c.join.ensures.bits)

pub returns-clause-exact_if_ok : goal.returns-clause-exact_if_ok
returns-clause-exact_if_ok g c =
    rw (
      c.deref_mut.ensures.value,
      c.in_ok-extend_from_slice.ensures.items,
      c.in_ok-new.ensures.items,
    ) at c.join.ensures.cost
