use Rattle.std.proofs.Common.{sym, ap, ◌∙◌, length}
use Rattle.std.specs.Slice.Iter.{iter_rest}
use Rattle.bitwords.specs.BesideFacts.{length-beside}
use Rattle.bits_c.proofs.structs.Sieve.of.Goals as goal

pub invariant_of-result : goal.invariant_of-result
invariant_of-result g c =
    let held = c.into_held-held in
    record {
      spaced =
          rw c.as_slice.ensures.value
          (rw (length-beside g.O.WordOp.joined (iter_rest held.result.middle.plain.words)
          held.result.middle.other.now) at held.ensures.spaced);
    }

pub returns-clause-words : goal.returns-clause-words
returns-clause-words g c =
    let held = c.into_held-held in
    rw c.as_slice.ensures.value
    (sym (length-beside g.O.WordOp.joined (iter_rest held.result.middle.plain.words) held.result.middle.other.now)
    ∙ ap length held.ensures.words)
