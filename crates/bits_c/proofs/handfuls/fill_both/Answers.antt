use Rattle.std.proofs.Common.{sym, ◌∙◌}
use Rattle.bits_c.proofs.Takes.{both_takes}
use Rattle.bits_c.proofs.handfuls.fill_both.Goals as goal

pub returns : goal.returns
returns g c =
    let first = c.fill-count.ensures in
    let parts = c.split_at_mut-room.ensures in
    let second = c.fill.ensures in
    rw (
      first.rest,
      second.rest,
    ) (both_takes _ _ _ _ _ _ _ _ first.answer (sym parts.value ∙ first.written) parts.front_len second.answer
    second.written)
