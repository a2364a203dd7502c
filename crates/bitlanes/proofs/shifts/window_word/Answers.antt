use Rattle.std.proofs.Common.{◌+◌, slice_index, ap, sym, ◌∙◌, arith, rules}
use Rattle.std.proofs.lemmas.List.{get_or_past}
use Rattle.bitlanes.specs.Shifts.{straddle}
use Rattle.bitlanes.proofs.Moved.{straddle_last}
use Rattle.bitlanes.proofs.shifts.window_word.Goals as goal

pub returns-then-at-words : goal.returns-then-at-words
unfolding straddle
returns-then-at-words c = search rules

pub returns-else-at-words : goal.returns-else-at-words
returns-else-at-words c =
    straddle_last c.args.shift (slice_index c.args.words.now c.args.at)
    ∙ ap (straddle c.args.shift (slice_index c.args.words.now c.args.at))
    (sym (get_or_past c.args.words.now (c.args.at + 1) 0 (omega (arith, c.if-at-words.false))))
