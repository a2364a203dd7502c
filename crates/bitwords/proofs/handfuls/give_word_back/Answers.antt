use Rattle.std.proofs.Common.{◌<◌, ◌^◌, ◌∙◌, arith}
use Rattle.bitwords.proofs.Reversed.{positions-reversed, ones-reversed}
use Rattle.bitwords.proofs.handfuls.give_word_back.Goals as goal

pub give_in_order-requires-clause-room : goal.give_in_order-requires-clause-room
give_in_order-requires-clause-room c =
    let fits : c.reversed.result < 2 ^ 64 = omega arith in
    rw (ones-reversed c.args.word c.reversed.result c.reversed.ensures c.ranges.word.fits fits) c.requires.room

pub returns-clause-count : goal.returns-clause-count
returns-clause-count c =
    let fits : c.reversed.result < 2 ^ 64 = omega arith in
    c.give_in_order.ensures.count
    ∙ ones-reversed c.args.word c.reversed.result c.reversed.ensures c.ranges.word.fits fits

pub returns-clause-written : goal.returns-clause-written
returns-clause-written c =
    c.give_in_order.ensures.written
    ∙ positions-reversed c.args.word c.reversed.result c.reversed.ensures c.args.base

pub returns-clause-behind : goal.returns-clause-behind
returns-clause-behind c =
    let fits : c.reversed.result < 2 ^ 64 = omega arith in
    rw (ones-reversed c.args.word c.reversed.result c.reversed.ensures c.ranges.word.fits fits)
    at c.give_in_order.ensures.behind
