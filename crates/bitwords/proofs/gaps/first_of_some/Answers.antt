use Rattle.std.proofs.Common.{◌≡◌, ℕ, ◌+◌, ◌-◌, ◌*◌, ◌/◌, ◌<◌, ◌≤◌, ◌==◌, false}
use Rattle.std.proofs.Common.{length, get_or, bit_or, sym, ap, ◌∙◌, arith}
use Rattle.std.specs.Int.{bit_not, w64}
use Rattle.std.proofs.lemmas.List.{length-take-le}
use Rattle.std.proofs.lemmas.Nat.{or_lt}
use Rattle.std.proofs.lemmas.Nat.Bits.{bit_at-zero}
use Rattle.bitlanes.specs.Bits.{bit}
use Rattle.bitwords.specs.Gaps.{has_run}
use Rattle.bitwords.specs.Rows.{has_bit}
use Rattle.bitwords.proofs.Rooms.{free, room_found, room_none, room_before, open_on, open_over, open_past}
use Rattle.bitwords.proofs.Rooms.{open_behind, ends_later, room_inside, none_inside, run_within}
use Rattle.bitwords.proofs.Rooms.{room_after, word_is, begins_before, begins_past, mask_behind, clear_over}
use Rattle.bitwords.proofs.Rooms.{full_over, steps_least, steps_most, steps_exact, spent_at, spent_over}
use Rattle.bitwords.proofs.gaps.first_of_some.Goals as goal

pub returns-then-begin-count-clause-gap : goal.returns-then-begin-count-clause-gap
returns-then-begin-count-clause-gap c =
    let inv = c.loop-begin.invariant in
    let ws = c.args.words.now in
    let f = free (has_bit ws) c.args.from in
    let x = c.loop-begin.index in
    let is = word_is ws c.args.from x c.loop-begin.mask inv.masked in
    room_found (has_bit ws) c.args.end c.args.count c.args.from c.loop-begin.begin inv.after inv.within
    (room_before f c.args.count (64 * x) _ c.loop-begin.begin c.requires.some is inv.opened c.clear_below.result
    c.clear_below.ensures.within c.clear_below.ensures.clear (omega (arith, c.if-begin-count.true)))
    (λ q above below. inv.opened.none q below)

pub returns-then-begin-count-clause-cost : goal.returns-then-begin-count-clause-cost
returns-then-begin-count-clause-cost c =
    let inv = c.loop-begin.invariant in
    let x = c.loop-begin.index in
    let spent = spent_at c.args.steps.now c.loop-begin.steps c.tick_at.new.steps (x - c.args.from / 64) inv.cost
    c.tick_at.ensures in
    steps_exact c.args.from (c.loop-begin.begin + c.args.count) x inv.first c.args.steps.now _ spent
    (omega (arith, inv.after, c.requires.some)) inv.needed
    (omega (arith, c.if-begin-count.true, c.clear_below.ensures.within))

pub returns-then-begin-count-clause-bound : goal.returns-then-begin-count-clause-bound
returns-then-begin-count-clause-bound c =
    let inv = c.loop-begin.invariant in
    let x = c.loop-begin.index in
    let spent = spent_at c.args.steps.now c.loop-begin.steps c.tick_at.new.steps (x - c.args.from / 64) inv.cost
    c.tick_at.ensures in
    steps_most c.args.from (c.args.end) x inv.first c.args.steps.now _ spent
    (omega (arith, inv.after, inv.within, c.requires.some)) (omega (arith, inv.needed, inv.within))

pub next_lane-index-requires-clause-within : goal.next_lane-index-requires-clause-within
next_lane-index-requires-clause-within c =
    let inv = c.loop-begin.invariant in
    let x = c.loop-begin.index in
    let stop : (c.loop-begin.begin + c.args.count - 1) / 64 ≤ length c.args.words.now =
    omega (arith, inv.within, c.requires.within) in
    omega (
      arith,
      c.if-begin-count.false,
      c.clear_below.ensures.none c.if-word-eq0.true,
      length-take-le ((c.loop-begin.begin + c.args.count - 1) / 64) c.args.words.now stop,
    )

pub next_lane-index-requires-then-word-clause-within : goal.next_lane-index-requires-then-word-clause-within
next_lane-index-requires-then-word-clause-within c =
    let inv = c.loop-begin.invariant in
    let x = c.loop-begin.index in
    let stop : c.div_ceil-stop.result ≤ length c.args.words.now =
    omega (arith, c.div_ceil-stop.ensures, c.requires.within) in
    omega (
      arith,
      inv.needed,
      inv.within,
      c.div_ceil-stop.ensures,
      length-take-le c.div_ceil-stop.result c.args.words.now stop,
    )

pub loop-begin-preserved-then-word-eq0 : goal.loop-begin-preserved-then-word-eq0
loop-begin-preserved-then-word-eq0 c =
    let inv = c.loop-begin.invariant in
    let ws = c.args.words.now in
    let f = free (has_bit ws) c.args.from in
    let x = c.loop-begin.index in
    let is = word_is ws c.args.from x c.loop-begin.mask inv.masked in
    let next = c.next_lane-index.result in
    let over = c.next_lane-index.ensures in
    let last : ℕ = (c.loop-begin.begin + c.args.count - 1) / 64 in
    let stop : last ≤ length ws = omega (arith, inv.within, c.requires.within) in
    let below : next ≤ last = omega (arith, over.inside, length-take-le last ws stop) in
    let clear = clear_over ws (λ k. (c.type_inv.words k).fits) (x + 1) next last below stop over.zeros in
    let on = open_on f c.args.count (64 * x) _ c.loop-begin.begin c.requires.some is inv.opened c.if-word-eq0.true in
    let before = begins_before ws c.args.from x c.loop-begin.mask inv.masked c.loop-begin.begin c.if-word-eq0.true
    inv.near in
    let spent = spent_at c.args.steps.now c.loop-begin.steps c.tick_at.new.steps (x - c.args.from / 64) inv.cost
    c.tick_at.ensures in
    record {
      masked = mask_behind c.args.from next (omega (arith, inv.after, before, over.after));
      after = inv.after;
      within = inv.within;
      near = λ past. absurd (omega (arith, past, before, over.after));
      first = omega (arith, inv.first, over.after);
      opened = open_over ws c.args.from c.args.count (64 * x + 64) (64 * next) c.loop-begin.begin inv.after on
          (λ p above upto. clear p (omega (arith, above)) upto);
      needed = omega (arith, below, c.requires.some);
      cost = spent_over c.args.steps.now _ _ (c.args.from / 64) x next inv.first over.after spent over.cost;
    }

pub returns-then-last-index-clause-gap : goal.returns-then-last-index-clause-gap
returns-then-last-index-clause-gap c =
    let inv = c.loop-begin.invariant in
    let ws = c.args.words.now in
    let f = free (has_bit ws) c.args.from in
    let x = c.loop-begin.index in
    let is = word_is ws c.args.from x c.loop-begin.mask inv.masked in
    let lowest = c.clear_below.ensures.lowest c.if-word-eq0.false in
    let short : 64 * x + c.clear_below.result < c.loop-begin.begin + c.args.count =
    omega (arith, c.if-begin-count.false) in
    let next = c.next_lane-index-then-word.result in
    let over = c.next_lane-index-then-word.ensures in
    let stop : c.div_ceil-stop.result ≤ length ws = omega (arith, c.div_ceil-stop.ensures, c.requires.within) in
    let full = full_over ws (λ k. (c.type_inv.words k).fits) (x + 1) next c.div_ceil-stop.result
    (omega (arith, over.inside, length-take-le c.div_ceil-stop.result ws stop)) stop over.zeros in
    let past = open_past ws c.args.from x c.loop-begin.mask next inv.masked c.if-word.true full c.args.count
    c.loop-begin.begin c.clear_below.result c.requires.some inv.opened lowest short in
    room_none (has_bit ws) c.args.end c.args.count c.args.from
    (λ q above ends. past.none q (omega (arith, c.if-last-index.true)))

pub returns-then-last-index-clause-bound : goal.returns-then-last-index-clause-bound
returns-then-last-index-clause-bound c =
    let inv = c.loop-begin.invariant in
    let x = c.loop-begin.index in
    let spent = spent_at c.args.steps.now c.loop-begin.steps c.tick_at.new.steps (x - c.args.from / 64) inv.cost
    c.tick_at.ensures in
    let next = c.next_lane-index-then-word.result in
    let over = c.next_lane-index-then-word.ensures in
    let behind = spent_over c.args.steps.now _ _ (c.args.from / 64) x next inv.first over.after spent over.cost in
    let shown : next - c.args.from / 64 ≡ next - 1 - c.args.from / 64 + 1 = omega (arith, inv.first, over.after) in
    let stop : c.div_ceil-stop.result ≤ length c.args.words.now =
    omega (arith, c.div_ceil-stop.ensures, c.requires.within) in
    steps_most c.args.from c.args.end (next - 1) (omega (arith, inv.first, over.after)) c.args.steps.now _
    (rw shown at behind) (omega (arith, inv.after, inv.within, c.requires.some))
    (omega (
      arith,
      over.inside,
      length-take-le c.div_ceil-stop.result c.args.words.now stop,
      c.div_ceil-stop.ensures,
      over.after,
    ))

pub returns-then-last-index-clause-missed : goal.returns-then-last-index-clause-missed
returns-then-last-index-clause-missed c =
    let inv = c.loop-begin.invariant in
    let x = c.loop-begin.index in
    let spent = spent_at c.args.steps.now c.loop-begin.steps c.tick_at.new.steps (x - c.args.from / 64) inv.cost
    c.tick_at.ensures in
    let next = c.next_lane-index-then-word.result in
    let over = c.next_lane-index-then-word.ensures in
    let behind = spent_over c.args.steps.now _ _ (c.args.from / 64) x next inv.first over.after spent over.cost in
    let shown : next - c.args.from / 64 ≡ next - 1 - c.args.from / 64 + 1 = omega (arith, inv.first, over.after) in
    steps_least c.args.from (c.args.end + 1 - c.args.count) (next - 1) (omega (arith, inv.first, over.after))
    c.args.steps.now _ (rw shown at behind) (omega (arith, c.if-last-index.true, over.after))

pub loop-begin-preserved-then-word : goal.loop-begin-preserved-then-word
loop-begin-preserved-then-word c =
    let inv = c.loop-begin.invariant in
    let ws = c.args.words.now in
    let f = free (has_bit ws) c.args.from in
    let x = c.loop-begin.index in
    let is = word_is ws c.args.from x c.loop-begin.mask inv.masked in
    let lowest = c.clear_below.ensures.lowest c.if-word-eq0.false in
    let short : 64 * x + c.clear_below.result < c.loop-begin.begin + c.args.count =
    omega (arith, c.if-begin-count.false) in
    let next = c.next_lane-index-then-word.result in
    let over = c.next_lane-index-then-word.ensures in
    let stop : c.div_ceil-stop.result ≤ length ws = omega (arith, c.div_ceil-stop.ensures, c.requires.within) in
    let full = full_over ws (λ k. (c.type_inv.words k).fits) (x + 1) next c.div_ceil-stop.result
    (omega (arith, over.inside, length-take-le c.div_ceil-stop.result ws stop)) stop over.zeros in
    let past = open_past ws c.args.from x c.loop-begin.mask next inv.masked c.if-word.true full c.args.count
    c.loop-begin.begin c.clear_below.result c.requires.some inv.opened lowest short in
    let spent = spent_at c.args.steps.now c.loop-begin.steps c.tick_at.new.steps (x - c.args.from / 64) inv.cost
    c.tick_at.ensures in
    record {
      masked = mask_behind c.args.from next (omega (arith, inv.first, over.after));
      after = omega (arith, inv.first, over.after);
      within = omega (arith, c.if-last-index.false, c.requires.enough);
      near = λ before. absurd (omega (arith, before));
      first = omega (arith, inv.first, over.after);
      opened = past;
      needed = omega (arith, c.requires.some);
      cost = spent_over c.args.steps.now _ _ (c.args.from / 64) x next inv.first over.after spent over.cost;
    }

pub returns-then-start-last-clause-gap : goal.returns-then-start-last-clause-gap
returns-then-start-last-clause-gap c =
    let inv = c.loop-begin.invariant in
    let ws = c.args.words.now in
    let f = free (has_bit ws) c.args.from in
    let x = c.loop-begin.index in
    let is = word_is ws c.args.from x c.loop-begin.mask inv.masked in
    let lowest = c.clear_below.ensures.lowest c.if-word-eq0.false in
    let short : 64 * x + c.clear_below.result < c.loop-begin.begin + c.args.count =
    omega (arith, c.if-begin-count.false) in
    let fits = or_lt 64 (get_or ws x 0) c.loop-begin.mask (c.type_inv.words x).fits c.loop-begin.auto.mask-fits.fits in
    let k = c.lowest_bit.result in
    let within = run_within f c.args.count (64 * x) _ c.loop-begin.begin c.requires.some is inv.opened
    c.clear_below.result lowest short fits c.run_starts-starts.result k c.run_starts-starts.ensures
    c.lowest_bit.ensures in
    let none = none_inside f c.args.count (64 * x) _ c.loop-begin.begin c.requires.some is inv.opened
    c.clear_below.result lowest short fits c.run_starts-starts.result k c.run_starts-starts.ensures
    c.lowest_bit.ensures within in
    let room = room_inside f c.args.count (64 * x) _ c.loop-begin.begin c.requires.some is inv.opened
    c.clear_below.result lowest short fits c.run_starts-starts.result k c.run_starts-starts.ensures
    c.lowest_bit.ensures within in
    room_found (has_bit ws) c.args.end c.args.count c.args.from (64 * x + k)
    (room_after (has_bit ws) c.args.count c.args.from (64 * x + k) c.requires.some room)
    (omega (arith, c.if-start-last.true, c.requires.enough)) room (λ q above below. none q below)

pub returns-then-start-last-clause-cost : goal.returns-then-start-last-clause-cost
returns-then-start-last-clause-cost c =
    let inv = c.loop-begin.invariant in
    let ws = c.args.words.now in
    let f = free (has_bit ws) c.args.from in
    let x = c.loop-begin.index in
    let is = word_is ws c.args.from x c.loop-begin.mask inv.masked in
    let lowest = c.clear_below.ensures.lowest c.if-word-eq0.false in
    let short : 64 * x + c.clear_below.result < c.loop-begin.begin + c.args.count =
    omega (arith, c.if-begin-count.false) in
    let fits = or_lt 64 (get_or ws x 0) c.loop-begin.mask (c.type_inv.words x).fits c.loop-begin.auto.mask-fits.fits in
    let k = c.lowest_bit.result in
    let within = run_within f c.args.count (64 * x) _ c.loop-begin.begin c.requires.some is inv.opened
    c.clear_below.result lowest short fits c.run_starts-starts.result k c.run_starts-starts.ensures
    c.lowest_bit.ensures in
    let none = none_inside f c.args.count (64 * x) _ c.loop-begin.begin c.requires.some is inv.opened
    c.clear_below.result lowest short fits c.run_starts-starts.result k c.run_starts-starts.ensures
    c.lowest_bit.ensures within in
    let room = room_inside f c.args.count (64 * x) _ c.loop-begin.begin c.requires.some is inv.opened
    c.clear_below.result lowest short fits c.run_starts-starts.result k c.run_starts-starts.ensures
    c.lowest_bit.ensures within in
    let after = room_after (has_bit ws) c.args.count c.args.from (64 * x + k) c.requires.some room in
    let spent = spent_at c.args.steps.now c.loop-begin.steps c.tick_at.new.steps (x - c.args.from / 64) inv.cost
    c.tick_at.ensures in
    steps_exact c.args.from (64 * x + k + c.args.count) x inv.first c.args.steps.now _ spent
    (omega (arith, after, c.requires.some)) (omega (arith, c.requires.some)) (omega (arith, within))

pub returns-then-start-last-clause-bound : goal.returns-then-start-last-clause-bound
returns-then-start-last-clause-bound c =
    let inv = c.loop-begin.invariant in
    let x = c.loop-begin.index in
    let spent = spent_at c.args.steps.now c.loop-begin.steps c.tick_at.new.steps (x - c.args.from / 64) inv.cost
    c.tick_at.ensures in
    steps_most c.args.from (c.args.end) x inv.first c.args.steps.now _ spent
    (omega (arith, inv.after, inv.within, c.requires.some)) (omega (arith, inv.needed, inv.within))

pub returns-else-start-last-clause-gap : goal.returns-else-start-last-clause-gap
returns-else-start-last-clause-gap c =
    let inv = c.loop-begin.invariant in
    let ws = c.args.words.now in
    let f = free (has_bit ws) c.args.from in
    let x = c.loop-begin.index in
    let is = word_is ws c.args.from x c.loop-begin.mask inv.masked in
    let lowest = c.clear_below.ensures.lowest c.if-word-eq0.false in
    let short : 64 * x + c.clear_below.result < c.loop-begin.begin + c.args.count =
    omega (arith, c.if-begin-count.false) in
    let fits = or_lt 64 (get_or ws x 0) c.loop-begin.mask (c.type_inv.words x).fits c.loop-begin.auto.mask-fits.fits in
    let k = c.lowest_bit.result in
    let within = run_within f c.args.count (64 * x) _ c.loop-begin.begin c.requires.some is inv.opened
    c.clear_below.result lowest short fits c.run_starts-starts.result k c.run_starts-starts.ensures
    c.lowest_bit.ensures in
    let none = none_inside f c.args.count (64 * x) _ c.loop-begin.begin c.requires.some is inv.opened
    c.clear_below.result lowest short fits c.run_starts-starts.result k c.run_starts-starts.ensures
    c.lowest_bit.ensures within in
    room_none (has_bit ws) c.args.end c.args.count c.args.from
    (λ q above ends. none q (omega (arith, c.if-start-last.false)))

pub returns-else-start-last-clause-bound : goal.returns-else-start-last-clause-bound
returns-else-start-last-clause-bound c =
    let inv = c.loop-begin.invariant in
    let x = c.loop-begin.index in
    let spent = spent_at c.args.steps.now c.loop-begin.steps c.tick_at.new.steps (x - c.args.from / 64) inv.cost
    c.tick_at.ensures in
    steps_most c.args.from (c.args.end) x inv.first c.args.steps.now _ spent
    (omega (arith, inv.after, inv.within, c.requires.some)) (omega (arith, inv.needed, inv.within))

pub returns-else-start-last-clause-missed : goal.returns-else-start-last-clause-missed
returns-else-start-last-clause-missed c =
    let inv = c.loop-begin.invariant in
    let x = c.loop-begin.index in
    let spent = spent_at c.args.steps.now c.loop-begin.steps c.tick_at.new.steps (x - c.args.from / 64) inv.cost
    c.tick_at.ensures in
    steps_least c.args.from (c.args.end + 1 - c.args.count) x inv.first c.args.steps.now _ spent
    (omega (arith, c.if-start-last.false, c.lowest_bit.ensures.within))

pub returns-then-last-taken-clause-gap : goal.returns-then-last-taken-clause-gap
returns-then-last-taken-clause-gap c =
    let inv = c.loop-begin.invariant in
    let ws = c.args.words.now in
    let f = free (has_bit ws) c.args.from in
    let x = c.loop-begin.index in
    let is = word_is ws c.args.from x c.loop-begin.mask inv.masked in
    let lowest = c.clear_below.ensures.lowest c.if-word-eq0.false in
    let short : 64 * x + c.clear_below.result < c.loop-begin.begin + c.args.count =
    omega (arith, c.if-begin-count.false) in
    let fits = or_lt 64 (get_or ws x 0) c.loop-begin.mask (c.type_inv.words x).fits c.loop-begin.auto.mask-fits.fits in
    let no_runs : (i : ℕ) → i + c.args.count ≤ 64
    → has_run (bit_not w64 (bit_or (get_or ws x 0) c.loop-begin.mask)) c.args.count i ≡ false =
    λ i _. sym (c.run_starts-starts.ensures i) ∙ ap (λ w. bit w i) c.if-starts-ne0.false
    ∙ ap (λ d. d == 1) (bit_at-zero i) in
    let behind = open_behind f c.args.count (64 * x) _ c.loop-begin.begin c.requires.some is inv.opened
    c.clear_below.result lowest short fits c.highest_bit.result c.highest_bit.ensures no_runs in
    room_none (has_bit ws) c.args.end c.args.count c.args.from
    (λ q above ends. behind.none q (omega (arith, c.if-last-taken.true)))

pub returns-then-last-taken-clause-bound : goal.returns-then-last-taken-clause-bound
returns-then-last-taken-clause-bound c =
    let inv = c.loop-begin.invariant in
    let x = c.loop-begin.index in
    let spent = spent_at c.args.steps.now c.loop-begin.steps c.tick_at.new.steps (x - c.args.from / 64) inv.cost
    c.tick_at.ensures in
    steps_most c.args.from (c.args.end) x inv.first c.args.steps.now _ spent
    (omega (arith, inv.after, inv.within, c.requires.some)) (omega (arith, inv.needed, inv.within))

pub returns-then-last-taken-clause-missed : goal.returns-then-last-taken-clause-missed
returns-then-last-taken-clause-missed c =
    let inv = c.loop-begin.invariant in
    let x = c.loop-begin.index in
    let spent = spent_at c.args.steps.now c.loop-begin.steps c.tick_at.new.steps (x - c.args.from / 64) inv.cost
    c.tick_at.ensures in
    steps_least c.args.from (c.args.end + 1 - c.args.count) x inv.first c.args.steps.now _ spent
    (omega (arith, c.if-last-taken.true, c.highest_bit.ensures.within))

pub loop-begin-preserved : goal.loop-begin-preserved
loop-begin-preserved c =
    let inv = c.loop-begin.invariant in
    let ws = c.args.words.now in
    let f = free (has_bit ws) c.args.from in
    let x = c.loop-begin.index in
    let is = word_is ws c.args.from x c.loop-begin.mask inv.masked in
    let lowest = c.clear_below.ensures.lowest c.if-word-eq0.false in
    let short : 64 * x + c.clear_below.result < c.loop-begin.begin + c.args.count =
    omega (arith, c.if-begin-count.false) in
    let fits = or_lt 64 (get_or ws x 0) c.loop-begin.mask (c.type_inv.words x).fits c.loop-begin.auto.mask-fits.fits in
    let no_runs : (i : ℕ) → i + c.args.count ≤ 64
    → has_run (bit_not w64 (bit_or (get_or ws x 0) c.loop-begin.mask)) c.args.count i ≡ false =
    λ i _. sym (c.run_starts-starts.ensures i) ∙ ap (λ w. bit w i) c.if-starts-ne0.false
    ∙ ap (λ d. d == 1) (bit_at-zero i) in
    let behind = open_behind f c.args.count (64 * x) _ c.loop-begin.begin c.requires.some is inv.opened
    c.clear_below.result lowest short fits c.highest_bit.result c.highest_bit.ensures no_runs in
    let spent = spent_at c.args.steps.now c.loop-begin.steps c.tick_at.new.steps (x - c.args.from / 64) inv.cost
    c.tick_at.ensures in
    let later = ends_later f c.args.count (64 * x) _ c.loop-begin.begin c.requires.some is inv.opened
    c.clear_below.result lowest short fits c.highest_bit.result c.highest_bit.ensures no_runs in
    let next : 64 * x + 64 ≡ 64 * (x + 1) = omega arith in
    record {
      masked = mask_behind c.args.from (x + 1) (omega (arith, inv.first));
      after = begins_past ws c.args.from x c.loop-begin.mask inv.masked c.highest_bit.result c.highest_bit.ensures;
      within = omega (arith, c.if-last-taken.false, c.requires.enough);
      near = λ past. absurd (omega (arith, past, c.highest_bit.ensures.within));
      first = omega (arith, inv.first);
      opened = rw next at behind;
      needed = omega (arith, later);
      cost = omega (arith, spent, inv.first);
    }
