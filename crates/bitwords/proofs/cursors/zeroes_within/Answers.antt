use Rattle.std.proofs.Common.{refl, sym, ◌∙◌, ap, map, take, ◌-◌, ◌/◌, drop}
use Rattle.std.specs.Int.{bit_not, w64, div_ceil}
use Rattle.std.specs.List.{take-map, drop-map}
use Rattle.bitwords.proofs.Cut.{within-range}
use Rattle.bitwords.proofs.cursors.zeroes_within.Goals as goal

pub returns : goal.returns
returns c =
    within-range (map (bit_not w64) c.args.words.now) _ c.args.start c.args.end _
    (ap (λ last. map (bit_not w64) (take (last - c.args.start / 64) (drop (c.args.start / 64) c.args.words.now)))
    c.div_ceil.ensures
    ∙ sym (ap (take (div_ceil c.args.end 64 - c.args.start / 64))
    (drop-map (bit_not w64) (c.args.start / 64) c.args.words.now)
    ∙ take-map (bit_not w64) (div_ceil c.args.end 64 - c.args.start / 64) (drop (c.args.start / 64) c.args.words.now)))
    refl c.within.result (rw c.iter.ensures.rest at c.within.ensures)
