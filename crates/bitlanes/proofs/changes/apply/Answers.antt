use Rattle.std.proofs.Common.{ℕ, ◌≡◌, ◌-◌, ◌∙◌, ◌==◌, List, length, take, not, ap, arith}
use Rattle.std.specs.List.{list_all}
use Rattle.std.proofs.lemmas.List.{length-take-le}
use Rattle.bitlanes.specs.Changes.{changed_bits}
use Rattle.bitlanes.proofs.Changing.{changed_lane, changed_part, either_changed}
use Rattle.bitlanes.proofs.Kept.{kept_next, kept_rest, kept_whole}
use Rattle.bitlanes.proofs.Zipping.{all_joined, cut_joined}
use Rattle.bitlanes.proofs.changes.apply.Goals as goal

pub loop-at-preserved : goal.loop-at-preserved
loop-at-preserved g c =
    let f = g.O.WordOp.joined in
    let m = c.min-words.result in
    let at = c.loop-at.at in
    let before = c.loop-at.invariant in
    let old : List ℕ = take m c.args.dst.now in
    let src : List ℕ = take m c.args.src.now in
    let long : length old ≡ m = length-take-le m c.args.dst.now (omega (arith, c.min-words.ensures)) in
    let long_other : length src ≡ m = length-take-le m c.args.src.now (omega (arith, c.min-words.ensures)) in
    record {
      words = rw (
        c.change_lane.ensures.words,
        before.words,
      ) (kept_next f 4 at old src (omega (arith, long, c.loop-at-test.true))
          (omega (arith, long_other, c.loop-at-test.true)));
      changed = cc (changed_lane f old src at _ _ before.words c.change_lane.ensures.changed);
      within = omega (arith, c.loop-at-test.true);
      cost = omega (arith, c.tick.ensures, before.cost);
    }

pub returns-then-rest-gt0-clause-words : goal.returns-then-rest-gt0-clause-words
returns-then-rest-gt0-clause-words g c =
    let before = c.loop-at.invariant in
    rw (c.change_part-part.ensures.words, before.words)
    (kept_rest g.O.WordOp.joined c.min-words.result c.loop-at.at c.args.dst.now c.args.src.now c.min-words.ensures
    before.within)

pub returns-clause-words : goal.returns-clause-words
returns-clause-words g c =
    let before = c.loop-at.invariant in
    rw before.words (kept_whole g.O.WordOp.joined c.min-words.result c.loop-at.at c.args.dst.now c.args.src.now
    c.min-words.ensures (omega (arith, before.within, c.if-rest-gt0.false)))

pub returns-then-rest-gt0-clause-changed : goal.returns-then-rest-gt0-clause-changed
returns-then-rest-gt0-clause-changed g c =
    let f = g.O.WordOp.joined in
    let m = c.min-words.result in
    let at = c.loop-at.at in
    let before = c.loop-at.invariant in
    let old : List ℕ = take m c.args.dst.now in
    let src : List ℕ = take m c.args.src.now in
    let long : length old ≡ m = length-take-le m c.args.dst.now (omega (arith, c.min-words.ensures)) in
    let long_other : length src ≡ m = length-take-le m c.args.src.now (omega (arith, c.min-words.ensures)) in
    let cut =
    ap (list_all
    (λ (word : ℕ). word == 0)) (cut_joined (changed_bits f) m c.args.dst.now c.args.src.now c.min-words.ensures) in
    let all = changed_part f old src at _ _ before.words (m - at) (omega (arith, long, long_other, before.within))
    c.change_part-part.ensures.changed ∙ cut in
    either_changed _ _ _ _ _ (c.is_zero-whole.ensures ∙ before.changed) c.is_zero.ensures all

pub returns-clause-changed : goal.returns-clause-changed
returns-clause-changed g c =
    let f = g.O.WordOp.joined in
    let m = c.min-words.result in
    let at = c.loop-at.at in
    let before = c.loop-at.invariant in
    let old : List ℕ = take m c.args.dst.now in
    let src : List ℕ = take m c.args.src.now in
    let long : length old ≡ m = length-take-le m c.args.dst.now (omega (arith, c.min-words.ensures)) in
    let cut =
    ap (list_all
    (λ (word : ℕ). word == 0)) (cut_joined (changed_bits f) m c.args.dst.now c.args.src.now c.min-words.ensures) in
    ap not (c.is_zero-whole.ensures ∙ before.changed ∙ all_joined (changed_bits f) (λ (word : ℕ).
    word == 0) at old src (omega (arith, long, before.within, c.if-rest-gt0.false)) ∙ cut)
