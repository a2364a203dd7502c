use Rattle.std.proofs.Common.{ℕ, ◌≡◌, ◌-◌, ◌∙◌, ◌==◌, List, length, min, take, not, ap, arith}
use Rattle.std.specs.List.{list_all}
use Rattle.std.specs.Simd.Lanes.{zip2}
use Rattle.std.proofs.lemmas.List.{length-take-le}
use Rattle.bitlanes.specs.Changes.{changed_bits}
use Rattle.bitlanes.specs.ChangeFacts.{laws_of_changes}
use Rattle.bitlanes.proofs.Changing.{changed_lane, changed_part, either_changed}
use Rattle.bitlanes.proofs.Filling.{filled_joined, take_filled, nothing_joined}
use Rattle.bitlanes.proofs.Kept.{kept_next, kept_rest, kept_whole}
use Rattle.bitlanes.proofs.Zipping.{all_joined, cut_joined, length_joined, take-zip2}
use Rattle.bitlanes.proofs.changes.apply_joined.Goals as goal

pub loop-at-preserved : goal.loop-at-preserved
loop-at-preserved g c =
    let f = g.O.WordOp.joined in
    let t = g.T.WordOp.joined in
    let m = c.min-words.result in
    let at = c.loop-at.at in
    let before = c.loop-at.invariant in
    let old : List ℕ = take m c.args.dst.now in
    let a : List ℕ = take m c.args.a.now in
    let b : List ℕ = take m c.args.b.now in
    let src : List ℕ = zip2 t a b in
    let long : length old ≡ m = length-take-le m c.args.dst.now (omega (arith, c.min-words.ensures)) in
    let long_a : length a ≡ m = length-take-le m c.args.a.now (omega (arith, c.min-words.ensures, c.min.ensures)) in
    let long_b : length b ≡ m = length-take-le m c.args.b.now (omega (arith, c.min-words.ensures, c.min.ensures)) in
    let long_src : length src ≡ m = omega (arith, length_joined t a b, long_a, long_b) in
    record {
      words = rw (c.change_by_lane.ensures.words, c.lane_at-joined.ensures, before.words)
          (kept_next f 4 at old src (omega (arith, long, c.loop-at-test.true))
          (omega (arith, long_src, c.loop-at-test.true)));
      changed =
          cc (changed_lane f old src at _ _ before.words
          (rw c.lane_at-joined.ensures at c.change_by_lane.ensures.changed));
      within = omega (arith, c.loop-at-test.true);
      cost = omega (arith, c.tick.ensures, before.cost);
    }

pub returns-then-rest-gt0-clause-words : goal.returns-then-rest-gt0-clause-words
returns-then-rest-gt0-clause-words g c =
    let f = g.O.WordOp.joined in
    let t = g.T.WordOp.joined in
    let m = c.min-words.result in
    let at = c.loop-at.at in
    let before = c.loop-at.invariant in
    let a : List ℕ = take m c.args.a.now in
    let b : List ℕ = take m c.args.b.now in
    let all : List ℕ = zip2 t c.args.a.now c.args.b.now in
    let cut = take-zip2 t m c.args.a.now c.args.b.now in
    let common : m ≡ min (length c.args.dst.now) (length all) =
    omega (arith, c.min-words.ensures, c.min.ensures, length_joined t c.args.a.now c.args.b.now) in
    let long_a : length a ≡ m = length-take-le m c.args.a.now (omega (arith, c.min-words.ensures, c.min.ensures)) in
    let long_b : length b ≡ m = length-take-le m c.args.b.now (omega (arith, c.min-words.ensures, c.min.ensures)) in
    let taken = take_filled at (m - at) (zip2 t a b)
    (omega (arith, length_joined t a b, long_a, long_b, before.within)) in
    rw (c.change_by_part-part.ensures.words, c.joined_part_at-joined.ensures, taken, before.words)
    (rw cut at (kept_rest f m at c.args.dst.now all common before.within))

pub returns-clause-words : goal.returns-clause-words
returns-clause-words g c =
    let f = g.O.WordOp.joined in
    let t = g.T.WordOp.joined in
    let m = c.min-words.result in
    let at = c.loop-at.at in
    let before = c.loop-at.invariant in
    let a : List ℕ = take m c.args.a.now in
    let b : List ℕ = take m c.args.b.now in
    let all : List ℕ = zip2 t c.args.a.now c.args.b.now in
    let cut = take-zip2 t m c.args.a.now c.args.b.now in
    let common : m ≡ min (length c.args.dst.now) (length all) =
    omega (arith, c.min-words.ensures, c.min.ensures, length_joined t c.args.a.now c.args.b.now) in
    let long_a : length a ≡ m = length-take-le m c.args.a.now (omega (arith, c.min-words.ensures, c.min.ensures)) in
    let long_b : length b ≡ m = length-take-le m c.args.b.now (omega (arith, c.min-words.ensures, c.min.ensures)) in
    rw before.words
    (rw cut at (kept_whole f m at c.args.dst.now all common (omega (arith, before.within, c.if-rest-gt0.false))))

pub returns-then-rest-gt0-clause-changed : goal.returns-then-rest-gt0-clause-changed
returns-then-rest-gt0-clause-changed g c =
    let f = g.O.WordOp.joined in
    let t = g.T.WordOp.joined in
    let m = c.min-words.result in
    let at = c.loop-at.at in
    let before = c.loop-at.invariant in
    let old : List ℕ = take m c.args.dst.now in
    let a : List ℕ = take m c.args.a.now in
    let b : List ℕ = take m c.args.b.now in
    let src : List ℕ = zip2 t a b in
    let all : List ℕ = zip2 t c.args.a.now c.args.b.now in
    let common : m ≡ min (length c.args.dst.now) (length all) =
    omega (arith, c.min-words.ensures, c.min.ensures, length_joined t c.args.a.now c.args.b.now) in
    let long : length old ≡ m = length-take-le m c.args.dst.now (omega (arith, c.min-words.ensures)) in
    let long_a : length a ≡ m = length-take-le m c.args.a.now (omega (arith, c.min-words.ensures, c.min.ensures)) in
    let long_b : length b ≡ m = length-take-le m c.args.b.now (omega (arith, c.min-words.ensures, c.min.ensures)) in
    let long_src : length src ≡ m = omega (arith, length_joined t a b, long_a, long_b) in
    let same =
    rw (take-zip2 t m c.args.a.now c.args.b.now) at (cut_joined (changed_bits f) m c.args.dst.now all common) in
    let cut = ap (list_all (λ (word : ℕ). word == 0)) same in
    let part = rw c.joined_part_at-joined.ensures at c.change_by_part-part.ensures.changed in
    let changed = filled_joined (changed_bits f)
    (nothing_joined (laws_of_changes g.met.O.WordOp.laws)) at (m - at) c.loop-at.dst src (omega arith)
    (omega (arith, long_src, before.within)) in
    let both = changed_part f old src at _ _ before.words (m - at) (omega (arith, long, long_src, before.within))
    (part ∙ changed) ∙ cut in
    either_changed _ _ _ _ _ (c.is_zero-whole.ensures ∙ before.changed) c.is_zero.ensures both

pub returns-clause-changed : goal.returns-clause-changed
returns-clause-changed g c =
    let f = g.O.WordOp.joined in
    let t = g.T.WordOp.joined in
    let m = c.min-words.result in
    let at = c.loop-at.at in
    let before = c.loop-at.invariant in
    let old : List ℕ = take m c.args.dst.now in
    let a : List ℕ = take m c.args.a.now in
    let b : List ℕ = take m c.args.b.now in
    let src : List ℕ = zip2 t a b in
    let all : List ℕ = zip2 t c.args.a.now c.args.b.now in
    let common : m ≡ min (length c.args.dst.now) (length all) =
    omega (arith, c.min-words.ensures, c.min.ensures, length_joined t c.args.a.now c.args.b.now) in
    let long : length old ≡ m = length-take-le m c.args.dst.now (omega (arith, c.min-words.ensures)) in
    let long_a : length a ≡ m = length-take-le m c.args.a.now (omega (arith, c.min-words.ensures, c.min.ensures)) in
    let long_b : length b ≡ m = length-take-le m c.args.b.now (omega (arith, c.min-words.ensures, c.min.ensures)) in
    let long_src : length src ≡ m = omega (arith, length_joined t a b, long_a, long_b) in
    let same =
    rw (take-zip2 t m c.args.a.now c.args.b.now) at (cut_joined (changed_bits f) m c.args.dst.now all common) in
    let cut = ap (list_all (λ (word : ℕ). word == 0)) same in
    ap not (c.is_zero-whole.ensures ∙ before.changed ∙ all_joined (changed_bits f) (λ (word : ℕ).
    word == 0) at old src (omega (arith, long, long_src, before.within, c.if-rest-gt0.false)) ∙ cut)
