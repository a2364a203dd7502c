use Rattle.std.proofs.Common.{ℕ, ◌-◌, ◌∙◌, ◌==◌, not, length, replicate, ap, refl, arith, take_all}
use Rattle.std.specs.List.{list_all}
use Rattle.bitlanes.proofs.Changing.{rest_written, zeros_written, zeros_in_lanes}
use Rattle.bitlanes.proofs.Filling.{all_with_part}
use Rattle.bitlanes.proofs.Folding.{all_lane, zeros_lane}
use Rattle.bitlanes.proofs.changes.zero.Goals.{then-rest-gt0, else-rest-gt0}
use Rattle.bitlanes.proofs.changes.zero.Goals as goal

pub loop-at-preserved : goal.loop-at-preserved
loop-at-preserved c =
    let at = c.loop-at.at in
    let before = c.loop-at.invariant in
    record {
      words = zeros_lane at c.loop-at.dst (omega arith) before.words;
      rest = rest_written at c.args.dst.now c.loop-at.dst (replicate 4 0) refl before.rest;
      changed = cc (all_lane (λ (word : ℕ). word == 0) at c.args.dst.now);
      within = omega (arith, c.loop-at-test.true);
      cost = omega (arith, c.tick.ensures, before.cost);
    }

pub returns-clause-words : goal.returns-clause-words
returns-clause-words c =
    let long : ℕ = length c.args.dst.now in
    let at = c.loop-at.at in
    elim c.if-rest-gt0.branch [
      | then-rest-gt0 w ↦ rw (
        w.dst-is,
        w.put_part.ensures,
      ) (zeros_written at (long - at) long c.loop-at.dst (omega (arith, c.loop-at.invariant.within)) (omega arith)
          (omega arith) c.loop-at.invariant.words)
      | else-rest-gt0 w ↦
          rw w.dst-is (zeros_in_lanes at long c.loop-at.dst
          (omega (arith, c.loop-at.invariant.within, w.if-rest-gt0.false)) (omega arith) c.loop-at.invariant.words)
    ]

pub returns-clause-changed : goal.returns-clause-changed
returns-clause-changed c =
    let old = c.args.dst.now in
    let at = c.loop-at.at in
    let before = c.loop-at.invariant in
    ap not (c.is_zero.ensures ∙ elim c.if-rest-gt0.branch [
      | then-rest-gt0 w ↦ rw (
        w.changed-is,
        w.gathered-changed-then-rest-gt0.ensures,
        w.part_at.ensures,
        before.changed,
        before.rest,
      ) (all_with_part at (length old - at) old (omega (arith, before.within)))
      | else-rest-gt0 w ↦ rw (w.changed-is, before.changed)
          (ap (list_all (λ (word : ℕ). word == 0)) (take_all at old (omega (arith, w.if-rest-gt0.false))))
    ])
