use Rattle.std.proofs.Common.{◌≡◌, ◌+◌, ◌-◌, length, take, drop, ap, ◌∙◌, arith, sym}
use Rattle.std.proofs.lemmas.Grind.{common_steps}
use Rattle.bitlines.specs.Words.{words}
use Rattle.bitlines.proofs.Numbers.{number_on, words_empty, words_start, words_no_digit}
use Rattle.bitlines.proofs.Numbers.{on_at_digit, on_at_space, on_at_refused, on_at_end}
use Rattle.bitlines.proofs.words.first_number.Goals.{then-is_empty-via-then-is_empty}
use Rattle.bitlines.proofs.words.first_number.Goals.{then-is_empty-via-else-is_empty+then-not-is_ascii_digit}
use Rattle.bitlines.proofs.words.first_number.Goals as goal

pub returns-then-is_empty : goal.returns-then-is_empty
returns-then-is_empty c =
    elim c.then-is_empty.branch [
      | then-is_empty-via-then-is_empty w ↦ words_empty c.args.text.now (grind (arith, common_steps))
      | then-is_empty-via-else-is_empty+then-not-is_ascii_digit w ↦
          words_no_digit c.args.text.now (grind (arith, common_steps)) (grind (arith, common_steps))
    ]

pub loop-at-init : goal.loop-at-init
loop-at-init c = record {
  so_far = words_start c.args.text.now (grind (arith, common_steps)) (grind (arith, common_steps));
  fits = omega arith;
  inside = omega arith;
}

pub returns-in-None : goal.returns-in-None
returns-in-None c =
    let rest : take (length c.args.text.now - (c.loop-at.at + 1)) (drop (c.loop-at.at + 1) c.args.text.now)
    ≡ drop (c.loop-at.at + 1) c.args.text.now = grind (arith, common_steps) in
    rw rest (on_at_space _ c.loop-at.value c.args.text.now c.loop-at.at c.loop-at.invariant.so_far (omega arith)
    (grind (arith, common_steps)) c.loop-at.invariant.fits)

pub returns-in-None-2 : goal.returns-in-None-2
returns-in-None-2 c =
    on_at_refused _ c.loop-at.value c.args.text.now c.loop-at.at c.loop-at.invariant.so_far (omega arith)
    (rw c.in-None-2.is at c.with_digit.ensures) (grind (arith, common_steps))

pub loop-at-preserved : goal.loop-at-preserved
loop-at-preserved c = record {
  so_far =
      on_at_digit _ c.loop-at.value c.args.text.now c.loop-at.at c.loop-at.invariant.so_far (omega arith)
      (grind (arith, common_steps))
      ∙ ap (λ n. number_on n (words (drop (c.loop-at.at + 1) c.args.text.now))) (sym c.in-Some.ensures.1);
  fits = grind (arith, common_steps);
  inside = omega arith;
}

pub returns : goal.returns
returns c =
    on_at_end _ c.loop-at.value c.args.text.now c.loop-at.at c.loop-at.invariant.so_far (omega arith)
    c.loop-at.invariant.fits
