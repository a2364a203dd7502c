use Rattle.std.proofs.Common.{◌≡◌, ◌+◌, drop, ap, sym, ◌∙◌, None, arith}
use Rattle.std.proofs.lemmas.Grind.{common_steps}
use Rattle.bitlines.proofs.Numbers.{number_empty, number_start, number_after, number_digit, number_refused, number_end}
use Rattle.bitlines.proofs.words.number.Goals as goal

pub returns-then-is_empty : goal.returns-then-is_empty
returns-then-is_empty c = number_empty c.args.word.now (grind (arith, common_steps))

pub loop-byte-init : goal.loop-byte-init
loop-byte-init c = record { so_far = number_start c.args.word.now (grind (arith, common_steps)); fits = omega arith }

pub returns-in_err-value : goal.returns-in_err-value
returns-in_err-value c =
    let none : c.from_residual.result ≡ None = grind (arith, common_steps) in
    none ∙ number_refused _ c.loop-byte.value c.args.word.now c.loop-byte.byte-index c.loop-byte.invariant.so_far
    (omega arith) (rw c.in_err-value.was at c.with_digit.ensures)

pub loop-byte-preserved : goal.loop-byte-preserved
loop-byte-preserved c =
    let more = rw c.in_ok-value.was at c.with_digit.ensures in
    record {
      so_far =
          number_digit _ _ c.args.word.now c.loop-byte.byte-index c.loop-byte.invariant.so_far (omega arith) more.0
          ∙ ap (λ n. number_after n (drop (c.loop-byte.byte-index + 1) c.args.word.now)) (sym more.1);
      fits = grind (arith, common_steps);
    }

pub returns : goal.returns
returns c =
    number_end _ _ c.args.word.now c.loop-byte.byte-index c.loop-byte.invariant.so_far (omega arith)
    c.loop-byte.invariant.fits
