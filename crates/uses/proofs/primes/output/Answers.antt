use Rattle.std.proofs.Common.{◌≡◌, ◌<◌, ℕ, [], ◌∷◌, Err, sym, subst, arith}
use Rattle.std.specs.Str.Lines.{lines}
use Rattle.uses.specs.declared.primes.sieve.TheConstants.{LIMIT}
use Rattle.uses.specs.Primes.{HasEnd, IsPrime}
use Rattle.uses.specs.Rows.{AreRowsOf}
use Rattle.uses.specs.Texts.{HasRows, one_a_line}
use Rattle.uses.proofs.Answered.{numbers_in, has_rows, no_rows, unread, prints}
use Rattle.uses.proofs.primes.output.Goals as goal

pub returns-in_err-rows-clause-fault : goal.returns-in_err-rows-clause-fault
returns-in_err-rows-clause-fault c =
    let told : c.from_residual.result ≡ Err c.in_err-rows.field-0.0 = grind arith in
    rw told (unread c.args.text.now ((end : ℕ) × HasEnd LIMIT c.args.text.now end) c.in_err-rows.field-0.0
    c.in_err-rows.ensures.fault (λ p. p.1.rows.each))

pub returns-clause-printed : goal.returns-clause-printed
returns-clause-printed c =
    let text = c.args.text.now in
    let end = c.in_ok-end.end in
    let others = c.in_ok-end.others.now in
    let are = subst (AreRowsOf (lines text)) (sym c.deref.ensures.value) c.in_ok-rows.ensures.rows in
    let read = has_rows text c.deref.result.now end others are c.in_ok-end.ensures.found in
    let none : others ≡ [] = no_rows others (rw c.in_default.is at c.first.ensures.value) in (
      end,
      record {
        rows = subst (λ rest. HasRows text ((end ∷ []) ∷ numbers_in rest)) none read;
        within = c.in_ok-end.ensures.limit;
      },
      prints one_a_line (λ p. (p < end) × IsPrime p) c.in_ok-primes.field-0 _ c.in_ok-as_lines.ensures
          c.in_ok-primes.ensures.members,
    )
