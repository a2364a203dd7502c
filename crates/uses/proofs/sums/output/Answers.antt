use Rattle.std.proofs.Common.{◌≡◌, ℕ, List, Err, sym, subst, arith}
use Rattle.std.specs.List.{flat_map}
use Rattle.std.specs.Str.Lines.{lines}
use Rattle.uses.specs.declared.sums.TheConstants.{LIMIT}
use Rattle.uses.specs.declared.text.Row.{Row}
use Rattle.uses.specs.Rows.{AreRowsOf}
use Rattle.uses.specs.Sums.{HasList}
use Rattle.uses.proofs.Answered.{numbers_in, has_rows, concat_of, unread}
use Rattle.uses.proofs.sums.output.Goals as goal

pub returns-in_err-rows-clause-fault : goal.returns-in_err-rows-clause-fault
returns-in_err-rows-clause-fault c =
    let text = c.args.text.now in
    let told : c.from_residual.result ≡ Err c.in_err-rows.field-0.0 = grind arith in
    rw told (unread text ((limit : ℕ) × (numbers : List ℕ) × HasList LIMIT text limit numbers)
    c.in_err-rows.field-0.0 c.in_err-rows.ensures.fault (λ p. p.2.rows.each))

pub returns-clause-printed : goal.returns-clause-printed
returns-clause-printed c =
    let text = c.args.text.now in
    let others = c.in_ok-limit.others.now in
    let are = subst (AreRowsOf (lines text)) (sym c.deref.ensures.value) c.in_ok-rows.ensures.rows in (
      c.in_ok-limit.limit,
      flat_map (λ (row : Row). row.numbers.items) others,
      record {
        others = numbers_in others;
        rows = has_rows text c.deref.result.now c.in_ok-limit.limit others are c.in_ok-limit.ensures.found;
        within = c.in_ok-limit.ensures.limit;
        list = concat_of others;
      },
      c.in_ok-totals_of.ensures,
    )
