use Rattle.std.proofs.Common.{◌∙◌, ℕ, ◌+◌, List, [], map, Bor, ap}
use Rattle.std.specs.Str.Lines.{lines}
use Rattle.uses.proofs.Read.{as_many, no_rows, rows_more, texts_more, first_other}
use Rattle.uses.proofs.text.rows.Goals as goal

abbrev none : Bor (List ℕ)
none = record { ref_ptr = (0, 0); now = [] }

pub loop-line-init : goal.loop-line-init
loop-line-init c = rw c.new-rows.ensures.items no_rows

pub loop-line-preserved : goal.loop-line-preserved
loop-line-preserved c =
    let read = rw c.in-Some.is at c.in_ok-numbers.ensures in
    rw (
      texts_more c.deref-line-items.result.now c.loop-line.line-index none c.loop-line-test.true,
      c.in_ok-push.ensures.items,
    )
    (rows_more _ _ _ _ c.loop-line.invariant read.0 read.1
    (ap (λ n. n + 1) (c.len-number.ensures ∙ c.loop-line.rows.ok.0)))

pub returns-in_default-clause-fault : goal.returns-in_default-clause-fault
returns-in_default-clause-fault c =
    let items : List (Bor (List ℕ)) = c.deref-line-items.result.now in
    let i : ℕ = c.loop-line.line-index in
    let other = rw c.in_default.is at c.in_ok-numbers.ensures in
    let many = as_many _ _ c.loop-line.invariant in (
      _,
      _,
      first_other items i none c.loop-line-test.true (lines c.args.text.now)
          (ap (map (λ x. x.now)) c.deref-line-items.ensures.value ∙ c.in_ok-lines.ensures)
          c.loop-line.invariant.each other,
      ap (λ n. n + 1) (c.len-number.ensures ∙ c.loop-line.rows.ok.0 ∙ many),
    )
