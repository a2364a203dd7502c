use Rattle.std.proofs.Common.{◌∙◌, ℕ, ◌<◌, not, true, false, List, [], length}
use Rattle.std.proofs.Common.{get_or, map, take, Bor, sym, ap, subst, arith}
use Rattle.std.specs.Option.{SomeIff}
use Rattle.std.proofs.lemmas.List.{append-nil}
use Rattle.uses.specs.Rows.{IsNumber, value}
use Rattle.uses.proofs.Read.{kept, read_more, kept_more, not_a_row, all_read}
use Rattle.uses.proofs.text.numbers_of.Goals as goal
use Rattle.uses.proofs.text.numbers_of.Goals.{then-not-is_empty+in-Some+in_ok-push, else-not-is_empty}

abbrev none : Bor (List ℕ)
none = record { ref_ptr = (0, 0); now = [] }

pub loop-word-init : goal.loop-word-init
loop-word-init c = record { each = λ k d h. absurd (omega arith); values = c.new-numbers.ensures.items }

pub loop-word-preserved : goal.loop-word-preserved
loop-word-preserved c =
    let items : List (Bor (List ℕ)) = c.deref-word-items.result.now in
    let i : ℕ = c.loop-word.word-index in
    let inside : i < length items = c.loop-word-test.true in
    elim c.if-not-is_empty.branch [
      | then-not-is_empty+in-Some+in_ok-push w ↦
          rw (
            kept_more items i none inside true (ap not (sym c.is_empty.ensures ∙ w.if-not-is_empty.true)),
            w.numbers-is,
            w.in_ok-push.ensures.items,
          )
          (read_more _ _ (get_or items i none).now _ w.in-Some.ensures.0 w.in-Some.ensures.1 c.loop-word.invariant)
      | else-not-is_empty w ↦
          rw (
            kept_more items i none inside false (ap not (sym c.is_empty.ensures ∙ w.if-not-is_empty.false)),
            append-nil (kept (take i (map (λ x. x.now) items))),
            w.numbers-is,
          ) c.loop-word.invariant
    ]

pub returns-in_default : goal.returns-in_default
returns-in_default c =
    let items : List (Bor (List ℕ)) = c.deref-word-items.result.now in
    let i : ℕ = c.loop-word.word-index in
    let word : List ℕ = (get_or items i none).now in
    not_a_row items i none c.loop-word-test.true c.args.line.now (ap (map (λ x. x.now)) c.deref-word-items.ensures.value
    ∙ c.in_ok-words.ensures) (ap not (sym c.is_empty.ensures ∙ c.if-not-is_empty.true))
    (subst (λ found. SomeIff found (IsNumber word) (value word)) c.in_default.is c.number.ensures)

pub returns : goal.returns
returns c =
    let read = all_read c.deref-word-items.result.now c.loop-word.word-index c.args.line.now c.loop-word.numbers.items
    c.loop-word-test.false (ap (map (λ x. x.now)) c.deref-word-items.ensures.value ∙ c.in_ok-words.ensures)
    c.loop-word.invariant in
    (read.each, read.values)
