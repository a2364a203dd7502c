use Rattle.std.proofs.Common.{[], ◌∷◌, ◌++◌, Some, sym, ap, ◌∙◌, arith, append_assoc, length, length-append}
use Rattle.bitwords.specs.CallFacts.{progress_last}
use Rattle.bitwords.proofs.Left.{left_before, left_highest, left_highest_of_front, left_nothing, left_kept}
use Rattle.bitwords.proofs.cursors.CursorDoubleEndedIterator.next_back.Goals as goal

pub returns-then-self-ne0-clause-steps : goal.returns-then-self-ne0-clause-steps
returns-then-self-ne0-clause-steps g c =
    let before = c.loop-self.invariant in (
      left_highest _ _ _ _ _ before.same _ _ _ (before.spaced.apart (omega (arith, c.if-self-ne0.true)))
          c.take_highest_bit.ensures.highest c.take_highest_bit.ensures.clears,
      record {
        words = before.words;
        back = before.back;
        counts = record { taken = before.taken; turns = omega (arith, before.turns) };
      },
    )

pub returns-then-self-ne0-clause-goes : goal.returns-then-self-ne0-clause-goes
returns-then-self-ne0-clause-goes g c =
    progress_last (λ walk. walk.items) _ (Some _) _ (returns-then-self-ne0-clause-steps g c).0

pub loop-self-preserved : goal.loop-self-preserved
loop-self-preserved g c =
    let before = c.loop-self.invariant in
    let split = c.in-Some.ensures in
    let word = c.in-Some.word in
    let rest = g.M.Middle.words c.take_last.new.self in
    let fewer = length-append rest (word ∷ []) in
    let apart = before.spaced.apart (omega (arith, ap length split, fewer)) in
    record {
      spaced =
          record {
            apart = λ _. omega (arith, ap length split, fewer, apart);
            order = omega (arith, ap length split, fewer, apart);
            fits = omega (arith, before.spaced.fits);
          };
      same = left_before _ _ _ _ _ before.same _ _ c.if-self-ne0.false split;
      words = word ∷ before.words;
      back = before.back ∙ ap (λ xs. xs ++ before.words) split ∙ append_assoc rest (word ∷ []) before.words;
      taken = omega (arith, before.taken);
      turns = omega (arith, before.turns);
    }

pub returns-then-self-eq0-clause-steps : goal.returns-then-self-eq0-clause-steps
returns-then-self-eq0-clause-steps g c =
    let before = c.loop-self.invariant in
    let none = c.in-None.ensures in
    let same = left_kept _ _ _ _ _ _ none.0 none.1 before.same in
    let nothing = left_nothing _ _ _ _ _ same c.if-self-eq0.true none.1 c.if-self-ne0.false in (
      (nothing, same ∙ nothing),
      record {
        words = before.words;
        back = before.back ∙ ap (λ xs. xs ++ before.words) (none.0 ∙ sym none.1);
        counts = record { taken = before.taken; turns = omega (arith, before.turns) };
      },
    )

pub returns-in-None-clause-steps : goal.returns-in-None-clause-steps
returns-in-None-clause-steps g c =
    let before = c.loop-self.invariant in
    let none = c.in-None.ensures in
    let same = left_kept _ _ _ _ _ _ none.0 none.1 before.same in (
      left_highest_of_front _ _ _ _ _ same _ _ c.if-self-ne0.false none.1 c.take_highest_bit-in-None.ensures.highest
          c.take_highest_bit-in-None.ensures.clears,
      record {
        words = before.words;
        back = before.back ∙ ap (λ xs. xs ++ before.words) (none.0 ∙ sym none.1);
        counts = record { taken = before.taken; turns = omega (arith, before.turns) };
      },
    )

pub returns-in-None-clause-goes : goal.returns-in-None-clause-goes
returns-in-None-clause-goes g c = progress_last (λ walk. walk.items) _ (Some _) _ (returns-in-None-clause-steps g c).0
