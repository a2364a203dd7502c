use Rattle.std.proofs.Common.{[], ◌∷◌, ◌++◌, Some, sym, ap, ◌∙◌, arith, append_assoc, length, length-append}
use Rattle.bitwords.specs.CallFacts.{progress_first}
use Rattle.bitwords.proofs.Left.{left_next, left_lowest, left_lowest_of_back, left_nothing, left_kept}
use Rattle.bitwords.proofs.cursors.CursorIterator.next.Goals as goal

pub returns-then-self-ne0-clause-steps : goal.returns-then-self-ne0-clause-steps
returns-then-self-ne0-clause-steps g c =
    let before = c.loop-self.invariant in (
      left_lowest _ _ _ _ _ before.same _ _ c.take_lowest_bit.ensures.lowest c.take_lowest_bit.ensures.clears,
      record {
        words = before.words;
        front = before.front;
        counts = record { taken = before.taken; turns = omega (arith, before.turns) };
      },
    )

pub returns-then-self-ne0-clause-goes : goal.returns-then-self-ne0-clause-goes
returns-then-self-ne0-clause-goes g c =
    progress_first (λ walk. walk.items) _ (Some _) _ (returns-then-self-ne0-clause-steps g c).0

pub loop-self-preserved : goal.loop-self-preserved
loop-self-preserved g c =
    let before = c.loop-self.invariant in
    let split = c.in-Some.ensures in
    let word = c.in-Some.word in
    let apart = before.spaced.apart (omega (arith, ap length split)) in
    record {
      spaced =
          record {
            apart = λ _. omega (arith, ap length split, apart);
            order = omega (arith, ap length split, apart);
            fits = before.spaced.fits;
          };
      same = left_next _ _ _ _ _ before.same _ _ c.if-self-ne0.false split;
      words = before.words ++ word ∷ [];
      front = before.front ∙ ap (λ xs. before.words ++ xs) split ∙ sym (append_assoc before.words (word ∷ []) _);
      taken = omega (arith, before.taken, length-append before.words (word ∷ []));
      turns = omega (arith, before.turns, length-append before.words (word ∷ []));
    }

pub returns-then-self-eq0-clause-steps : goal.returns-then-self-eq0-clause-steps
returns-then-self-eq0-clause-steps g c =
    let before = c.loop-self.invariant in
    let none = c.in-None.ensures in
    let same = left_kept _ _ _ _ _ _ none.0 none.1 before.same in
    let nothing = left_nothing _ _ _ _ _ same c.if-self-ne0.false none.1 c.if-self-eq0.true in (
      (nothing, same ∙ nothing),
      record {
        words = before.words;
        front = before.front ∙ ap (λ xs. before.words ++ xs) (none.0 ∙ sym none.1);
        counts = record { taken = before.taken; turns = omega (arith, before.turns) };
      },
    )

pub returns-in-None-clause-steps : goal.returns-in-None-clause-steps
returns-in-None-clause-steps g c =
    let before = c.loop-self.invariant in
    let none = c.in-None.ensures in
    let same = left_kept _ _ _ _ _ _ none.0 none.1 before.same in (
      left_lowest_of_back _ _ _ _ _ same _ _ _ c.if-self-ne0.false none.1
          (omega (arith, ap length none.0, before.spaced.apart (omega (arith, c.if-self-eq0.false))))
          c.take_lowest_bit-in-None.ensures.lowest c.take_lowest_bit-in-None.ensures.clears,
      record {
        words = before.words;
        front = before.front ∙ ap (λ xs. before.words ++ xs) (none.0 ∙ sym none.1);
        counts = record { taken = before.taken; turns = omega (arith, before.turns) };
      },
    )

pub returns-in-None-clause-goes : goal.returns-in-None-clause-goes
returns-in-None-clause-goes g c = progress_first (λ walk. walk.items) _ (Some _) _ (returns-in-None-clause-steps g c).0

pub invariant_of-self-in-None : goal.invariant_of-self-in-None
invariant_of-self-in-None g c =
    let before = c.loop-self.invariant.spaced in
    record {
      apart = λ some. omega (arith, some, ap length c.in-None.ensures.1);
      order = omega arith;
      fits = before.fits;
    }
