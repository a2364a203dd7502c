use Rattle.std.proofs.Common.{◌≡◌, ◌+◌, ◌++◌, ◌∷◌, [], List, ℕ, suc, map, drop, length, set, sym, ap, ◌∙◌, arith}
use Rattle.std.proofs.iter.SoFar.{exit_by}
use Rattle.std.proofs.lemmas.List.{map-append, length-map, length-append}
use Rattle.std.specs.Iterator.Adapters.{enumerate_steps, take_steps}
use Rattle.fixedbitset.proofs.Blocks.{overwritten}
use Rattle.fixedbitset.proofs.set.fill.Goals as goal

pub loop-at-preserved : goal.loop-at-preserved
loop-at-preserved g c =
    let before = c.loop-at.invariant in
    let step = c.in-Some.ensures.steps in
    let seen : List (ℕ × ℕ) = c.loop-at.yielded in
    let item : ℕ × ℕ = (c.in-Some.at, c.in-Some.block) in
    let blocks : List ℕ = map (λ x. x.1) seen in
    let old : List ℕ = c.args.words.now in
    let long : length (seen ++ item ∷ []) ≡ length seen + 1 = length-append seen (item ∷ []) in
    let count : length blocks ≡ length seen = length-map seen (λ x. x.1) in
    record {
      count = omega (arith, long, step.2, before.count);
      room = omega (arith, long, step.0.1, before.room);
      words =
          ap (λ ws. set ws c.in-Some.at c.in-Some.block) (before.words ∙ ap (λ k. blocks ++ drop k old) (sym count))
          ∙ ap (λ k. set (blocks ++ drop (length blocks) old) k c.in-Some.block) (step.1 ∙ before.count ∙ sym count)
          ∙ overwritten blocks old c.in-Some.block (omega (arith, count, step.0.1, before.room, c.requires.within))
          ∙ (let front =
          sym
          (map-append (λ (x : ℕ × ℕ).
          x.1) seen (item ∷ [])) in let rest : suc (length blocks) ≡ length (seen ++ item ∷ []) =
          omega (arith, count, long) in λ i. front i ++ drop (rest i) old);
    }

-- the run of the source that stands behind the items taken
pub returns : goal.returns
returns g c =
    let loop = c.loop-at in
    let whole = exit_by (enumerate_steps (take_steps g.I.Iterator.next_gives)) (loop.yielded, loop.yielded_by)
    c.next.new.self c.in-None.ensures.steps in
    let numbered = c.enumerate-at-items.ensures.runs whole.0 whole.0.seen
    (whole.1 ∙ c.into_iter-at-iterator.ensures.into_iter_gives) in
    let items = numbered.1 in
    let taken = c.take.ensures.runs items.0 items.0.seen items.1 in
    let source = taken.1 in
    let same = source.2.0 in
    let are : source.0.items ≡ map (λ x. x.1) loop.yielded = same.1 ∙ items.2.0.1 ∙ ap (map (λ x. x.1)) whole.3.0 in (
      source.0,
      source.1,
      (
        omega (arith, taken.0, same.0, source.0.long),
        λ short. source.2.1 (items.2.1 ∙ whole.2) (omega (arith, same.0, source.0.long)),
        rw are (loop.invariant.words
            ∙ ap (λ k. map (λ x. x.1) loop.yielded ++ drop k c.args.words.now)
            (sym (length-map loop.yielded (λ x. x.1)))),
      ),
    )
