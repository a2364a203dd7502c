use Rattle.std.proofs.Common.{◌≡◌, ℕ, ◌+◌, ◌-◌, ◌<◌, ◌≤◌, List, [], ◌∷◌, ◌++◌, length}
use Rattle.std.proofs.Common.{take, drop, count_ones, inl, inr, refl, sym, ap, subst, ◌∙◌, arith}
use Rattle.std.proofs.lemmas.List.{length-take-le, length-drop}
use Rattle.std.proofs.lemmas.Bool.{false≢true}
use Rattle.bitwords.specs.Handfuls.{word_positions, in_eights, AreMany}
use Rattle.bitwords.specs.WalkedWords.{held_items, ones_from}
use Rattle.bitwords.proofs.Places.{ones_from-word, most-in, gives-first, gives-more, gives-none, others-more}
use Rattle.bitwords.proofs.handfuls.give_words.Goals as goal

pub loop-room-init : goal.loop-room-init
loop-room-init g c = record {
  spaced = c.requires;
  gives = gives-none _ c.args.places.now;
  first = inl (refl, refl, refl, refl);
  others = refl;
}

pub overflow_sub-room : goal.overflow_sub-room
overflow_sub-room g c = omega (arith, c.loop-room.invariant.gives.room, c.loop-room.auto.places)

pub give_word-count-requires-clause-fits : goal.give_word-count-requires-clause-fits
give_word-count-requires-clause-fits g c =
    omega (arith, c.loop-room.invariant.spaced.order, c.loop-room.invariant.spaced.fits)

pub overflow_add-held-in-loop-room : goal.overflow_add-held-in-loop-room
overflow_add-held-in-loop-room g c =
    let apart = c.loop-room.invariant.spaced.apart (omega (arith, ap length c.in-Some.ensures)) in
    record { fits = omega (arith, apart, c.loop-room.invariant.spaced.fits) }

pub loop-room-smaller : goal.loop-room-smaller
loop-room-smaller g c =
    let shorter : length (g.M.Middle.words c.take_first.new.self) < length (g.M.Middle.words c.loop-room.held.middle) =
    omega (arith, ap length c.in-Some.ensures) in
    shorter

pub loop-room-preserved : goal.loop-room-preserved
loop-room-preserved g c =
    let inv = c.loop-room.invariant in
    let at : ℕ = c.loop-room.held.front_at in
    let front : ℕ = c.loop-room.held.front in
    let back : ℕ = c.loop-room.held.back in
    let middle : List ℕ = g.M.Middle.words c.loop-room.held.middle in
    let after : List ℕ = g.M.Middle.words c.take_first.new.self in
    let split : middle ≡ c.in-Some.word ∷ after = c.in-Some.ensures in
    let apart = inv.spaced.apart (omega (arith, ap length split)) in
    let count : ℕ = c.loop-room.count in
    let given : ℕ = c.give_word-count.result in
    let room : ℕ = length c.loop-room.places - count in
    let part : List ℕ = take room (drop count c.loop-room.places) in
    let places : List ℕ = c.give_word-count.new.places in
    let part_long : length part ≡ room =
    length-take-le room (drop count c.loop-room.places) (omega (arith, length-drop count c.loop-room.places)) in
    let long : length places ≡ length part = c.give_word-count.auto.places in
    let gave = c.give_word-count.ensures in
    let fits : count_ones front + 7 ≤ room = c.if-room-held.false in
    let items : List ℕ = word_positions at front in
    let others : List ℕ = ones_from (at + 64) (middle ++ back ∷ []) in
    let all : given ≡ length items =
    sym (sym (ap length gave.written)
    ∙ length-take-le given places (omega (arith, gave.count, fits, long, part_long))) in
    let many : 8 ≤ length others =
    omega (
      arith,
      c.loop-room-test.ensures.many refl,
      most-in (at + 64) 0 middle (back ∷ []) (c.loop-room-test.ensures.long refl),
    ) in
    let next : held_items (at + 64) c.in-Some.word after back ≡ others =
    sym (ap (λ xs. ones_from (at + 64) (xs ++ back ∷ [])) split) in
    let more = gives-first (held_items at front middle back) items others
    (held_items (at + 64) c.in-Some.word after back) part places given (in_eights (count_ones front))
    (ones_from-word at front (middle ++ back ∷ [])) next all (omega (arith, gave.count))
    (omega (arith, gave.count, all, many)) (omega (arith, gave.count, fits, part_long)) gave.written gave.behind in
    record {
      spaced =
          record {
            apart = λ _. omega (arith, ap length split, apart);
            order = omega (arith, ap length split, apart);
            fits = inv.spaced.fits;
          };
      gives = gives-more _ c.args.places.now c.loop-room.places places (held_items at front middle back)
          (held_items (at + 64) c.in-Some.word after back) count room given c.loop-room.auto.places long inv.gives more;
      first = inr (elim inv.first [
        | inl same ↦ (omega (arith, same.0), omega (arith, gave.count, ap count_ones same.1))
        | inr one ↦ (omega (arith, one.0), omega (arith, one.1))
      ]);
      others = others-more c.args.places.now c.loop-room.places places count room given (in_eights (count_ones front))
          (omega (arith, inv.gives.room, c.loop-room.auto.places)) long (omega (arith, gave.count)) gave.behind
          inv.others;
    }

pub returns-after-loop-room-clause-spaced : goal.returns-after-loop-room-clause-spaced
returns-after-loop-room-clause-spaced g c = c.loop-room.invariant.spaced

pub returns-after-loop-room-clause-gives : goal.returns-after-loop-room-clause-gives
returns-after-loop-room-clause-gives g c = c.loop-room.invariant.gives

pub returns-then-room-held-clause-spaced : goal.returns-then-room-held-clause-spaced
returns-then-room-held-clause-spaced g c = c.loop-room.invariant.spaced

pub returns-then-room-held-clause-gives : goal.returns-then-room-held-clause-gives
returns-then-room-held-clause-gives g c = c.loop-room.invariant.gives

pub returns-after-loop-room-clause-gives_first : goal.returns-after-loop-room-clause-gives_first
returns-after-loop-room-clause-gives_first g c many room =
    elim c.loop-room.invariant.first [
      | inl same ↦
          let still = subst AreMany (sym same.2) many in absurd (false≢true (c.loop-room-test.ensures.found still))
      | inr one ↦ one
    ]

pub returns-then-room-held-clause-gives_first : goal.returns-then-room-held-clause-gives_first
returns-then-room-held-clause-gives_first g c many room =
    elim c.loop-room.invariant.first [
      | inl same ↦ absurd
          (omega (arith, c.if-room-held.true, c.loop-room.auto.places, room, same.3, ap count_ones same.1))
      | inr one ↦ one
    ]

pub returns-after-loop-room-clause-others : goal.returns-after-loop-room-clause-others
returns-after-loop-room-clause-others g c = c.loop-room.invariant.others

pub returns-then-room-held-clause-others : goal.returns-then-room-held-clause-others
returns-then-room-held-clause-others g c = c.loop-room.invariant.others
