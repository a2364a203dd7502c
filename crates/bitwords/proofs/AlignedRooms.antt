-- The first multiple with room, found among all places with room.
use Rattle.std.proofs.Common.{◌≡◌, ◌≢◌, ℕ, inl, inr, ◌+◌, ◌-◌, ◌*◌, ◌^◌, ◌<◌, ◌≤◌, ◌&&◌, ◌/◌, min, max, not, nat_le}
use Rattle.std.proofs.Common.{Bool, true, false, Option, Some, None, MatchOption, subst, sym, ap, ◌∙◌, arith}
use Rattle.std.proofs.lemmas.Bool.{cases_lt, cases_eq, cases_Bool, lt-ltb, le-ltb, le-leb, true≢false}
use Rattle.std.proofs.lemmas.Bool.Decides.{nat_tests}
use Rattle.std.proofs.Math.Bool.{and-false}
use Rattle.std.proofs.lemmas.Nat.{le-div}
use Rattle.bitlanes.specs.Words.{lane_steps}
use Rattle.bitwords.specs.Steps.{range_words}
use Rattle.bitwords.specs.GapsFacts.{pass-fails}
use Rattle.bitwords.specs.Gaps.{is_multiple, has_room_in, first_room, first_aligned_room, aligned_steps}
use Rattle.bitwords.specs.Neighbours.{NonePasses, IsNext}
use Rattle.bitwords.specs.NextFacts.{first_is, first_tells}
use Rattle.bitwords.proofs.Multiples.{none_of_zero, all_of_one, multiples_apart}
use Rattle.bitwords.proofs.RunStarts.{pass-holds}

module _ (taken : ℕ → Bool) (end count align from : ℕ) where
  -- whether p is a multiple with room
  abbrev pub aligned : ℕ → Bool
  aligned p = is_multiple align p && has_room_in taken end count p

  -- what has room ends before the end
  pub room_within : (p : ℕ) → has_room_in taken end count p ≡ true → p + count ≤ end
  unfolding has_room_in
  room_within p room = grind (arith, nat_tests)

  not_past : (p : ℕ) → end + 1 ≤ p → aligned p ≡ false
  unfolding has_room_in
  not_past p past = grind (arith, nat_tests)

  -- where no number from `low` on passes, no number does that passes another test too
  pub none_multiple : (low high : ℕ) → NonePasses (is_multiple align) low high → NonePasses aligned low high
  none_multiple low high none i above below = (let e = none i above below in λ j. e j && has_room_in taken end count i)

  pub none_with_room : (low high : ℕ) → NonePasses (has_room_in taken end count) low high → NonePasses aligned low high
  none_with_room low high none i above below =
      ap (λ b. is_multiple align i && b) (none i above below) ∙ and-false (is_multiple align i)

  pub none_joined : (low middle high : ℕ) → NonePasses aligned low middle → NonePasses aligned middle high
      → NonePasses aligned low high
  none_joined low middle high before behind i above below = elim (cases_lt i middle) [
    | inl early ↦ before i above early
    | inr late ↦ behind i late below
  ]

  pub no_aligned_room : NonePasses aligned from (end + 1) → None ≡ first_aligned_room taken end count align from
  unfolding first_aligned_room
  no_aligned_room none = first_is aligned from (end + 1 - from) None (λ i above below. none i above (omega arith))

  pub aligned_room : (p : ℕ) → from ≤ p → is_multiple align p ≡ true → has_room_in taken end count p ≡ true
      → NonePasses aligned from p → Some p ≡ first_aligned_room taken end count align from
  unfolding first_aligned_room
  aligned_room p after multiple room none = first_is aligned from (end + 1 - from) (Some p) (record {
    after = after;
    below = omega (arith, after, room_within p room);
    passes = (let r = room in λ j. multiple j && r j);
    none = none;
  })

-- ---- what a search tells

module _ (test : ℕ → Bool) (low high : ℕ) where
  pub told_none : (found : Option ℕ) → MatchOption found (NonePasses test low high) (IsNext test low high)
      → found ≡ None → NonePasses test low high
  told_none found told is = subst (λ o. MatchOption o (NonePasses test low high) (IsNext test low high)) is told

  pub told_next : (found : Option ℕ) (p : ℕ) → MatchOption found (NonePasses test low high) (IsNext test low high)
      → found ≡ Some p → IsNext test low high p
  told_next found p told is = subst (λ o. MatchOption o (NonePasses test low high) (IsNext test low high)) is told

-- what a search for room tells
pub room_tells : (taken : ℕ → Bool) (end count at : ℕ) (found : Option ℕ) → found ≡ first_room taken end count at
    → MatchOption found (NonePasses (has_room_in taken end count) at (end + 1))
    (IsNext (has_room_in taken end count) at (end + 1))
unfolding first_room
room_tells taken end count at found is =
    told found (first_tells (has_room_in taken end count) at (end + 1 - at) found is)
  where
    told : (o : Option ℕ)
        → MatchOption o (NonePasses (has_room_in taken end count) at (at + (end + 1 - at)))
        (IsNext (has_room_in taken end count) at (at + (end + 1 - at)))
        → MatchOption o (NonePasses (has_room_in taken end count) at (end + 1))
        (IsNext (has_room_in taken end count) at (end + 1))
    told None none = λ i above below. none i above (omega arith)
    told (Some p) next =
        record {
          after = next.after;
          below = omega (arith, next.after, next.below);
          passes = next.passes;
          none = next.none;
        }

-- ---- the steps

-- the words behind the first of those that hold a position of the range
abbrev words_behind : ℕ → ℕ → ℕ
words_behind start end = (end - 1) / 64 - start / 64

-- those of one search
search_most : (at end : ℕ) → 4 * lane_steps (range_words at end) ≤ words_behind at end + 4
search_most at end = elim (cases_lt at end) [
  | inl some ↦ rw (lt-ltb at end some) (omega (arith, some))
  | inr none ↦ rw (le-ltb at end none) (omega arith)
]

no_search : (at end : ℕ) → end ≤ at → lane_steps (range_words at end) ≡ 0
no_search at end none = rw (le-ltb at end none) (omega arith)

-- a search that begins later takes no more
fewer_later : (at p end : ℕ) → at ≤ p → lane_steps (range_words p end) ≤ lane_steps (range_words at end)
fewer_later at p end later = elim (cases_lt p end) [
  | inl some ↦ rw (lt-ltb p end some, lt-ltb at end (omega (arith, some, later))) (omega (arith, later))
  | inr none ↦ omega (arith, no_search p end none)
]

-- the words of one search lie behind those that were looked at before it, but for those of the last stretch
words_add : (from at p count reach next end : ℕ) → from ≤ at → at ≤ p → p < next → p < end → reach ≤ p
    → words_behind from (min (at + 1) end) + words_behind from reach + words_behind at (p + count)
    ≤ words_behind from (min (next + 1) end) + words_behind from (p + count)
words_add from at p count reach next end begins later more inside behind = omega arith

-- each word twice, and one step more for a search, is so much in all
twice_all : (from end all rest : ℕ) → from < end → 4 * all ≤ 4 * rest + 4 + 2 * words_behind from end
    → all ≤ rest + 2 * lane_steps (range_words from end)
twice_all from end all rest some most = rw (lt-ltb from end some) (omega (arith, some, most))

module _ (taken : ℕ → Bool) (end count align from : ℕ) where
  room_clear : (p q : ℕ) → has_room_in taken end count p ≡ true → p ≤ q → q < p + count → not (taken q) ≡ true
  unfolding has_room_in
  room_clear p q room above below = elim (cases_Bool (not (taken q))) [
    | inl free ↦ free
    | inr set ↦
        absurd (true≢false (sym room
        ∙ ap (λ b. nat_le (p + count) end && b) (pass-fails (λ x. not (taken x)) count p q above below set)
        ∙ and-false (nat_le (p + count) end)))
  ]

  clear_room : (p : ℕ) → p + count ≤ end → ((q : ℕ) → p ≤ q → q < p + count → not (taken q) ≡ true)
      → has_room_in taken end count p ≡ true
  unfolding has_room_in
  clear_room p within clear =
      let fits : nat_le (p + count) end ≡ true = le-leb (p + count) end within in
      let free = pass-holds (λ x. not (taken x)) count p clear in
      λ j. fits j && free j

  -- what the searches before took, of which so many found no multiple: the last stretch found ends at `reach`, and
  -- the next search begins at the multiple `at`
  pub record IsSpent (before at after turns reach : ℕ) : Type 0 where
    pub multiple : is_multiple align at ≡ true
    pub behind : from ≤ at
    pub within : reach ≤ max from end
    pub clear : (q : ℕ) → at ≤ q → q < reach → not (taken q) ≡ true
    pub wide : 0 < turns → 1 < align
    pub some : 0 < turns → from < end
    pub apart : turns * align ≤ at - from
    pub few : turns ≤ (end - from) / align + 1
    pub grown : before ≤ after
    pub none : turns ≡ 0 → after ≤ before
    pub cost : 4 * after ≤ 4 * before + 4 * turns + words_behind from (min (at + 1) end) + words_behind from reach

  pub none_spent : (steps at : ℕ) → is_multiple align at ≡ true → from ≤ at → IsSpent steps at steps 0 from
  none_spent steps at multiple behind = record {
    multiple = multiple;
    behind = behind;
    within = omega arith;
    clear = λ q above below. absurd (omega (arith, behind, above, below));
    wide = λ one. absurd (omega (arith, one));
    some = λ one. absurd (omega (arith, one));
    apart = omega arith;
    few = omega arith;
    grown = omega arith;
    none = λ _. omega arith;
    cost = omega arith;
  }

  module _ (before at steps turns reach : ℕ) (spent : IsSpent before at steps turns reach) where
    -- so many multiples are at most in the range
    few_at : at ≤ end → turns ≤ (end - from) / align
    few_at order = elim (cases_lt 0 turns) [
      | inl one ↦ le-div turns (end - from) align (omega (arith, spent.wide one)) (omega (arith, spent.apart, order))
      | inr none ↦ omega (arith, none)
    ]

    -- with a search that goes on to the end
    spent_wide : (new : ℕ) → new ≤ steps + lane_steps (range_words at end)
        → new ≤ before + (2 * lane_steps (range_words from end) + (end - from) / align)
    spent_wide new most = elim (cases_lt at end) [
      | inl inside ↦
          let all = twice_all from end new (before + turns) (omega (arith, inside, spent.behind))
          (omega (arith, most, spent.cost, search_most at end, spent.within, spent.behind, inside)) in
          omega (arith, all, few_at (omega (arith, inside)))
      | inr past ↦
          let last : new ≤ steps = omega (arith, most, no_search at end past) in
          elim (cases_lt 0 turns) [
            | inl one ↦
                let all = twice_all from end new (before + (turns - 1)) (spent.some one)
                (omega (arith, last, spent.cost, spent.within, spent.some one, past, one)) in
                omega (arith, all, spent.few, one)
            | inr none ↦ omega (arith, last, spent.none (omega (arith, none)))
          ]
    ]

    pub spent_in_all : (new : ℕ) → new ≤ steps + lane_steps (range_words at end)
        → new ≤ before + aligned_steps align from end
    spent_in_all new most = elim (cases_lt 1 align) [
      | inl wide ↦ rw (lt-ltb 1 align wide) (spent_wide new most)
      | inr narrow ↦
          let none : turns ≡ 0 = elim (cases_lt 0 turns) [
            | inl one ↦ absurd (omega (arith, narrow, spent.wide one))
            | inr none ↦ omega (arith, none)
          ] in
          rw (le-ltb 1 align narrow)
          (omega (arith, most, spent.none none, fewer_later from at end spent.behind))
    ]

  module _ (before at steps turns reach p : ℕ) (spent : IsSpent before at steps turns reach)
      (found : IsNext (has_room_in taken end count) at (end + 1) p) where
    -- the last search alone took so many
    pub spent_last : (new : ℕ) → new ≡ steps + lane_steps (range_words at (p + count))
        → before + lane_steps (range_words p (p + count)) ≤ new
    spent_last new is = omega (arith, is, spent.grown, fewer_later at p (p + count) found.after)

    ends : p + count ≤ end
    ends = room_within taken end count align from p found.passes

    -- where none before the stretch is taken of as many as are wanted at the multiple, it begins there
    at_multiple : ((q : ℕ) → at ≤ q → q < p → q < at + count → not (taken q) ≡ true) → p ≡ at
    at_multiple clear = elim (cases_lt at p) [
      | inl early ↦
          absurd (true≢false (sym (clear_room at (omega (arith, early, ends)) (λ q above below. elim (cases_lt q p) [
            | inl before_p ↦ clear q above before_p below
            | inr from_p ↦ room_clear p q found.passes from_p (omega (arith, below, early))
          ])) ∙ found.none at (omega arith) early))
      | inr late ↦ omega (arith, late, found.after)
    ]

    module _ (next new : ℕ) (multiple : IsNext (is_multiple align) p (2 ^ 64) next) (other : next ≢ p)
        (is : new ≡ steps + lane_steps (range_words at (p + count))) where
      no_multiple : is_multiple align p ≡ true → ⊥
      no_multiple here =
          true≢false (sym here ∙ multiple.none p (omega arith) (omega (arith, multiple.after, other)))

      elsewhere : p ≡ at → ⊥
      elsewhere same = no_multiple (ap (is_multiple align) same ∙ spent.multiple)

      not_inside : reach ≤ p
      not_inside = elim (cases_lt p reach) [
        | inl inside ↦
            absurd (elsewhere (at_multiple (λ q above early _. spent.clear q above (omega (arith, early, inside)))))
        | inr behind ↦ behind
      ]

      inside : p < end
      inside = elim (cases_eq count 0) [
        | inl nothing ↦
            absurd (elsewhere (at_multiple (λ q above _ below. absurd (omega (arith, nothing, above, below)))))
        | inr some ↦ omega (arith, some, ends)
      ]

      wide : 1 < align
      wide = elim (cases_eq align 0) [
        | inl zeros ↦
            absurd (true≢false (sym multiple.passes ∙ ap (λ a. is_multiple a next) zeros
            ∙ none_of_zero next (omega (arith, multiple.after, other))))
        | inr some ↦ elim (cases_eq align 1) [
          | inl one ↦ absurd (no_multiple (ap (λ a. is_multiple a p) one ∙ all_of_one p))
          | inr more ↦ omega (arith, some, more)
        ]
      ]

      pub more_spent : IsSpent before next new (turns + 1) (p + count)
      more_spent = record {
        multiple = multiple.passes;
        behind = omega (arith, spent.behind, found.after, multiple.after);
        within = omega (arith, ends);
        clear = λ q above below. room_clear p q found.passes (omega (arith, multiple.after, above)) below;
        wide = λ _. wide;
        some = λ _. omega (arith, inside, spent.behind, found.after);
        apart =
            (let far = multiples_apart align at next spent.multiple multiple.passes
            (omega (arith, found.after, multiple.after, other)) in omega (arith, far, spent.apart, spent.behind));
        few =
            (let most = few_at before at steps turns reach spent (omega (arith, found.after, inside)) in
            omega (arith, most));
        grown = omega (arith, spent.grown, is);
        none = λ zero. absurd (omega (arith, zero));
        cost =
            (let words = words_add from at p count reach next end spent.behind found.after
            (omega (arith, multiple.after, other)) inside not_inside in
            let most = search_most at (p + count) in
            omega (arith, spent.cost, is, most, words));
      }
