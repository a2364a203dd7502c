-- What a call of a walk over stretches does to those left.
use Rattle.std.proofs.Common.{◌≡◌, ◌≢◌, ◌%◌, ◌⊎◌, ℕ, ◌+◌, ◌-◌, ◌*◌, ◌/◌, ◌<◌, ◌≤◌, inl, inr, Bool}
use Rattle.std.proofs.Common.{true, false, not, Option, Some, None, IfSome, IfNone, unwrap_or}
use Rattle.std.proofs.Common.{List, [], ◌∷◌, ◌++◌, map, take, refl, sym, ap, ◌∙◌, arith}
use Rattle.std.proofs.lemmas.Bool.{cases_eq}
use Rattle.std.proofs.lemmas.Bool.Decides.{nat_tests}
use Rattle.std.proofs.lemmas.List.{get_or-take, map-append}
use Rattle.bitlanes.specs.Bits.{bit}
use Rattle.bitlanes.specs.Words.{lane_steps}
use Rattle.bitwords.specs.Ascending.{ascending}
use Rattle.bitwords.specs.Neighbours.{IsNext, IsPrevious, NonePasses}
use Rattle.bitwords.specs.Rows.{has_bit}
use Rattle.bitwords.specs.Runs.{begins, end_from, stretches, is_like, IsBetween, Passes}
use Rattle.bitwords.specs.RunsFacts.{around, none_begin, ends_at, ends_last}

-- the first words have the same positions
pub has_bit-take : (k : ℕ) (ws : List ℕ) (p : ℕ) → p < 64 * k → has_bit (take k ws) p ≡ has_bit ws p
unfolding has_bit
has_bit-take k ws p below =
    let low : p / 64 < k = omega (arith, below) in ap (λ w. bit w (p % 64)) (get_or-take k ws (p / 64) 0 low)

-- what is not like the others
pub unlike : (are_set : Bool) (ws : List ℕ) (i : ℕ) → is_like (not are_set) ws i ≡ not (is_like are_set ws i)
unlike are_set ws i = grind arith

-- the end of a stretch, which goes up to n or to what does not pass
ends : (t : ℕ → Bool) (n start end : ℕ) → start < end → end ≤ n → ((i : ℕ) → start ≤ i → i < end → t i ≡ true)
    → (end ≢ n → t end ≡ false)
    → end_from t n start ≡ end
ends t n start end some within all fails =
    elim (cases_eq end n) [
      | inl last ↦ ends_last t n start (omega arith) (λ i above below. all i above (omega arith)) ∙ sym last
      | inr before ↦ ends_at t n start end some (omega arith) all (fails before)
    ]

-- the last stretch that is left
pub record IsLast (t : ℕ → Bool) (low start last : ℕ) : Type 0 where
  pub from : low ≤ start
  pub some : start ≤ last
  pub first : begins t start ≡ true
  pub all : (i : ℕ) → start ≤ i → i ≤ last → t i ≡ true

module _ {t u : ℕ → Bool} {n low high : ℕ} (other : (i : ℕ) → u i ≡ not (t i)) (is : IsBetween t n low high)
    (left : low ≢ high) where
  -- where none is left
  pub nothing : NonePasses t low high → stretches t n low high ≡ []
  nothing none = ap (map (λ p. (p, end_from t n p))) (none_begin t n low high none)

  -- the first stretch that is left, which ends at `end`
  module _ {start : ℕ} (next : IsNext t low high start) (end : ℕ) (after : start < end) (to : end ≤ high)
      (all : (i : ℕ) → start ≤ i → i < end → t i ≡ true) (stops : (end ≡ high) ⊎ (t end ≡ false)) where
    first : begins t start ≡ true
    first = grind (arith, nat_tests, next.none (start - 1))

    fails : end ≢ n → t end ≡ false
    fails before = grind (arith, all (end - 1))

    first_stretch : stretches t n low high ≡ (start, end) ∷ stretches t n end high
    first_stretch =
        rw (
          around t n low start end high next.after after to first all,
          none_begin t n low start next.none,
          ends t n start end after (omega arith) all fails,
        ) refl

  pub front : {start : ℕ} → IsNext t low high start → (o : Option ℕ) → IfSome o (IsNext u start high)
      → IfNone o (NonePasses u start high)
      → stretches t n low high ≡ (start, unwrap_or o high) ∷ stretches t n (unwrap_or o high) high
  front next (Some end) found none =
      first_stretch next end (grind (arith, other)) (omega arith)
      (λ i above below. grind (arith, other i, found.none i))
      (inr (grind (arith, other end)))
  front next None found none =
      first_stretch next high next.below (omega arith) (λ i above below. grind (arith, other i, none i)) (inl refl)

  -- where nothing passes below `high`, `low` is 0, and what passes before `low` stands there
  pub low_is_zero : NonePasses t 0 high → low ≡ 0
  low_is_zero none = grind (arith, none (low - 1))

  pub low_is_behind : {last : ℕ} → IsPrevious t high last → last < low → low ≤ last + 1
  low_is_behind found before = grind (arith, found.none (low - 1))

  module _ {last : ℕ} (found : IsPrevious t high last) (within : low ≤ last) where
    pub is_last : (start : ℕ) → start ≤ last → (start ≡ 0) ⊎ (u (start - 1) ≡ true) → NonePasses u start last
        → IsLast t low start last
    is_last start some before none =
        let all : (i : ℕ) → start ≤ i → i ≤ last → t i ≡ true = λ i above below. grind (arith, none i, other i) in
        record {
          from = grind (arith, all low);
          some = some;
          first = grind (arith, nat_tests, all start, other (start - 1));
          all = all;
        }

    pub last_after : {gap : ℕ} → IsPrevious u last gap → IsLast t low (gap + 1) last
    last_after {gap} is_gap =
        let e : gap + 1 - 1 ≡ gap = omega arith in
        is_last (gap + 1) (omega arith) (inr (rw e is_gap.passes)) (λ i above below. is_gap.none i (omega arith) below)

    module _ {start : ℕ} (is_last : IsLast t low start last) where
      fails_behind : last + 1 ≢ n → t (last + 1) ≡ false
      fails_behind before = grind (arith, found.none (last + 1))

      pub last_stretch : stretches t n low high ≡ stretches t n low start ++ (start, last + 1) ∷ []
      last_stretch =
          let all : (i : ℕ) → start ≤ i → i < last + 1
          → t i ≡ true = λ i above below. is_last.all i above (omega arith) in
          rw (
            around t n low start (last + 1) high is_last.from (omega arith) (omega arith) is_last.first all,
            none_begin t n (last + 1) high (λ i above below. found.none i (omega arith) below),
            map-append {B = ℕ × ℕ} (λ p. (p, end_from t n p)) (ascending (begins t) low (start - low)) (start ∷ []),
            ends t n start (last + 1) (omega arith) (omega arith) all fails_behind,
          ) refl

      -- what is left of it
      pub between_start : IsBetween t n low start
      between_start = record {
        order = is_last.from;
        within = omega arith;
        from = λ some _. is.from some left;
        to = λ _ other. (is_last.all start (omega arith) is_last.some, grind (arith, nat_tests));
      }

-- behind the last and before the first there is none
pub nothing_there : (t : ℕ → Bool) (n at : ℕ) → stretches t n at at ≡ []
nothing_there t n at = let e : at - at ≡ 0 = omega arith in rw e refl

-- ---- steps

pub steps_front : (t u : ℕ → Bool) (before between after low start high : ℕ) (given : ℕ × ℕ) (o : Option ℕ)
    → IsNext t low high start → IfSome o (IsNext u start high)
    → between ≡ before + 1 + lane_steps (start / 64 - low / 64)
    → IfSome o (λ p. after ≡ between + 1 + lane_steps (p / 64 - start / 64))
    → IfNone o (start < high → after ≡ between + 1 + lane_steps ((high - 1) / 64 - start / 64))
    → Passes (unwrap_or o high / 64 - low / 64) (Some given) before after
steps_front t u before between after low start high given (Some p) next found one two none =
    record {
      least = omega (arith, next.after, found.after, one, two);
      more = omega (arith, next.after, found.after, one, two);
      most = omega (arith, next.after, found.after, one, two);
    }
steps_front t u before between after low start high given None next found one two none =
    let three = none next.below in
    record {
      least = omega (arith, next.after, next.below, one, three);
      more = omega (arith, next.after, next.below, one, three);
      most = omega (arith, next.after, next.below, one, three);
    }

pub steps_none : (before after low high : ℕ) → low ≤ high → low ≢ high
    → (low < high → after ≡ before + 1 + lane_steps ((high - 1) / 64 - low / 64))
    → Passes (high / 64 - low / 64) None before after
steps_none before after low high order left cost =
    let some : low < high = omega (arith, order, left) in
    let all = cost some in
    record { least = omega (arith, all, some); more = tt; most = omega (arith, all, some) }

-- the steps down to the start of the last stretch, which has the place before it looked at where there is one
pub steps_back : (before between after high last start : ℕ) (given : ℕ × ℕ) → last < high → start ≤ last
    → between ≡ before + 1 + lane_steps ((high - 1) / 64 - last / 64)
    → after ≤ between + 1 + lane_steps ((last - 1) / 64 - (start - 1) / 64)
    → (0 < last → between + 1 + lane_steps ((last - 1) / 64 - (start - 1) / 64) ≤ after) → between ≤ after
    → Passes (high / 64 - start / 64) (Some given) before after
steps_back before between after high last start given below some one two three grows =
    record {
      least = elim (cases_eq last 0) [
        | inl zero ↦ omega (arith, zero, below, some, one, grows)
        | inr more ↦ omega (arith, below, some, one, three (omega (arith, more)))
      ];
      more = elim (cases_eq last 0) [
        | inl zero ↦ omega (arith, zero, below, some, one, grows)
        | inr more ↦ omega (arith, below, some, one, three (omega (arith, more)))
      ];
      most = omega (arith, below, some, one, two);
    }

-- where the last one found stands before those that are left, none of these is
pub steps_behind : (before after low high last : ℕ) → last < low → low ≤ last + 1 → low ≤ high
    → after ≡ before + 1 + lane_steps ((high - 1) / 64 - last / 64)
    → Passes (high / 64 - low / 64) None before after
steps_behind before after low high last behind upto order cost =
    record {
      least = omega (arith, behind, upto, order, cost);
      more = tt;
      most = omega (arith, behind, upto, order, cost);
    }
