-- The rights of each role after one set is changed, and after one more is made.
use Rattle.std.proofs.Common.{◌≡◌, ◌≢◌, ◌∙◌, ℕ, ◌+◌, ◌<◌, ◌≤◌, ◌⊎◌, ◌↔◌, inl, inr, IsTrue, List}
use Rattle.std.proofs.Common.{[], ◌∷◌, ◌++◌, min, length, get_or, set, refl, sym, ap, subst}
use Rattle.std.proofs.Common.{arith, length-append, ⊎_elim, All, Option, Some, None, MatchOption}
use Rattle.std.proofs.lemmas.Bool.{cases_eq, cases_lt, true≢false, false_from_ne_true}
use Rattle.std.proofs.lemmas.List.{get_or-set_other, get_or-set_same, get_or_default, get_or_append_left, get_or_past}
use Rattle.std.proofs.lemmas.List.Elements.{All-set, All-weaker}
use Rattle.std.proofs.Math.Seq.{get_or-append_seam}
use Rattle.fixedbitset.specs.Bits.{Bits, contains, empty, insert, remove, minimum}
use Rattle.fixedbitset.specs.BitsFacts.{contains_below, length-empty}
use Rattle.fixedbitset.specs.TwoSets.{bitand, difference}
use Rattle.fixedbitset.specs.TwoSetsFacts.{is_subset-tells, first_lacking_least, first_lacking_none}
use Rattle.uses.specs.Policies.{Rights, Has, IsLeastMissing}
use Rattle.fixedbitset.specs.MemberFacts.{in_empty, in_insert, in_remove, in_bitand}

-- a role's set has the right
abbrev pub In : List Bits → ℕ → ℕ → Type 0
In sets role right = IsTrue (contains (get_or sets role (empty 0)) right)

-- ---- one set changed

module _ (sets : List Bits) (role : ℕ) (new : Bits) (within : role < length sets) where
  in_other : (r x : ℕ) → r ≢ role → In (set sets role new) r x ≡ In sets r x
  in_other r x ne = ap (λ s. IsTrue (contains s x)) (get_or-set_other sets role r new (empty 0) ne)

  in_same : (x : ℕ) → In (set sets role new) role x ≡ IsTrue (contains new x)
  in_same x = ap (λ s. IsTrue (contains s x)) (get_or-set_same sets role new (empty 0) within)

  -- the rights of the role are those of the new set, and the rights of the others are kept
  pub changed : (Q : ℕ → ℕ → Type 0) → ((x : ℕ) → IsTrue (contains new x) ↔ Q role x)
      → ((r x : ℕ) → r ≢ role → In sets r x ↔ Q r x) → (r x : ℕ) → In (set sets role new) r x ↔ Q r x
  changed Q here there r x =
      ⊎_elim
      (λ (e : r ≡ role). subst (λ y. In (set sets role new) y x ↔ Q y x) (sym e)
      (subst (λ (t : Type 0). t ↔ Q role x) (sym (in_same x)) (here x)))
      (λ (ne : r ≢ role). subst (λ (t : Type 0). t ↔ Q r x) (sym (in_other r x ne)) (there r x ne))
      (cases_eq r role)

module _ (policy : Rights) (sets : List Bits) (role right : ℕ) (old : Bits) (same : sets ≡ policy.roles)
    (within : role < length sets) (is : old ≡ get_or sets role old) where
  read : old ≡ get_or policy.roles role (empty 0)
  read = is ∙ get_or_default sets role old (empty 0) within ∙ ap (λ (l : List Bits). get_or l role (empty 0)) same

  pub has : (x : ℕ) → IsTrue (contains old x) → Has policy role x
  has x one = subst (λ s. IsTrue (contains s x)) read one

  pub had : (x : ℕ) → Has policy role x → IsTrue (contains old x)
  had x one = subst (λ s. IsTrue (contains s x)) (sym read) one

  -- the least of the rights asked for that its set lacks
  pub missed : (asked : Bits) (found : Option ℕ) → found ≡ minimum (difference asked old)
      → MatchOption found ((x : ℕ) → IsTrue (contains asked x) → Has policy role x)
      (IsLeastMissing policy role (λ x. IsTrue (contains asked x)))
  missed asked None none =
      λ x one. has x ((is_subset-tells asked old).0 ((first_lacking_none old asked).0 (sym none)) x one)
  missed asked (Some p) some =
      let least = first_lacking_least old asked p (sym some) in
      record {
        asked = least.0;
        missing = λ there. true≢false (sym (had p there) ∙ least.1);
        least = λ q one lacks. least.2 q one (false_from_ne_true _ (λ there. lacks (has q there)));
      }

  kept : (r x : ℕ) → In sets r x ≡ Has policy r x
  kept r x = ap (λ (l : List Bits). In l r x) same

  pub granted : right < old.length → (r x : ℕ) → In (set sets role (insert old right)) r x
      ↔ (Has policy r x ⊎ ((r ≡ role) × (x ≡ right)))
  granted below =
      changed sets role (insert old right) within (λ r x. Has policy r x ⊎ ((r ≡ role) × (x ≡ right)))
      (λ x. (
        λ one. ⊎_elim (λ e. inr (refl, e)) (λ was. inl (has x was)) ((in_insert old right x below).0 one),
        λ parts. (in_insert old right x below).1 (⊎_elim (λ was. inr (had x was)) (λ new. inl new.1) parts),
      ))
      (λ r x ne. (
        λ was. inl (subst (λ (t : Type 0). t) (kept r x) was),
        λ parts. ⊎_elim (λ was. subst (λ (t : Type 0). t) (sym (kept r x)) was) (λ new. absurd (ne new.0)) parts,
      ))

  pub revoked : (r x : ℕ) → In (set sets role (remove old right)) r x ↔ (Has policy r x × ¬ ((r ≡ role) × (x ≡ right)))
  revoked =
      changed sets role (remove old right) within (λ r x. Has policy r x × ¬ ((r ≡ role) × (x ≡ right)))
      (λ x. (
        λ one. let parts = (in_remove old right x).0 one in (has x parts.1, λ gone. parts.0 gone.1),
        λ parts. (in_remove old right x).1 (λ e. parts.1 (refl, e), had x parts.0),
      ))
      (λ r x ne. (
        λ was. (subst (λ (t : Type 0). t) (kept r x) was, λ gone. ne gone.0),
        λ parts. subst (λ (t : Type 0). t) (sym (kept r x)) parts.0,
      ))

-- ---- one set after another

-- the sets of the first roles are those of both
abbrev pub AreBoth : List Bits → List Bits → List Bits → Type 0
AreBoth a b sets = (r x : ℕ) → r < length sets → In sets r x ↔ (In a r x × In b r x)

pub both_more : (a b sets : List Bits) (v w : Bits) → v ≡ get_or a (length sets) (empty 0)
    → w ≡ get_or b (length sets) (empty 0) → AreBoth a b sets → AreBoth a b (sets ++ bitand v w ∷ [])
both_more a b sets v w v_is w_is so_far r x within =
    let long : length (sets ++ bitand v w ∷ []) ≡ length sets + 1 = simp length-append in
    ⊎_elim
    (λ (before : r < length sets). subst (λ s. IsTrue (contains s x) ↔ (In a r x × In b r x))
    (sym (get_or_append_left sets (bitand v w ∷ []) (empty 0) r before)) (so_far r x before))
    (λ (not_before : length sets ≤ r).
    let last : r ≡ length sets = omega arith in
    subst (λ y. In (sets ++ bitand v w ∷ []) y x ↔ (In a y x × In b y x)) (sym last)
    (subst (λ s. IsTrue (contains s x) ↔ (In a (length sets) x × In b (length sets) x))
    (sym (get_or-append_seam sets (bitand v w) [] (empty 0)))
    (subst (λ s. IsTrue (contains (bitand v w) x) ↔ (IsTrue (contains s x) × In b (length sets) x)) v_is
    (subst (λ s. IsTrue (contains (bitand v w) x) ↔ (IsTrue (contains v x) × IsTrue (contains s x))) w_is
    (in_bitand v w x)))))
    (cases_lt r (length sets))

-- a role past the end has no right
pub none_past : (sets : List Bits) (r x : ℕ) → length sets ≤ r → ¬ (In sets r x)
none_past sets r x past one = in_empty 0 x (subst (λ s. IsTrue (contains s x)) (get_or_past sets r (empty 0) past) one)

pub both_all : (a b sets : List Bits) → length sets ≡ min (length a) (length b) → AreBoth a b sets → (r x : ℕ)
    → In sets r x ↔ (In a r x × In b r x)
both_all a b sets long each r x =
    ⊎_elim
    (λ (within : r < length sets). each r x within)
    (λ (past : length sets ≤ r). (
      λ one. absurd (none_past sets r x past one),
      λ parts.
          ⊎_elim
          (λ (in_a : r < length a). absurd (none_past b r x (omega arith) parts.1))
          (λ (past_a : length a ≤ r). absurd (none_past a r x past_a parts.0))
          (cases_lt r (length a)),
    ))
    (cases_lt r (length sets))

-- nothing is given at first
pub none_at_first : (rights : ℕ) (sets : List Bits) → All (λ s. s ≡ empty rights) sets → (r x : ℕ) → ¬ (In sets r x)
none_at_first rights sets blank r x one =
    ⊎_elim
    (λ (within : r < length sets).
    in_empty rights x (subst (λ s. IsTrue (contains s x)) (blank r (empty 0) within) one))
    (λ (past : length sets ≤ r). none_past sets r x past one)
    (cases_lt r (length sets))

pub sized_at_first : (rights : ℕ) (sets : List Bits) → All (λ s. s ≡ empty rights) sets
    → All (λ s. s.length ≡ rights) sets
sized_at_first rights sets blank =
    All-weaker (λ s. s ≡ empty rights) (λ s. s.length ≡ rights)
    (λ s e. ap (λ (v : Bits). v.length) e ∙ length-empty rights) sets blank

-- a set changed to one of its length
pub sized_after : (rights : ℕ) (sets : List Bits) (role : ℕ) (old new : Bits) → old ≡ get_or sets role old
    → role < length sets → new.length ≡ old.length → All (λ s. s.length ≡ rights) sets
    → All (λ s. s.length ≡ rights) (set sets role new)
sized_after rights sets role old new is within same sized =
    All-set (λ (s : Bits).
    s.length ≡ rights) sets role new (same ∙ ap (λ (s : Bits). s.length) is ∙ sized role old within) sized

-- no role has another right
pub right_below : (rights : ℕ) (sets : List Bits) (r x : ℕ) → All (λ s. s.length ≡ rights) sets → In sets r x
    → x < rights
right_below rights sets r x sized one =
    ⊎_elim
    (λ (within : r < length sets).
    let below = contains_below (get_or sets r (empty 0)) x one in let long = sized r (empty 0) within in omega arith)
    (λ (past : length sets ≤ r). absurd (none_past sets r x past one))
    (cases_lt r (length sets))
