-- The loop of one turn: the facts of each node after something went along an edge, the calls for it, the sets that
-- rounds reach, the edges that may have something to pass on, and the edges so far.
use Rattle.std.proofs.Common.{◌≡◌, ◌≢◌, ◌∙◌, ℕ, ◌+◌, ◌*◌, ◌<◌, ◌≤◌, ◌⊎◌, ◌↔◌, Bool, true}
use Rattle.std.proofs.Common.{false, cond, ◌==◌, inl, inr, IsTrue, length, get_or, set}
use Rattle.std.proofs.Common.{replicate, take, drop, sym, ap, subst, arith, rules, ⊎_elim, not}
use Rattle.std.specs.Prelude.{Contains}
use Rattle.std.proofs.lemmas.Bool.{cases_eq, cases_lt}
use Rattle.std.proofs.lemmas.Bool.Decides.{nat_tests}
use Rattle.std.proofs.lemmas.Grind.{common_steps}
use Rattle.std.proofs.lemmas.List.{get_or-set_same, get_or-set_other, get_or-replicate, get_or_past, length-set}
use Rattle.std.proofs.lemmas.List.{length-replicate, take_all, drop_more, get_or_default, set-get_or}
use Rattle.std.proofs.lemmas.List.Elements.{All-contains, All-set, All-replicate, All-more}
use Rattle.std.proofs.lemmas.List.Elements.{All-head, All-rest, All-weaker, Contains-get_or}
use Rattle.fixedbitset.specs.Bits.{Bits, contains, empty, insert}
use Rattle.fixedbitset.specs.BitsFacts.{length-empty, length-insert, contains-empty, same_bits}
use Rattle.fixedbitset.specs.MemberFacts.{in_insert}
use Rattle.fixedbitset.specs.RangesFacts.{length-insert_range, contains-insert_range}
use Rattle.fixedbitset.specs.TwoSets.{union, difference, is_subset}
use Rattle.fixedbitset.specs.TwoSetsFacts.{length-union, length-difference, contains-union}
use Rattle.fixedbitset.specs.TwoSetsFacts.{contains-difference, is_subset-tells}
use Rattle.flow.specs.Flow.{Edges, Sets, at, Has, AreBelow, HaveLength, IsProblem}
use Rattle.flow.specs.Flow.{IsSolution, IsLeast, ComesOut, generated, along, ArePaths}
use Rattle.flow.specs.Turns.{Fits, IsReached, IsPassed, AreSettled, AreSettledBut, all, total, ins_after, outs_after}
use Rattle.flow.proofs.Totals.{total_more}

-- ---- the facts of each node after something went along an edge

-- one set replaced
has-set : (sets : Sets) (v : ℕ) (x : Bits) (w p : ℕ) → v < length sets
    → contains (at (set sets v x) w) p ≡ cond (w == v) (contains x p) (contains (at sets w) p)
has-set sets v x w p within =
    grind (arith, nat_tests, get_or-set_same sets v x (empty 0) within, get_or-set_other sets v w x (empty 0))

-- along an edge from u to v
pub in_ins_after : (ins outs : Sets) (u v w p : ℕ) → v < length ins
    → Has (ins_after ins outs u v) w p ↔ (Has ins w p ⊎ ((w ≡ v) × Has outs u p))
unfolding ins_after
in_ins_after ins outs u v w p within =
    grind (
      arith,
      nat_tests,
      has-set ins v (union (at ins v) (at outs u)) w p within,
      contains-union (at ins v) (at outs u) p,
    )

pub in_outs_after : (kills outs : Sets) (u v w p : ℕ) → v < length outs
    → Has (outs_after kills outs u v) w p ↔ (Has outs w p ⊎ ((w ≡ v) × Has outs u p × ¬ (Has kills v p)))
unfolding outs_after
in_outs_after kills outs u v w p within =
    let new = has-set outs v (union (at outs v) (difference (at outs u) (at kills v))) w p within in
    let taken = contains-union (at outs v) (difference (at outs u) (at kills v)) p in
    let left = contains-difference (at outs u) (at kills v) p in
    grind (arith, nat_tests, new, taken, left)

-- ---- the sets after the calls that let something go along an edge

-- a set that takes in one of its subsets
union_subset : (v w : Bits) → w.length ≡ v.length → ((p : ℕ) → IsTrue (contains w p) → IsTrue (contains v p))
    → union v w ≡ v
union_subset v w long all =
    same_bits _ _ (length-union v w ∙ omega arith) (λ p. grind (arith, contains-union v w p, all p))

-- Out takes in all of In that is spared, or what came to In that is spared: that is the same
spared_union : (out in_set came kill : Bits) → in_set.length ≡ out.length → came.length ≡ out.length
    → ((p : ℕ) → IsTrue (contains in_set p) → ¬ (IsTrue (contains kill p)) → IsTrue (contains out p))
    → union out (difference (union in_set came) kill) ≡ union out (difference came kill)
spared_union out in_set came kill long_in long_came spared =
    same_bits _ _ (omega (arith, length-union, length-difference))
    (λ p. let kept = spared p in grind (arith, contains-union, contains-difference, kept))

module _ (facts : ℕ) (kills ins outs : Sets) (u v : ℕ) (fits : Fits facts kills ins outs) (u_below : u < length ins)
    (v_below : v < length ins) where
  ins_long : (at ins v).length ≡ facts
  ins_long = fits.ins_length v (empty 0) v_below

  outs_long : (w : ℕ) → w < length ins → (at outs w).length ≡ facts
  outs_long w below = let many = fits.outs_for.0 in fits.outs_for.1 w (empty 0) (omega arith)

  module _ (x y new : Bits) (taken : new ≡ union (get_or ins v x) (get_or outs u y)) where
    x_at : get_or ins v x ≡ at ins v
    x_at = get_or_default ins v x (empty 0) v_below

    outs_at : (w : ℕ) (d : Bits) → w < length ins → get_or outs w d ≡ at outs w
    outs_at w d below = let many = fits.outs_for.0 in get_or_default outs w d (empty 0) (omega arith)

    new_at : new ≡ union (at ins v) (at outs u)
    new_at = cc (x_at, outs_at u y u_below)

    read_back : (d : Bits) → get_or (set ins v new) v d ≡ union (at ins v) (at outs u)
    read_back d = get_or-set_same ins v new d v_below ∙ new_at

    pub ins_passed : set ins v new ≡ ins_after ins outs u v
    unfolding ins_after
    ins_passed = ap (set ins v) new_at

    pub outs_passed : (n z k left : Bits) → k ≡ get_or kills v k
        → left ≡ union (get_or outs v z) (difference (get_or (set ins v new) v n) k)
        → set outs v left ≡ outs_after kills outs u v
    unfolding outs_after
    outs_passed n z k left read given =
        let many = fits.kills_for.0 in
        let kill : get_or kills v k ≡ at kills v = get_or_default kills v k (empty 0) (omega arith) in
        let own = outs_long v v_below in
        let spared = spared_union (at outs v) (at ins v) (at outs u) (at kills v) (ins_long ∙ sym own)
        (outs_long u u_below ∙ sym own) (fits.spared v) in
        cc (read_back n, kill, outs_at v z v_below, spared)

    -- Out and the new In are equally long
    pub as_long : (n z : Bits) → (get_or (set ins v new) v n).length ≡ (get_or outs v z).length
    as_long n z =
        rw (read_back n, outs_at v z v_below)
        (omega (arith, length-union, ins_long, outs_long u u_below, outs_long v v_below))

    module _ (changed : Bool) (told : changed ≡ not (is_subset (get_or outs u y) (get_or ins v x))) where
      told_at : changed ≡ not (is_subset (at outs u) (at ins v))
      told_at = cc (x_at, outs_at u y u_below)

      pub none_passed : changed ≡ false → IsPassed ins outs (u, v)
      none_passed none = (is_subset-tells (at outs u) (at ins v)).0 (grind (arith, told_at))

      pub some_passed : changed ≡ true → ¬ (IsPassed ins outs (u, v))
      some_passed some passed = absurd (grind (arith, told_at, (is_subset-tells (at outs u) (at ins v)).1 passed))

      -- where nothing went along, nothing is changed
      pub none_written : changed ≡ false → set ins v new ≡ ins
      none_written none =
          ap (set ins v) (new_at ∙ union_subset (at ins v) (at outs u) (outs_long u u_below ∙ sym ins_long)
          (none_passed none)) ∙ set-get_or ins v (empty 0)

-- ---- the sets that rounds reach

nothing : (n facts v p : ℕ) → ¬ (Has (replicate n (empty facts)) v p)
nothing n facts v p has =
    absurd (grind (
      arith,
      common_steps,
      get_or-replicate n v (empty facts) (empty 0),
      get_or_past (replicate n (empty facts)) v (empty 0),
      contains-empty facts p,
      contains-empty 0 p,
    ))

-- at first nothing in any In, and each Out is Gen
pub reached_start : (edges : Edges) (gens kills ins outs : Sets) (n facts : ℕ) → ins ≡ replicate n (empty facts)
    → outs ≡ gens → IsReached edges gens kills ins outs
reached_start edges gens kills ins outs n facts blank copied = rw (blank, copied) (record {
  from_edges = λ v p below has. absurd (nothing n facts v p has);
  of_outs = λ v p below. let none = nothing n facts v p in grind (arith, none);
  by_paths = λ v p below has. generated v has;
})

-- what goes along an edge keeps the sets on the way to the least solution
reached_after : (edges : Edges) (gens kills ins outs : Sets) (u v : ℕ) → Contains edges (u, v) → v < length ins
    → v < length outs → u < length gens
    → IsReached edges gens kills ins outs
    → IsReached edges gens kills (ins_after ins outs u v) (outs_after kills outs u v)
reached_after edges gens kills ins outs u v edge in_ins in_outs u_below r = record {
  from_edges = λ w p below has.
      ⊎_elim
      (λ old. let from = r.from_edges w p below old in
      (from.0, from.1, (in_outs_after kills outs u v from.0 p in_outs).1 (inl from.2)))
      (λ got. (u, rw got.0 edge, (in_outs_after kills outs u v u p in_outs).1 (inl got.1)))
      ((in_ins_after ins outs u v w p in_ins).0 has);
  of_outs = λ w p below.
      let new_ins = in_ins_after ins outs u v w p in_ins in
      let new_outs = in_outs_after kills outs u v w p in_outs in
      let old = r.of_outs w p below in
      grind (arith, new_ins, new_outs, old);
  by_paths = λ w p below has.
      ⊎_elim
      (λ old. r.by_paths w p below old)
      (λ got. rw got.0 (along u v (r.by_paths u p u_below got.1) edge got.2))
      ((in_outs_after kills outs u v w p in_outs).0 has);
}

pub solution_settled : (edges : Edges) (gens kills ins outs : Sets) → IsReached edges gens kills ins outs
    → AreSettled edges ins outs → IsSolution edges gens kills ins outs
solution_settled edges gens kills ins outs r settled = record {
  of_ins = λ v p below.
      (r.from_edges v p below, λ from. All-contains (IsPassed ins outs) edges (from.0, v) settled from.1 p from.2);
  of_outs = r.of_outs;
}

module _ (edges : Edges) (gens kills ins outs : Sets) (below : AreBelow (length gens) edges)
    (solution : IsSolution edges gens kills ins outs) where
  -- what comes out of a node is in its Out, in each solution
  pub in_solution : (p v : ℕ) → v < length gens → ComesOut edges gens kills p v → Has outs v p
  in_solution p _ v_below (generated v gen) = (solution.of_outs v p v_below).1 (inl gen)
  in_solution p _ v_below (along u v from edge spared) =
      let ends = All-contains (λ e. (e.0 < length gens) × (e.1 < length gens)) edges (u, v) below edge in
      (solution.of_outs v p v_below).1
      (inr ((solution.of_ins v p v_below).1 (u, edge, in_solution p u ends.0 from), spared))

module _ (edges : Edges) (gens kills ins outs : Sets) (below : AreBelow (length gens) edges)
    (r : IsReached edges gens kills ins outs) where
  pub least_reached : IsLeast edges gens kills ins outs
  least_reached other_ins other_outs solution v p v_below =
      let there : (u : ℕ) → u < length gens → Has outs u p → Has other_outs u p = λ u u_below has.
      in_solution edges gens kills other_ins other_outs below solution p u u_below (r.by_paths u p u_below has) in (
        λ has.
            let from = r.from_edges v p v_below has in
            let ends = All-contains (λ e. (e.0 < length gens) × (e.1 < length gens)) edges (from.0, v) below from.1 in
            (solution.of_ins v p v_below).1 (from.0, from.1, there from.0 ends.0 from.2),
        there v v_below,
      )

  pub paths_settled : AreSettled edges ins outs → ArePaths edges gens kills outs
  paths_settled settled v p v_below = (
    r.by_paths v p v_below,
    in_solution edges gens kills ins outs below (solution_settled edges gens kills ins outs r settled) p v v_below,
  )

-- ---- the edges that may have something to pass on

pub length-all : (n : ℕ) → (all n).length ≡ n
length-all n = length-insert_range (empty n) 0 n ∙ length-empty n

-- the first node of the edge is one of these, or all that it has went along the edge
abbrev MayPass : Bits → Sets → Sets → ℕ × ℕ → Type 0
MayPass nodes ins outs edge = IsTrue (contains nodes edge.0) ⊎ IsPassed ins outs edge

-- of all nodes each is one
pub pending_first : (nodes : Bits) (edges : Edges) (ins outs : Sets) → nodes ≡ all (length ins)
    → AreBelow (length ins) edges → AreSettledBut nodes edges ins outs
pending_first nodes edges ins outs full below k d within =
    let u : ℕ = (get_or edges k d).0 in
    let ends = below k d within in
    inl (rw full
    (grind (arith, nat_tests, contains-insert_range (empty (length ins)) 0 (length ins) u, length-empty, ends)))

module _ (kills ins outs : Sets) (u v : ℕ) (v_in : v < length ins) (v_out : v < length outs) (nodes : Bits)
    (v_node : v < nodes.length) where
  -- v is a node that may, now
  done_unless : (e : ℕ × ℕ) → (e.0 ≢ v → MayPass nodes (ins_after ins outs u v) (outs_after kills outs u v) e)
      → MayPass (insert nodes v) (ins_after ins outs u v) (outs_after kills outs u v) e
  done_unless e done =
      ⊎_elim
      (λ same. inl ((in_insert nodes v e.0 v_node).1 (inl same)))
      (λ apart. ⊎_elim (λ one. inl ((in_insert nodes v e.0 v_node).1 (inr one))) (λ passed. inr passed) (done apart))
      (cases_eq e.0 v)

  done_itself : MayPass (insert nodes v) (ins_after ins outs u v) (outs_after kills outs u v) (u, v)
  done_itself =
      done_unless (
        u,
        v,
      ) (λ apart.
      inr (λ p has. grind (arith, apart, in_ins_after ins outs u v v p v_in, in_outs_after kills outs u v u p v_out)))

  pending_after : (edges : Edges) → AreSettledBut nodes edges ins outs
      → AreSettledBut (insert nodes v) edges (ins_after ins outs u v) (outs_after kills outs u v)
  pending_after edges pending =
      All-weaker _ _ (λ e done. done_unless e (λ apart.
      ⊎_elim
      (λ (one : IsTrue (contains nodes e.0)). inl one)
      (λ (passed : IsPassed ins outs e). inr (λ p has.
      let was = passed p in
      grind (arith, apart, was, in_ins_after ins outs u v e.1 p v_in, in_outs_after kills outs u v e.0 p v_out)))
      done)) edges pending

-- ---- one turn

-- a set takes in one of the length of all
have_joined : (facts : ℕ) (sets : Sets) (v : ℕ) (w : Bits) → HaveLength facts sets → v < length sets → w.length ≡ facts
    → HaveLength facts (set sets v (union (at sets v) w))
have_joined facts sets v w have within same =
    let own = have v (empty 0) within in
    All-set (λ set. set.length ≡ facts) sets v (union (at sets v) w) (length-union (at sets v) w ∙ omega arith) have

fits_after : (facts : ℕ) (kills ins outs : Sets) (u v : ℕ) → Fits facts kills ins outs → u < length ins → v < length ins
    → Fits facts kills (ins_after ins outs u v) (outs_after kills outs u v)
unfolding ins_after outs_after
fits_after facts kills ins outs u v fits u_below v_below =
    let many_outs = fits.outs_for.0 in
    let many_kills = fits.kills_for.0 in
    let v_in : v < length outs = omega arith in
    let came = fits.outs_for.1 u (empty 0) (omega arith) in
    record {
      kills_for = (omega (arith, length-set {A = Bits}), fits.kills_for.1);
      ins_length = have_joined facts ins v (at outs u) fits.ins_length v_below came;
      outs_for = (
        omega (arith, length-set {A = Bits}),
        have_joined facts outs v (difference (at outs u) (at kills v)) fits.outs_for.1 v_in
            (length-difference (at outs u) (at kills v) ∙ came),
      );
      spared = λ w p has kept.
          let was = fits.spared w p in
          grind (arith, in_ins_after ins outs u v w p v_below, in_outs_after kills outs u v w p v_in, was);
    }

-- what holds after n edges, where `ins0` and `outs0` are the sets before the turn
pub record Turned (facts : ℕ) (edges : Edges) (kills ins0 outs0 : Sets) (n : ℕ) (ins outs : Sets) (due next : Bits)
    (changed : Bool) : Type 0 where
  pub many : length ins ≡ length ins0
  pub fits : Fits facts kills ins outs
  pub reached : (gens : Sets) → length gens ≡ length ins0 → IsReached edges gens kills ins0 outs0
      → IsReached edges gens kills ins outs
  pub due_nodes : due.length ≡ length ins0
  pub next_nodes : next.length ≡ length ins0
  pub behind : AreSettledBut next (take n edges) ins outs
  pub ahead : AreSettledBut due (drop n edges) ins outs
  pub same : changed ≡ false → next ≡ empty (length ins0)
  pub more : total facts ins0 ≤ total facts ins
  pub grows : changed ≡ true → total facts ins0 < total facts ins

module _ (facts : ℕ) (edges : Edges) (kills ins0 outs0 : Sets) (n : ℕ) (ins outs : Sets) (due next : Bits)
    (changed : Bool) (e : ℕ × ℕ) (within : n < length edges)
    (before : Turned facts edges kills ins0 outs0 n ins outs due next changed) where
  ahead_rest : AreSettledBut due (drop (n + 1) edges) ins outs
  ahead_rest =
      All-rest (MayPass due ins outs) (get_or edges n e) (drop (n + 1) edges) (drop n edges)
      (drop_more edges n e within) before.ahead

  -- nothing went along the next edge
  pub turned_kept : (IsTrue (contains due (get_or edges n e).0) → IsPassed ins outs (get_or edges n e))
      → Turned facts edges kills ins0 outs0 (n + 1) ins outs due next changed
  turned_kept kept =
      let first = All-head (MayPass due ins outs) (get_or edges n e) (drop (n + 1) edges)
      (subst (λ es. AreSettledBut due es ins outs) (drop_more edges n e within) before.ahead) in
      let behind : AreSettledBut next (take (n + 1) edges) ins outs = All-more (MayPass next ins outs) edges n e within
      before.behind (inr (⊎_elim kept (λ passed. passed) first)) in
      search (rules, arith, ahead_rest)

  -- something did
  pub turned_passed : AreBelow (length ins0) edges → ¬ (IsPassed ins outs (get_or edges n e))
      → Turned facts edges kills ins0 outs0 (n + 1) (ins_after ins outs (get_or edges n e).0 (get_or edges n e).1)
      (outs_after kills outs (get_or edges n e).0 (get_or edges n e).1)
      (insert due (get_or edges n e).1) (insert next (get_or edges n e).1) true
  turned_passed below apart =
      let u : ℕ = (get_or edges n e).0 in
      let v : ℕ = (get_or edges n e).1 in
      let ends = below n e within in
      let same = before.many in
      let many_outs = before.fits.outs_for.0 in
      let many_kills = before.fits.kills_for.0 in
      let u_below : u < length ins = omega (arith, ends.0) in
      let v_below : v < length ins = omega (arith, ends.1) in
      let v_out : v < length outs = omega arith in
      let v_due : v < due.length = omega (arith, before.due_nodes) in
      let v_next : v < next.length = omega (arith, before.next_nodes) in
      let larger = total_more facts ins outs u v v_below (before.fits.outs_for.1 u (empty 0) (omega arith)) apart in
      let fits = fits_after facts kills ins outs u v before.fits u_below v_below in
      record {
        many = omega (arith, fits.kills_for.0);
        fits = fits;
        reached = λ gens many r. reached_after edges gens kills ins outs u v (Contains-get_or edges n e within) v_below
            v_out (omega (arith, many)) (before.reached gens many r);
        due_nodes = length-insert due v ∙ before.due_nodes;
        next_nodes = length-insert next v ∙ before.next_nodes;
        behind =
            All-more (MayPass (insert next v) (ins_after ins outs u v) (outs_after kills outs u v)) edges n e within
            (pending_after kills ins outs u v v_below v_out next v_next (take n edges) before.behind)
            (done_itself kills ins outs u v v_below v_out next v_next);
        ahead = pending_after kills ins outs u v v_below v_out due v_due (drop (n + 1) edges) ahead_rest;
        same = λ not_changed. cc;
        more = omega (arith, before.more);
        grows = λ _. omega (arith, before.more);
      }

module _ (facts : ℕ) (edges : Edges) (kills ins0 outs0 : Sets) (n : ℕ) (ins outs : Sets) (due next : Bits)
    (changed : Bool) (past : length edges ≤ n)
    (turned : Turned facts edges kills ins0 outs0 n ins outs due next changed) where
  pub turned_next : AreSettledBut next edges ins outs
  turned_next = subst (λ es. AreSettledBut next es ins outs) (take_all n edges past) turned.behind

  pub turned_end : changed ≡ false → AreSettled edges ins outs
  turned_end same k d within =
      let none = turned.same same in
      ⊎_elim (λ one. absurd (grind (arith, one, none, contains-empty))) (λ passed. passed) (turned_next k d within)

-- ---- before the first turn, and after the last

-- the sets before the first round
pub fits_first : (facts : ℕ) (edges : Edges) (gens kills ins outs : Sets) → IsProblem facts edges gens kills
    → ins ≡ replicate (length gens) (empty facts) → outs ≡ gens → Fits facts kills ins outs
fits_first facts edges gens kills ins outs problem blank copied =
    let equal = problem.equally_many in
    let many : length (replicate (length gens) (empty facts)) ≡ length gens =
    length-replicate (length gens) (empty facts) in
    rw (blank, copied) (record {
      kills_for = (omega arith, problem.kills_length);
      ins_length = All-replicate (λ set. set.length ≡ facts) (length gens) (empty facts) (length-empty facts);
      outs_for = (sym many, problem.gens_length);
      spared = λ v p has _. absurd (nothing (length gens) facts v p has);
    })

-- where there is no node, each length is that of the sets
pub fits_other : (facts other : ℕ) (kills ins outs : Sets) → (0 < length kills → facts ≡ other)
    → Fits facts kills ins outs → Fits other kills ins outs
fits_other facts other kills ins outs same fits =
    let many = fits.kills_for.0 in
    let many_outs = fits.outs_for.0 in
    record {
      kills_for = (many, λ k d within. fits.kills_for.1 k d within ∙ same (omega arith));
      ins_length = λ k d within. fits.ins_length k d within ∙ same (omega arith);
      outs_for = (many_outs, λ k d within. fits.outs_for.1 k d within ∙ same (omega arith));
      spared = fits.spared;
    }

-- so many facts of all nodes
pub all_facts : (n facts other : ℕ) → (0 < n → facts ≡ other) → n * facts ≡ n * other
all_facts n facts other same =
    ⊎_elim
    (λ (some : 0 < n). ap (λ m. n * m) (same some))
    (λ (no : n ≤ 0). let none : n ≡ 0 = omega arith in rw none (omega arith))
    (cases_lt 0 n)
