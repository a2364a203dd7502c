use Rattle.std.proofs.Common.{rules, All, ◌≡◌, ◌∙◌, ℕ, ◌<◌, IsTrue, inl, inr, refl, true, false, Vec}
use Rattle.std.proofs.Common.{List, [], ◌∷◌, ◌++◌, length, get_or, sym, ap, subst, arith, length-append}
use Rattle.std.specs.Prelude.{Contains, sum_by}
use Rattle.std.proofs.lemmas.List.Sums.{sum_by-append}
use Rattle.std.proofs.lemmas.List.{take_all, nil_from_length}
use Rattle.std.proofs.lemmas.List.Elements.{All-head, All-weaker, All-more, Contains-get_or}
use Rattle.std.specs.declared.alloc.Global.{Global}
use Rattle.fixedbitset.specs.Bits.{Bits, contains, insert, empty}
use Rattle.fixedbitset.specs.BitsFacts.{length-empty}
use Rattle.uses.specs.Reach.{size, edges_from}
use Rattle.fixedbitset.specs.MemberFacts.{in_insert}
use Rattle.fixedbitset.specs.SizeFacts.{count_ones-insert, count_ones-most, insert-set}
use Rattle.uses.proofs.EdgeCounts.{degree, degree_row, leaving_more, leaving_first, leaving_most, size_first}
use Rattle.uses.proofs.Walking.{Walking, walking_first, walking_more, walking_taken, walking_done}
use Rattle.uses.proofs.Walking.{walking_end, pending_below, edge_in, edges_all, edge_below, path_more}
use Rattle.uses.proofs.reach.walk.reachable.Goals as goal
use Rattle.uses.proofs.reach.walk.reachable.Goals.{then-not-put+in_ok-push-2, else-not-put}

pub insert-requires : goal.insert-requires
insert-requires c =
    let e = ap (λ v. v.length) c.in_ok-reached.ensures in omega (arith, length-empty (length c.args.graph.now))

pub turns-init : goal.turns-init
turns-init c =
    let set : c.insert.new.self ≡ insert (empty (length c.args.graph.now)) c.args.start = c.insert.ensures
    ∙ ap (λ v. insert v c.args.start) c.in_ok-reached.ensures in
    let items : c.push.new.self.items ≡ c.args.start ∷ [] = c.in_ok-push.ensures.items
    ∙ ap (λ xs. xs ++ c.args.start ∷ []) c.new-to_do.ensures.items in
    record {
      walking = rw (set, items) (walking_first c.args.graph.now c.args.start c.requires.start);
      taken =
          omega
          (arith, ap length items, ap size set, size_first (length c.args.graph.now) c.args.start c.requires.start);
      looked =
          omega (
            arith,
            ap (sum_by (degree c.args.graph.now)) items,
            ap (λ v. edges_from v 0 c.args.graph.now) set,
            leaving_first c.args.graph.now c.args.start c.requires.start,
          );
    }

pub bounds-graph-node : goal.bounds-graph-node
bounds-graph-node c =
    pending_below _ _ _ _ _ (walking_taken _ _ _ c.pop.new.self.items c.in-Some.node
    (subst (Walking c.args.graph.now c.args.start c.turns.reached) c.in-Some.ensures.items c.turns.invariant.walking))

pub loop-next-init : goal.loop-next-init
loop-next-init c =
    let walking = walking_taken _ _ _ c.pop.new.self.items c.in-Some.node
    (subst (Walking c.args.graph.now c.args.start c.turns.reached) c.in-Some.ensures.items c.turns.invariant.walking) in
    let row = degree_row c.args.graph.now c.in-Some.node c.index-graph-node.result (pending_below _ _ _ _ _ walking)
    c.index-graph-node.is in
    record {
      walking = walking;
      taken = omega (arith, c.turns.invariant.taken, ap length c.in-Some.ensures.items, length-append {A = ℕ});
      looked =
          omega (
            arith,
            c.turns.invariant.looked,
            ap (sum_by (degree c.args.graph.now)) c.in-Some.ensures.items,
            sum_by-append (degree c.args.graph.now) c.pop.new.self.items (c.in-Some.node ∷ []),
            row,
            ap length c.deref-next-items.ensures.value,
          );
      passed = λ k d within. absurd (omega arith);
    }

pub turns-smaller : goal.turns-smaller
turns-smaller c =
    omega (arith, c.loop-next.invariant.taken, count_ones-most c.loop-next.reached, c.loop-next.invariant.walking.nodes)

pub turns-preserved : goal.turns-preserved
turns-preserved c =
    let node_below : c.in-Some.node < length c.args.graph.now = pending_below _ _ _ _ _ c.loop-next.invariant.walking in
    let passed = subst (All (λ b. IsTrue (contains c.loop-next.reached b)))
    (take_all c.loop-next.next-index c.deref-next-items.result.now c.loop-next-test.false
    ∙ c.deref-next-items.ensures.value) c.loop-next.invariant.passed in
    record {
      walking = walking_done _ _ _ _ c.in-Some.node
          (edges_all c.args.graph.now c.in-Some.node c.index-graph-node.result node_below c.index-graph-node.is
          (λ b. IsTrue (contains c.loop-next.reached b)) passed) c.loop-next.invariant.walking;
      taken = c.loop-next.invariant.taken;
      looked = omega (arith, c.loop-next.invariant.looked, c.loop-next-test.false, c.loop-next.auto.next-index-end);
    }

pub put-requires : goal.put-requires
put-requires c =
    let next : ℕ = get_or c.deref-next-items.result.now c.loop-next.next-index 0 in
    let node_below : c.in-Some.node < length c.args.graph.now = pending_below _ _ _ _ _ c.loop-next.invariant.walking in
    let there =
    subst (λ (xs : List ℕ).
    Contains xs next) c.deref-next-items.ensures.value
    (Contains-get_or c.deref-next-items.result.now c.loop-next.next-index 0 c.loop-next-test.true) in
    let h = edge_below c.args.graph.now c.in-Some.node c.index-graph-node.result node_below c.index-graph-node.is
    c.requires.graph next there in
    let e = c.loop-next.invariant.walking.nodes in
    omega arith

pub returns-in_err-push-2-clause-bound : goal.returns-in_err-push-2-clause-bound
returns-in_err-push-2-clause-bound c =
    omega (arith, c.loop-next.invariant.taken, count_ones-most c.loop-next.reached, c.loop-next.invariant.walking.nodes)

pub returns-clause-bound : goal.returns-clause-bound
returns-clause-bound c =
    omega (arith, c.turns.invariant.taken, count_ones-most c.turns.reached, c.turns.invariant.walking.nodes)

pub offset_bounds-graph-node : goal.offset_bounds-graph-node
offset_bounds-graph-node c = let h : c.in-Some.node < length c.args.graph.now = bounds-graph-node c in search rules

pub returns-clause-reached : goal.returns-clause-reached
returns-clause-reached c =
    let ok = c.turns.to_do.ok in
    let none : c.turns.to_do.items ≡ [] =
    nil_from_length c.turns.to_do.items (search (rules, c.in_default.ensures.cases)) in
    walking_end c.args.graph.now c.args.start c.turns.reached
    (subst (Walking c.args.graph.now c.args.start c.turns.reached) none c.turns.invariant.walking)

pub loop-next-preserved : goal.loop-next-preserved
loop-next-preserved c =
    let node : ℕ = c.in-Some.node in
    let v : Bits = c.loop-next.reached in
    let next : ℕ = get_or c.deref-next-items.result.now c.loop-next.next-index 0 in
    let before = c.loop-next.invariant in
    let node_below : node < length c.args.graph.now = pending_below _ _ _ _ _ before.walking in
    let there =
    subst (λ (xs : List ℕ).
    Contains xs next) c.deref-next-items.ensures.value
    (Contains-get_or c.deref-next-items.result.now c.loop-next.next-index 0 c.loop-next-test.true) in
    let edge = edge_in c.args.graph.now node c.index-graph-node.result node_below c.index-graph-node.is next there in
    let h = edge_below c.args.graph.now node c.index-graph-node.result node_below c.index-graph-node.is c.requires.graph
    next there in
    let e = before.walking.nodes in
    let next_below : next < v.length = omega arith in
    elim c.if-not-put.branch [
      | then-not-put+in_ok-push-2 w ↦
          let out : contains v next ≡ false = sym c.put.ensures.before ∙ w.if-not-put.true in
          let set : c.put.new.self ≡ insert v next = c.put.ensures.after in
          let items : c.if-not-put.to_do.items ≡ c.loop-next.to_do.items ++ next ∷ [] =
          ap (λ (t : Vec ℕ Global). t.items) w.to_do-is ∙ w.in_ok-push-2.ensures.items in
          let path = path_more c.args.graph.now c.args.start node next
          (before.walking.paths node
          (All-head (λ a. IsTrue (contains v a)) node c.loop-next.to_do.items before.walking.inside)) edge in
          record {
            walking = rw (
              set,
              items,
            ) (walking_more c.args.graph.now c.args.start v (node ∷ c.loop-next.to_do.items) next next_below path
                before.walking);
            taken =
                omega (
                  arith,
                  before.taken,
                  ap length items,
                  length-append {A = ℕ},
                  ap size set,
                  count_ones-insert v next next_below out,
                );
            looked =
                omega (
                  arith,
                  before.looked,
                  c.tick-in-loop-next.ensures,
                  ap (sum_by (degree c.args.graph.now)) items,
                  sum_by-append (degree c.args.graph.now) c.loop-next.to_do.items (next ∷ []),
                  ap (λ s. edges_from s 0 c.args.graph.now) set,
                  leaving_more c.args.graph.now v next next_below out,
                );
            passed =
                rw set (All-more (λ b. IsTrue (contains (insert v next) b)) c.deref-next-items.result.now
                c.loop-next.next-index 0 c.loop-next-test.true
                (All-weaker (λ b. IsTrue (contains v b)) (λ b. IsTrue (contains (insert v next) b))
                (λ b old. (in_insert v next b next_below).1 (inr old)) _ before.passed)
                ((in_insert v next next next_below).1 (inl refl)));
          }
      | else-not-put w ↦
          let one : contains v next ≡ true = sym c.put.ensures.before ∙ w.if-not-put.false in
          let set : c.put.new.self ≡ v = c.put.ensures.after ∙ insert-set v next one in
          let items : c.if-not-put.to_do.items ≡ c.loop-next.to_do.items =
          ap (λ (t : Vec ℕ Global). t.items) w.to_do-is in
          record {
            walking = rw (set, items) before.walking;
            taken = omega (arith, before.taken, ap length items, ap size set);
            looked =
                omega (
                  arith,
                  before.looked,
                  c.tick-in-loop-next.ensures,
                  ap (sum_by (degree c.args.graph.now)) items,
                  ap (λ s. edges_from s 0 c.args.graph.now) set,
                );
            passed =
                rw set (All-more (λ b. IsTrue (contains v b)) c.deref-next-items.result.now c.loop-next.next-index 0
                c.loop-next-test.true before.passed one);
          }
    ]

pub returns-in_err-push-2-clause-edges : goal.returns-in_err-push-2-clause-edges
returns-in_err-push-2-clause-edges c =
    omega (
      arith,
      c.loop-next.invariant.looked,
      c.loop-next-test.true,
      leaving_most c.loop-next.reached 0 c.args.graph.now,
      c.tick-in-loop-next.ensures,
    )

pub returns-clause-looked : goal.returns-clause-looked
returns-clause-looked c =
    let none : c.turns.to_do.items ≡ [] =
    nil_from_length c.turns.to_do.items (search (rules, c.in_default.ensures.cases)) in
    omega (arith, c.turns.invariant.looked, ap (sum_by (degree c.args.graph.now)) none)

pub returns-clause-edges : goal.returns-clause-edges
returns-clause-edges c = omega (arith, c.turns.invariant.looked, leaving_most c.turns.reached 0 c.args.graph.now)
