-- A walk on its way: what it has reached, and the nodes whose edges may still lead to others.
use Rattle.std.proofs.Common.{◌≡◌, ◌∙◌, ℕ, zero, suc, ◌<◌, ◌⊎◌, ◌↔◌, inl, inr, IsTrue, List, []}
use Rattle.std.proofs.Common.{◌∷◌, ◌++◌, Vec, Some, length, refl, sym, subst, arith, ⊎_elim, get_or}
use Rattle.std.specs.Prelude.{All, Contains, slice_get}
use Rattle.std.specs.declared.alloc.Global.{Global}
use Rattle.std.proofs.lemmas.Option.{slice_get_read}
use Rattle.std.proofs.lemmas.List.Elements.{All-nil, All-cons, All-head, All-push, All-pop, All-weaker}
use Rattle.std.proofs.lemmas.List.Elements.{All-contains, All-tail, Contains-push, Contains-append_left}
use Rattle.std.proofs.lemmas.List.Elements.{Contains-append_right, Contains-append_cases, Contains-push_cases}
use Rattle.fixedbitset.specs.Bits.{Bits, contains, empty, insert}
use Rattle.fixedbitset.specs.BitsFacts.{length-insert, length-empty, contains_below}
use Rattle.uses.specs.Reach.{Graph, IsGraph, HasEdge, HasPath, IsReachable}
use Rattle.fixedbitset.specs.MemberFacts.{in_empty, in_insert}

-- all nodes of the set are reachable, and the edges of each one lead into it, but for those that are pending
pub record Walking (graph : Graph) (start : ℕ) (reached : Bits) (pending : List ℕ) : Type 0 where
  pub nodes : reached.length ≡ length graph
  pub start_in : IsTrue (contains reached start)
  pub paths : (p : ℕ) → IsTrue (contains reached p) → IsReachable graph start p
  pub inside : All (λ a. IsTrue (contains reached a)) pending
  pub closed : (a b : ℕ) → IsTrue (contains reached a) → HasEdge graph a b → IsTrue (contains reached b)
      ⊎ Contains pending a

abbrev Member : Bits → ℕ → Type 0
Member v a = IsTrue (contains v a)

nothing : (a : ℕ) → ¬ (Contains [] a)
nothing a c = let h = c.1 in omega arith

-- the start alone
pub walking_first : (graph : Graph) (start : ℕ) → start < length graph
    → Walking graph start (insert (empty (length graph)) start) (start ∷ [])
walking_first graph start within =
    let v : Bits = empty (length graph) in
    let nodes = length-empty (length graph) in
    let below : start < v.length = omega arith in
    let only : (p : ℕ) → IsTrue (contains (insert v start) p)
    → p ≡ start =
    λ p one. ⊎_elim (λ e. e) (λ old. absurd (in_empty (length graph) p old)) ((in_insert v start p below).0 one) in
    let got = (in_insert v start start below).1 (inl refl) in
    record {
      nodes = length-insert v start ∙ nodes;
      start_in = got;
      paths = λ p one. (0, sym (only p one));
      inside = All-cons (Member (insert v start)) start [] got (All-nil (Member (insert v start)));
      closed = λ a b one edge. inr (subst (Contains (start ∷ [])) (sym (only a one)) (Contains-push [] start));
    }

module _ (graph : Graph) (start : ℕ) (v : Bits) where
  -- one more node is reached, and pending
  pub walking_more : (pending : List ℕ) (x : ℕ) → x < v.length → IsReachable graph start x
      → Walking graph start v pending → Walking graph start (insert v x) (pending ++ x ∷ [])
  walking_more pending x within path w = record {
    nodes = length-insert v x ∙ w.nodes;
    start_in = (in_insert v x start within).1 (inr w.start_in);
    paths = λ p one. ⊎_elim (λ e. subst (IsReachable graph start) (sym e) path) (w.paths p)
        ((in_insert v x p within).0 one);
    inside = All-push (Member (insert v x)) pending x
        (All-weaker (Member v) (Member (insert v x)) (λ a old. (in_insert v x a within).1 (inr old)) pending w.inside)
        ((in_insert v x x within).1 (inl refl));
    closed = λ a b one edge.
        ⊎_elim
        (λ e. inr (subst (Contains (pending ++ x ∷ [])) (sym e) (Contains-push pending x)))
        (λ old. ⊎_elim (λ there. inl ((in_insert v x b within).1 (inr there)))
        (λ due. inr (Contains-append_left pending (x ∷ []) a due)) (w.closed a b old edge))
        ((in_insert v x a within).0 one);
  }

  -- the last one is taken
  pub walking_taken : (rest : List ℕ) (x : ℕ) → Walking graph start v (rest ++ x ∷ [])
      → Walking graph start v (x ∷ rest)
  walking_taken rest x w =
      let parts = All-pop (Member v) (rest ++ x ∷ []) rest (Some x) refl w.inside in
      record {
        nodes = w.nodes;
        start_in = w.start_in;
        paths = w.paths;
        inside = All-cons (Member v) x rest parts.1 parts.0;
        closed = λ a b one edge.
            ⊎_elim
            (λ there. inl there)
            (λ due.
            inr (⊎_elim (λ old. Contains-append_right (x ∷ []) rest a old)
            (λ e. subst (Contains (x ∷ rest)) e (Contains-append_left (x ∷ []) rest x (Contains-push [] x)))
            (Contains-push_cases rest x a due)))
            (w.closed a b one edge);
      }

  -- all its edges lead to nodes that are reached
  pub walking_done : (rest : List ℕ) (x : ℕ) → ((b : ℕ) → HasEdge graph x b → IsTrue (contains v b))
      → Walking graph start v (x ∷ rest) → Walking graph start v rest
  walking_done rest x done w = record {
    nodes = w.nodes;
    start_in = w.start_in;
    paths = w.paths;
    inside = All-tail (Member v) x rest w.inside;
    closed = λ a b one edge.
        ⊎_elim
        (λ there. inl there)
        (λ due.
        ⊎_elim
        (λ first. ⊎_elim (λ none. absurd (nothing a none))
        (λ e. inl (done b (subst (λ y. HasEdge graph y b) (sym e) edge))) (Contains-push_cases [] x a first))
        (λ old. inr old)
        (Contains-append_cases (x ∷ []) rest a due))
        (w.closed a b one edge);
  }

  -- nothing is pending
  along : Walking graph start v [] → (n p : ℕ) → HasPath graph n start p → IsTrue (contains v p)
  along w zero p e = subst (λ q. IsTrue (contains v q)) e w.start_in
  along w (suc n) p path =
      ⊎_elim (λ there. there) (λ none. absurd (nothing _ none)) (w.closed path.0 p (along w n path.0 path.1) path.2)

  pub walking_end : Walking graph start v [] → (p : ℕ) → IsTrue (contains v p) ↔ IsReachable graph start p
  walking_end w p = (w.paths p, λ path. along w path.0 p path.1)

module _ (graph : Graph) (x : ℕ) (row : Vec ℕ Global) (within : x < length graph) (is : row ≡ get_or graph x row) where
  the_row : slice_get graph x ≡ Some row
  the_row = slice_get_read graph (length graph) x row refl within is

  -- the edges of a node are those of its row
  pub edge_in : (b : ℕ) → Contains row.items b → HasEdge graph x b
  edge_in b there = (row, the_row, there)

  pub edges_all : (P : ℕ → Type 0) → All P row.items → (b : ℕ) → HasEdge graph x b → P b
  edges_all P all b edge =
      let same : edge.0 ≡ row = cc (edge.1, the_row) in
      All-contains P row.items b all (subst (λ (r : Vec ℕ Global). Contains r.items b) same edge.2)

  pub edge_below : IsGraph graph → (b : ℕ) → Contains row.items b → b < length graph
  edge_below all b there =
      All-contains (λ y. y < length graph) row.items b
      (All-contains (λ (r : Vec ℕ Global). All (λ y. y < length graph) r.items) graph row all (x, within, sym is)) there

-- a path and one edge more
pub path_more : (graph : Graph) (start a b : ℕ) → IsReachable graph start a → HasEdge graph a b
    → IsReachable graph start b
path_more graph start a b path edge = (suc path.0, (a, path.1, edge))

pub pending_below : (graph : Graph) (start : ℕ) (v : Bits) (rest : List ℕ) (x : ℕ) → Walking graph start v (x ∷ rest)
    → x < length graph
pending_below graph start v rest x w =
    let h = contains_below v x (All-head (Member v) x rest w.inside) in
    let e = w.nodes in
    omega arith
