use Rattle.std.proofs.Common.{◌≡◌, ◌∙◌, ℕ, ◌<◌, ◌↔◌, ◌++◌, ◌∷◌, [], List, min}
use Rattle.std.proofs.Common.{length, get_or, sym, ap, subst, arith, length-append}
use Rattle.std.proofs.lemmas.List.{get_or_default}
use Rattle.std.proofs.lemmas.List.Elements.{All-push}
use Rattle.fixedbitset.specs.Bits.{Bits, empty}
use Rattle.fixedbitset.specs.TwoSets.{bitand}
use Rattle.fixedbitset.specs.TwoSetsFacts.{length-bitand}
use Rattle.uses.specs.Policies.{Rights}
use Rattle.uses.proofs.Granted.{In, both_more, both_all}
use Rattle.uses.proofs.access.policies.Policy.both.Goals as goal

pub loop-role-preserved : goal.loop-role-preserved
loop-role-preserved c =
    let a : List Bits = c.self.inside.roles.items in
    let b : List Bits = c.other.inside.roles.items in
    let sets : List Bits = c.loop-role.roles.items in
    let before = c.loop-role.invariant in
    let many = before.many in
    let in_a : length sets < length a = omega (arith, c.min-role-end.ensures, c.len.ensures) in
    let in_b : length sets < length b = omega (arith, c.min-role-end.ensures, c.len-2.ensures) in
    let v : Bits = c.index.result.now in
    let w : Bits = c.index-in-loop-role.result.now in
    let v_was : v ≡ get_or a (length sets) v = c.index.ensures ∙ ap (λ i. get_or a i v) (sym many) in
    let w_was : w ≡ get_or b (length sets) w = c.index-in-loop-role.ensures ∙ ap (λ i. get_or b i w) (sym many) in
    let items : c.push.new.self.items ≡ sets ++ bitand v w ∷ [] = c.in_ok-push.ensures.items
    ∙ ap (λ s. sets ++ s ∷ []) c.in_ok-bitand.ensures in
    let long : (bitand v w).length ≡ min c.self.inside.rights c.other.inside.rights =
    length-bitand v w
    ∙ (let e = ap (λ (s : Bits). s.length) v_was ∙ c.self.invariant (length sets) v in_a in let f = ap (λ (s : Bits).
    s.length) w_was ∙ c.other.invariant (length sets) w in_b in λ i. min (e i) (f i)) in
    record {
      many = omega (arith, ap length items, length-append {A = Bits});
      sized =
          rw items (All-push (λ (s : Bits).
          s.length ≡ min c.self.inside.rights c.other.inside.rights) sets (bitand v w) before.sized long);
      both =
          rw items (both_more a b sets v w (v_was ∙ get_or_default a (length sets) v (empty 0) in_a)
          (w_was ∙ get_or_default b (length sets) w (empty 0) in_b) before.both);
    }

pub returns-clause-both : goal.returns-clause-both
returns-clause-both c =
    let a = ap (λ (p : Rights). p.roles) c.self.view_is in
    let b = ap (λ (p : Rights). p.roles) c.other.view_is in
    let many = c.loop-role.invariant.many in
    let long : length c.loop-role.roles.items ≡ min (length c.self.inside.roles.items)
    (length c.other.inside.roles.items) = omega (arith, c.min-role-end.ensures, c.len.ensures, c.len-2.ensures) in
    let all = both_all c.self.inside.roles.items c.other.inside.roles.items c.loop-role.roles.items long
    c.loop-role.invariant.both in
    subst (λ (l : List Bits). (r x : ℕ) → In c.loop-role.roles.items r x ↔ (In c.args.self.now.roles r x × In l r x)) b
    (subst (λ (l : List Bits).
    (r x : ℕ) → In c.loop-role.roles.items r x ↔ (In l r x × In c.other.inside.roles.items r x)) a all)
