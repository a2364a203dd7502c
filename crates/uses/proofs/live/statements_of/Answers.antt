use Rattle.std.proofs.Common.{◌≡◌, ◌∙◌, List, arith}
use Rattle.std.proofs.lemmas.List.{length_push}
use Rattle.std.proofs.lemmas.List.Elements.{All-push}
use Rattle.fixedbitset.specs.Bits.{Bits}
use Rattle.uses.proofs.live.statements_of.Goals as goal

pub loop-line-preserved : goal.loop-line-preserved
loop-line-preserved c =
    let before = c.loop-line.invariant in
    let many = before.many in
    let statement = rw c.in-Some-2.is at c.in_ok-statement.ensures in
    let uses : List Bits = c.loop-line.uses.items in
    let defines : List Bits = c.loop-line.defines.items in
    let more_uses = length_push uses c.in-Some-2.statement.uses in
    let more_defines = length_push defines c.in-Some-2.statement.defines in
    let place = c.len-from.ensures ∙ c.loop-line.uses.ok.0 in
    record {
      can_next = before.can_next;
      is_finite = before.is_finite;
      many = rw (c.in_ok-push.ensures.items, c.in_ok-push-2.ensures.items) (omega arith);
      uses =
          rw c.in_ok-push.ensures.items (All-push (λ (set : Bits). set.length ≡ 26) uses _ before.uses statement.1);
      defines = rw c.in_ok-push-2.ensures.items
          (All-push (λ (set : Bits). set.length ≡ 26) defines _ before.defines statement.0);
      from = rw c.in_ok-push.ensures.items
          (λ k d within. let below = c.in_ok-add_next.ensures k d within in omega arith);
    }
