use Rattle.std.proofs.Common.{◌≡◌, ap, ◌∙◌, sym, map, map-id, None}
use Rattle.std.specs.List.{last_or}
use Rattle.std.proofs.lemmas.Iterator.{items_from_drains}
use Rattle.fixedbitset.specs.WalkFacts.{walk_list}
use Rattle.fixedbitset.specs.Bits as model
use Rattle.test_callers.proofs.chains.last.Goals as goal

-- the items that came are the list, and the last of them is the answer
pub returns : goal.returns
returns c =
    let ran = c.last.ensures.ran in
    let end = ran.1 in
    let all : map (λ p. p) ran.0 ≡ model.asc c.args.set.now =
    items_from_drains ran.0 (end.1.0, end.1.1, λ _. (end.0, end.1.2)) (walk_list _ _ c.ones.ensures.items) in
    ran.2 ∙ ap (last_or None) (sym (map-id ran.0) ∙ all)
