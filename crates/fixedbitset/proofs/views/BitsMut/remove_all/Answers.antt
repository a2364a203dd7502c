use Rattle.std.proofs.Common.{get_or, take, sym, ap, ◌∙◌, arith, rules}
use Rattle.std.proofs.lemmas.List.{take_more}
use Rattle.fixedbitset.specs.RemoveFacts.{remove_all-nil, remove_all-last}
use Rattle.fixedbitset.specs.Bits.{Bits, of_words, remove, remove_all}
use Rattle.fixedbitset.proofs.views.BitsMut.remove_all.Goals as goal

pub loop-position-init : goal.loop-position-init
loop-position-init c = record { value = sym (remove_all-nil _); clean = c.args.self.now.clean }

pub loop-position-preserved : goal.loop-position-preserved
loop-position-preserved c =
    let items = c.args.positions.now in
    let index = c.loop-position.position-index in
    let item = get_or items index 0 in
    let old = of_words c.args.self.now.length c.args.self.now.words.now in
    let more =
    ap (λ (v : Bits).
    remove v item) c.loop-position.invariant.value ∙ sym (remove_all-last old (take index items) item)
    ∙ ap (remove_all old) (sym (take_more items index 0 c.loop-position-test.true)) in
    record {
      value = grind (arith, more) steps 100000;
      clean = search rules steps 100000;
    }
