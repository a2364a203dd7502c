use Rattle.std.proofs.Common.{◌<◌, get_or, take, sym, ap, ◌∙◌, arith, rules}
use Rattle.std.proofs.lemmas.List.{take_more}
use Rattle.std.proofs.lemmas.List.Elements.{All-get_or}
use Rattle.fixedbitset.specs.AddFacts.{add_all-nil, add_all-last, add-insert}
use Rattle.fixedbitset.specs.Bits.{Bits, of_words, add, add_all}
use Rattle.fixedbitset.specs.WordsFacts.{length-of_words}
use Rattle.fixedbitset.proofs.views.BitsMut.insert_all.Goals as goal

pub loop-position-init : goal.loop-position-init
loop-position-init c = record { value = sym (add_all-nil _); clean = c.args.self.now.clean }

pub loop-position-preserved : goal.loop-position-preserved
loop-position-preserved c =
    let items = c.args.positions.now in
    let index = c.loop-position.position-index in
    let item = get_or items index 0 in
    let old = of_words c.args.self.now.length c.args.self.now.words.now in
    let below : item < c.args.self.now.length = All-get_or (λ p. p < c.args.self.now.length) items index 0
    c.loop-position-test.true c.requires in
    let within : item < (of_words c.args.self.now.length c.loop-position.words).length = rw length-of_words below in
    let more =
    ap (λ (v : Bits).
    add v item) c.loop-position.invariant.value ∙ sym (add_all-last old (take index items) item)
    ∙ ap (add_all old) (sym (take_more items index 0 c.loop-position-test.true)) in
    record {
      value = grind (arith, add-insert (of_words c.args.self.now.length c.loop-position.words) item within, more);
      clean = search rules;
    }
