use Rattle.std.proofs.Common.{◌≡◌, ◌∙◌, ◌*◌, length, sym, ap, arith, rules}
use Rattle.std.proofs.lemmas.List.{length-replicate, with_items_is}
use Rattle.fixedbitset.specs.Bits.{empty}
use Rattle.flow.specs.Turns.{Fits, facts_of}
use Rattle.flow.proofs.Turning.{fits_first, fits_other, all_facts, reached_start}
use Rattle.flow.proofs.Turning.{solution_settled, least_reached, paths_settled}
use Rattle.flow.proofs.solver.solve.Goals as goal

pub settle-requires-clause-fits : goal.settle-requires-clause-fits
settle-requires-clause-fits c =
    let blank = c.deref_mut.ensures.value ∙ c.in_ok-answer.ensures.ins in
    let copied = c.deref_mut-2.ensures.value ∙ c.in_ok-answer.ensures.outs in
    let first = fits_first c.args.facts _ _ _ _ _ c.requires blank copied in
    fits_other c.args.facts _ _ _ _ (λ some. sym (first.kills_for.1 0 (empty 0) some)) first

pub returns : goal.returns
returns c =
    let facts = c.args.facts in
    let gens = c.args.gens.now in
    let kills = c.args.kills.now in
    let ins = c.settle.new.ins in
    let outs = c.settle.new.outs in
    let blank = c.deref_mut.ensures.value ∙ c.in_ok-answer.ensures.ins in
    let copied = c.deref_mut-2.ensures.value ∙ c.in_ok-answer.ensures.outs in
    let first = fits_first facts _ _ _ _ _ c.requires blank copied in
    let many_first : length c.deref_mut.result.now ≡ length gens = ap length blank
    ∙ length-replicate (length gens) (empty facts) in
    let many_ins : length ins ≡ length gens = omega (arith, c.settle.auto.ins, ap length blank) in
    let many_outs : length outs ≡ length gens = omega (arith, c.settle.auto.outs, ap length copied) in
    let ins_back = with_items_is c.in_ok-answer.answer.ins ins
    (omega (arith, c.settle.auto.ins, ap length c.deref_mut.ensures.value, c.in_ok-answer.answer.ins.ok.0)) in
    let outs_back = with_items_is c.in_ok-answer.answer.outs outs
    (omega (arith, c.settle.auto.outs, ap length c.deref_mut-2.ensures.value, c.in_ok-answer.answer.outs.ok.0)) in
    let same = first.kills_for.1 0 (empty 0) in
    let fits : Fits facts kills ins outs = fits_other _ facts kills ins outs same c.settle.ensures.fits in
    let reached = c.settle.ensures.reached gens (sym many_first)
    (reached_start _ _ _ _ _ (length gens) facts blank copied) in
    let product : length gens * facts_of kills ≡ length gens * facts =
    all_facts (length gens) _ _ (λ some. same (omega (arith, first.kills_for.0, many_first))) in
    record {
      sized = rw (ins_back, outs_back) ((many_ins, fits.ins_length), (many_outs, fits.outs_for.1));
      solves = rw (ins_back, outs_back) (solution_settled _ _ _ _ _ reached c.settle.ensures.settled);
      least = rw (ins_back, outs_back) (least_reached _ _ _ _ _ c.requires.edges_below reached);
      paths = rw outs_back (paths_settled _ _ _ ins _ c.requires.edges_below reached c.settle.ensures.settled);
      once = c.settle.ensures.once;
      bound = (let most = (rw many_first at c.settle.ensures.bound) in omega arith);
      err = tt;
    }

pub returns-in_err-room-clause-err : goal.returns-in_err-room-clause-err
returns-in_err-room-clause-err c = search rules steps 300000
