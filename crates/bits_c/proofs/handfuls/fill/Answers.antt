use Rattle.std.proofs.Common.{◌≡◌, [], drop, sym, arith, ap, ◌∙◌, length, length-drop}
use Rattle.std.proofs.lemmas.List.{set-get_or}
use Rattle.bits_c.proofs.Takes.{more_written}
use Rattle.bits_c.proofs.handfuls.fill.Goals as goal

pub returns-in-None : goal.returns-in-None
returns-in-None g c =
    let left = g.G.Giver.left in
    let none : drop c.loop-index.index (left c.args.giver.now) ≡ [] = sym c.loop-index.invariant.rest
    ∙ c.in-None.ensures.0 in
    record {
      answer = omega (arith, length-drop c.loop-index.index (left c.args.giver.now), ap length none);
      written = set-get_or c.loop-index.positions c.loop-index.index 0 ∙ c.loop-index.invariant.written;
      rest = c.in-None.ensures.1 ∙ sym none;
    }

pub loop-index-preserved : goal.loop-index-preserved
loop-index-preserved g c =
    let left = g.G.Giver.left in
    let more = more_written (left c.args.giver.now) c.args.positions.now c.loop-index.index c.loop-index-test.true
    c.in-Some.position (left c.take_first.new.self) (sym c.loop-index.invariant.rest ∙ c.in-Some.ensures) in
    record { within = more.0; written = rw c.loop-index.invariant.written more.1; rest = more.2 }
