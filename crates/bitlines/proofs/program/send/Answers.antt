use Rattle.std.proofs.Common.{arith, length-drop}
use Rattle.std.proofs.Math.Seq.{take-add}
use Rattle.std.proofs.KnownBytes.{Appends-trans}
use Rattle.std.proofs.lemmas.List.{take_rest}
use Rattle.bitlines.proofs.program.send.Goals as goal

pub loop-done-preserved : goal.loop-done-preserved
loop-done-preserved g c = record {
  inside = omega (
    arith,
    rw (take_rest c.args.bytes.now c.loop-done.done) at c.in-Ok.ensures.bound,
    length-drop c.loop-done.done c.args.bytes.now,
  );
  sent =
      rw take-add (Appends-trans _ _ _ _ _ c.loop-done.invariant.sent
      (rw (take_rest c.args.bytes.now c.loop-done.done) at c.in-Ok.ensures.bytes));
}
