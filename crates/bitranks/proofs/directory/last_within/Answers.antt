use Rattle.std.proofs.Common.{◌≡◌, ◌+◌, ◌-◌, arith}
use Rattle.bitranks.proofs.Halving.{halved, halved_least, all_taken}
use Rattle.bitranks.proofs.directory.last_within.Goals as goal

pub loop-high-preserved-then-directory-middle : goal.loop-high-preserved-then-directory-middle
loop-high-preserved-then-directory-middle c = record {
  some = omega arith;
  within = omega arith;
  below = omega arith;
  above = c.loop-high.invariant.above;
  cost = λ n long. halved n c.args.steps.now c.loop-high.steps _ (c.loop-high.high - c.loop-high.low) _ (omega arith)
      (c.loop-high.invariant.cost n long) (omega arith) (omega arith);
  least = λ n le. halved_least n c.args.steps.now c.loop-high.steps _ (c.loop-high.high - c.loop-high.low) _
      (omega arith) (c.loop-high.invariant.least n le) (omega arith) (omega arith);
  grows = omega (arith, c.loop-high.invariant.grows);
}

pub loop-high-preserved : goal.loop-high-preserved
loop-high-preserved c = record {
  some = omega arith;
  within = omega arith;
  below = c.loop-high.invariant.below;
  above = λ _. omega arith;
  cost = λ n long. halved n c.args.steps.now c.loop-high.steps _ (c.loop-high.high - c.loop-high.low) _ (omega arith)
      (c.loop-high.invariant.cost n long) (omega arith) (omega arith);
  least = λ n le. halved_least n c.args.steps.now c.loop-high.steps _ (c.loop-high.high - c.loop-high.low) _
      (omega arith) (c.loop-high.invariant.least n le) (omega arith) (omega arith);
  grows = omega (arith, c.loop-high.invariant.grows);
}

pub loop-high-init : goal.loop-high-init
loop-high-init c = record {
  some = c.requires.some;
  within = omega arith;
  below = c.requires.first;
  above = λ more. absurd (omega (arith, more));
  cost = λ n long. let e : c.args.steps.now + n - c.args.steps.now ≡ n = omega arith in
      record { within = omega arith; left = rw e (omega (arith, long)) };
  least = λ n le. let e : c.args.steps.now + n - c.args.steps.now ≡ n = omega arith in rw e (omega (arith, le));
  grows = omega arith;
}

pub returns-clause-cost : goal.returns-clause-cost
returns-clause-cost c = record {
  grows = c.loop-high.invariant.grows;
  least = λ n le. all_taken n c.args.steps.now c.loop-high.steps (c.loop-high.high - c.loop-high.low)
      (c.loop-high.invariant.least n le) (omega arith);
  most = λ n long. (c.loop-high.invariant.cost n long).within;
}
