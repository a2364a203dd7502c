use Rattle.std.proofs.Common.{take}
use Rattle.uses.specs.Variables.{AreLetters, AreVariables}
use Rattle.uses.proofs.live.variables_of.Given as goal

abbrev pub invariant-loop-byte : goal.invariant-loop-byte
invariant-loop-byte l = record {
  letters : AreLetters (take l.byte-index l.byte-items);
  variables : AreVariables (take l.byte-index l.byte-items) l.set;
}
