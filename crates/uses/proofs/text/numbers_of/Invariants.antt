use Rattle.std.proofs.Common.{map, take}
use Rattle.uses.proofs.Read.{AreRead, kept}
use Rattle.uses.proofs.text.numbers_of.Given as goal

abbrev pub invariant-loop-word : goal.invariant-loop-word
invariant-loop-word l = AreRead (kept (take l.word-index (map (λ x. x.now) l.word-items))) l.numbers.items
