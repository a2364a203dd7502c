use Rattle.std.proofs.Common.{◌≡◌, ◌+◌, ◌++◌, map, length, drop}
use Rattle.std.specs.Iterator.Adapters.{enumerate_count, enumerate_source, take_count}
use Rattle.fixedbitset.proofs.set.fill.Given as goal

abbrev pub invariant-loop-at : goal.invariant-loop-at
invariant-loop-at g l = record {
  count : enumerate_count l.at-iterator ≡ length l.yielded;
  room : take_count (enumerate_source l.at-iterator) + length l.yielded ≡ l.fn.count;
  words : l.words ≡ map (λ x. x.1) l.yielded ++ drop (length l.yielded) l.fn.words;
}
