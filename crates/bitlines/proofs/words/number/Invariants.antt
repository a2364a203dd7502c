use Rattle.std.proofs.Common.{◌≡◌, ◌^◌, ◌<◌, drop}
use Rattle.bitlines.specs.Words.{number_of}
use Rattle.bitlines.proofs.Numbers.{number_after}
use Rattle.bitlines.proofs.words.number.Given as goal

-- the digits that are left write the number behind the value so far
abbrev pub invariant-loop-byte : goal.invariant-loop-byte
invariant-loop-byte l = record {
  so_far : number_of l.word ≡ number_after l.value (drop l.byte-index l.word);
  fits : l.value < 2 ^ 64;
}
