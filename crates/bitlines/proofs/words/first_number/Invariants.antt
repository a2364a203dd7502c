use Rattle.std.proofs.Common.{◌≡◌, ◌-◌, ◌^◌, ◌<◌, ◌≤◌, length, drop}
use Rattle.bitlines.specs.Words.{words, number_at}
use Rattle.bitlines.proofs.Numbers.{number_on}
use Rattle.bitlines.proofs.words.first_number.Given as goal

-- the digits that are left write the number behind the value so far
abbrev pub invariant-loop-at : goal.invariant-loop-at
invariant-loop-at l = record {
  so_far : number_at (words l.text) ≡ number_on l.value (words (drop l.at l.text));
  fits : l.value < 2 ^ 64;
  inside : l.at ≤ length l.text;
}

abbrev pub decreases-loop-at : goal.decreases-loop-at
decreases-loop-at l = length l.text - l.at
