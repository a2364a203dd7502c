use Rattle.std.proofs.Common.{◌≡◌, ℕ, ◌<◌, slice_index}
use Rattle.bitjson.specs.Bytes.{word_of}
use Rattle.bitjson.proofs.fills.fill_words.Given as goal

-- a word for each index so far
abbrev pub invariant-loop-index : goal.invariant-loop-index
invariant-loop-index l = (k : ℕ) → k < l.index → slice_index l.words k ≡ word_of l.source k
