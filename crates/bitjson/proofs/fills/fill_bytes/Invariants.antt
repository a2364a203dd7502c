use Rattle.std.proofs.Common.{◌≡◌, ℕ, ◌<◌, slice_index}
use Rattle.bitjson.specs.Bytes.{byte_of}
use Rattle.bitjson.proofs.fills.fill_bytes.Given as goal

-- a byte for each index so far
abbrev pub invariant-loop-index : goal.invariant-loop-index
invariant-loop-index l = (k : ℕ) → k < l.index → slice_index l.made k ≡ byte_of l.words k
