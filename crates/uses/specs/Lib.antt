-- access
pub mod Policies
pub mod AccessLines
-- closure
pub mod Edges
-- live
pub mod Live
pub mod Variables
-- primes
pub mod Primes
-- reach
pub mod Reach
-- slots
pub mod Commands
-- subsets
pub mod Automata
pub mod Subsets
pub mod AutomatonEdges
-- sums
pub mod Sums
-- text
pub mod Rows
pub mod Faults
pub mod Texts
pub mod Sets
pub mod FaultFacts
