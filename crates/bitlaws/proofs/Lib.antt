mod OneList
mod OfNumbers
mod OfRanges
pub mod OfRuns
mod OfTwoSets
mod OfJoins
mod OfOrder
mod OfPieces
mod OfPlaced
mod OfFlow
pub mod OfWalks
