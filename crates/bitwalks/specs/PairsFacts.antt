-- An iterator that no call was made of.
use Rattle.std.proofs.Common.{arith}
use Rattle.bitwords.specs.Walk.{Walk}
use Rattle.bitwords.specs.CallFacts.{takes_none, takes_none_back}
use Rattle.bitwalks.specs.Pairs.{Sieved, AsksFront, AsksBack, WalksFront, WalksBack}

pub walk_stays : (walk : Walk) → WalksFront walk walk
walk_stays walk = record { calls = 0; few = omega arith; takes = takes_none walk }

pub walk_stays_back : (walk : Walk) → WalksBack walk walk
walk_stays_back walk = record { calls = 0; few = omega arith; takes = takes_none_back walk }

pub sieve_stays : (sieved : Sieved) → AsksFront sieved sieved
sieve_stays sieved = record { calls = 0; asks = omega arith; takes = takes_none sieved.source }

pub sieve_stays_back : (sieved : Sieved) → AsksBack sieved sieved
sieve_stays_back sieved = record { calls = 0; asks = omega arith; takes = takes_none_back sieved.source }
