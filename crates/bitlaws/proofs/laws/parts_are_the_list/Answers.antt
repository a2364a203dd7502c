use Rattle.bitwords.specs.Walk.{GivesFirst, GivesLast}
use Rattle.bitwalks.specs.Pairs.{SievesFirst, SievesLast, joined_items, JoinsFirst}
use Rattle.bitwalks.specs.Pairs.{JoinsLast, split_items, SplitsFirst, SplitsLast}
use Rattle.bitlaws.proofs.OfWalks.{parts}
use Rattle.bitlaws.proofs.laws.parts_are_the_list.Goals as goal

pub returns : goal.returns
returns c = record {
  of_one = parts (λ walk. walk.items) GivesFirst GivesLast (λ s r t h. h.0) (λ s r t h. h.0);
  of_sieved = parts (λ sieved. sieved.items) SievesFirst SievesLast (λ s r t h. h.0) (λ s r t h. h.0);
  of_joined = parts joined_items JoinsFirst JoinsLast (λ s r t h. h.0) (λ s r t h. h.0);
  of_split = parts split_items SplitsFirst SplitsLast (λ s r t h. h.0) (λ s r t h. h.0);
}
