use Rattle.bitlaws.proofs.OfRanges.{words_of_range, number_of_range_words}
use Rattle.bitlaws.proofs.laws.words_of_range.Goals as goal

pub returns : goal.returns
returns c = search (words_of_range, number_of_range_words)
