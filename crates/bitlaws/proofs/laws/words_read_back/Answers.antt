use Rattle.fixedbitset.specs.WordsFacts.{of_words-words}
use Rattle.bitlaws.proofs.laws.words_read_back.Goals as goal

pub returns : goal.returns
returns c = of_words-words
