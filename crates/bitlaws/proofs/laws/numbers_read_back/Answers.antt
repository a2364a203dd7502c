use Rattle.bitlaws.proofs.OfNumbers.{stored_reads_back, loaded_stays}
use Rattle.bitlaws.proofs.laws.numbers_read_back.Goals as goal

pub returns-clause-stored : goal.returns-clause-stored
returns-clause-stored c = stored_reads_back

pub returns-clause-loaded : goal.returns-clause-loaded
returns-clause-loaded c = loaded_stays
