use Rattle.std.proofs.Common.{rules}
use Rattle.bits_c.proofs.ranks.bits_ranks_fill.Goals as goal

pub returns-else-write_directory-clause-answer : goal.returns-else-write_directory-clause-answer
returns-else-write_directory-clause-answer c = search rules steps 300000
