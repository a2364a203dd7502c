use Rattle.std.proofs.Common.{ap}
use Rattle.bitwords.proofs.cursors.Cursor.into_held.Goals as goal

pub returns-clause-items : goal.returns-clause-items
returns-clause-items g c = ap (λ walk. walk.items) c.self.view_is

pub returns-clause-spaced : goal.returns-clause-spaced
returns-clause-spaced g c = c.self.invariant
