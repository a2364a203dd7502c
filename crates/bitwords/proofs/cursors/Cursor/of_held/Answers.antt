use Rattle.std.proofs.Common.{refl}
use Rattle.bitwords.proofs.cursors.Cursor.of_held.Goals as goal

pub returns : goal.returns
returns g c = rw (c.new.ensures, c.new-2.ensures) refl
