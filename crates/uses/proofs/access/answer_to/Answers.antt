use Rattle.std.proofs.Common.{rules, arith}
use Rattle.uses.proofs.access.answer_to.Goals as goal

pub returns : goal.returns
returns c = search rules steps 300000

pub returns-in-Some-missing : goal.returns-in-Some-missing
returns-in-Some-missing c =
    let made = rw (c.in-Some.is, c.rights.ensures.count) at c.in_ok-asked.ensures in
    let least = rw c.in-Some-missing.is at c.missing-missing.ensures in (
      omega arith,
      made.0,
      record {
        asked = (made.1.members _).0 least.asked;
        missing = least.missing;
        least = λ other has. least.least other ((made.1.members other).1 has);
      },
    )
