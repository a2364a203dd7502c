use Rattle.std.proofs.Common.{◌≡◌, ◌∷◌, arith}
use Rattle.uses.proofs.text.first.first_number.Goals as goal

pub returns-clause-found : goal.returns-clause-found
returns-clause-found c =
    let parts : c.args.rows.now ≡ c.in-Some.first.now ∷ c.in-Some.others.now = grind arith in
    record { first = c.in-Some.first.now; parts = parts; alone = c.in_ok-number_of.ensures.found }
