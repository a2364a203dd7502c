use Rattle.uses.proofs.Members.{no_members, members_more}
use Rattle.std.proofs.Common.{◌<◌, take, get_or, rules}
use Rattle.std.proofs.lemmas.List.{take_more}
use Rattle.std.proofs.lemmas.List.Elements.{All-push}
use Rattle.uses.proofs.text.sets.set_of.Goals as goal

pub loop-position-preserved : goal.loop-position-preserved
loop-position-preserved c =
    let positions = c.args.positions.now in
    let i = c.loop-position.position-index in
    let before = c.loop-position.invariant in
    record {
      below = rw (take_more positions i 0 c.loop-position-test.true)
          (All-push (λ p. p < c.args.length) (take i positions) (get_or positions i 0) before.below
          c.if-position-length.false);
      set =
          rw c.insert.ensures (members_more c.args.length positions i c.loop-position.set c.loop-position-test.true
          c.if-position-length.false before.set);
    }

pub returns-then-position-length : goal.returns-then-position-length
returns-then-position-length c = search (rules, no_members) steps 300000
