use Rattle.std.proofs.Common.{◌≡◌, arith}
use Rattle.std.proofs.lemmas.Bool.Decides.{nat_tests}
use Rattle.std.proofs.lemmas.Grind.{common_steps}
use Rattle.bitlines.proofs.Lists.{fewer_words, numbers_more, numbers_end}
use Rattle.bitlines.proofs.arguments.numbers.Goals as goal

pub loop-args-smaller : goal.loop-args-smaller
loop-args-smaller c = fewer_words c.loop-args.args c.number.new.self _ c.in-Ok.ensures

pub loop-args-preserved : goal.loop-args-preserved
loop-args-preserved c =
    let pushed : c.push.new.self.items ≡ _ = grind (arith, common_steps) in
    rw pushed (numbers_more _ c.loop-args.list.items c.loop-args.args c.number.new.self _ c.loop-args.invariant
    c.in-Ok.ensures)

pub returns : goal.returns
returns c = numbers_end _ c.loop-args.list.items c.loop-args.args c.loop-args.invariant (grind (arith, nat_tests))
