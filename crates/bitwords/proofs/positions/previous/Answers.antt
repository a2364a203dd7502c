use Rattle.std.proofs.Common.{◌≡◌, ◌+◌, rules, arith}
use Rattle.bitwords.proofs.Neighbouring.{own_previous, earlier_previous, none_earlier}
use Rattle.bitwords.proofs.positions.previous.Goals as goal

pub returns-then-word-ne0-clause-found : goal.returns-then-word-ne0-clause-found
returns-then-word-ne0-clause-found g c =
    let all : c.args.below ≡ c.in_ok-last.last + 1 = search rules in
    rw all
    (own_previous g.met.O.WordOp.laws c.requires.drops c.args.words.now (λ k. search rules) c.in_ok-last.last
    c.stretch.result c.word-word.result c.stretch.type_inv c.stretch.ensures c.word-word.ensures
    c.highest_bit.result c.highest_bit.ensures)

pub returns-in_err-at-clause-none : goal.returns-in_err-at-clause-none
returns-in_err-at-clause-none g c =
    let all : c.args.below ≡ c.in_ok-last.last + 1 = search rules in
    rw (c.from_residual-in_err-at.ensures, all)
    (none_earlier g.met.O.WordOp.laws c.requires.drops c.args.words.now (λ k. search rules) c.in_ok-last.last
    c.stretch.result c.word-word.result c.stretch.type_inv c.stretch.ensures c.word-word.ensures
    (omega (arith, all, c.requires.within)) c.if-word-ne0.false c.in_err-at.ensures.none)

pub returns-clause-found : goal.returns-clause-found
returns-clause-found g c =
    let all : c.args.below ≡ c.in_ok-last.last + 1 = search rules in
    rw all
    (earlier_previous g.met.O.WordOp.laws c.requires.drops c.args.words.now (λ k. search rules) c.in_ok-last.last
    c.stretch.result c.word-word.result c.stretch.type_inv c.stretch.ensures c.word-word.ensures
    (omega (arith, all, c.requires.within)) c.if-word-ne0.false c.in_ok-at.at c.word.result c.word.ensures
    c.highest_bit-2.result c.in_ok-at.ensures.found c.highest_bit-2.ensures)

pub returns-clause-cost : goal.returns-clause-cost
returns-clause-cost g c =
    let all : c.args.below ≡ c.in_ok-last.last + 1 = search rules in
    omega (arith, all, c.in_ok-at.ensures.cost, c.highest_bit-2.ensures.within)

pub returns-clause-bound : goal.returns-clause-bound
returns-clause-bound g c = omega (arith, c.in_ok-at.ensures.cost)

pub returns-in_err-last-clause-empty : goal.returns-in_err-last-clause-empty
returns-in_err-last-clause-empty g c = search rules steps 100000

pub returns-in_err-at-clause-missed : goal.returns-in_err-at-clause-missed
returns-in_err-at-clause-missed g c = search rules steps 300000
