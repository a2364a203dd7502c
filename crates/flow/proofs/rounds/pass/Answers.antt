use Rattle.std.proofs.Common.{rules}
use Rattle.flow.specs.Turns.{facts_of}
use Rattle.flow.proofs.Turning.{ins_passed, outs_passed, as_long, none_passed, some_passed, none_written}
use Rattle.flow.proofs.rounds.pass.Goals as goal

pub returns-then-not-add-clause-none : goal.returns-then-not-add-clause-none
returns-then-not-add-clause-none c _ _ =
    none_passed (facts_of c.args.kills.now) c.args.kills.now c.args.ins.now c.args.outs.now c.args.from c.args.to
    c.requires.fits c.requires.from c.requires.to c.index-ins-to.result c.index-outs-from.result c.add.new.set
    c.add.ensures.value c.add.result c.add.ensures.changed c.if-not-add.true

pub returns-then-not-add-clause-ins : goal.returns-then-not-add-clause-ins
returns-then-not-add-clause-ins c =
    none_written (facts_of c.args.kills.now) c.args.kills.now c.args.ins.now c.args.outs.now c.args.from c.args.to
    c.requires.fits c.requires.from c.requires.to c.index-ins-to.result c.index-outs-from.result c.add.new.set
    c.add.ensures.value c.add.result c.add.ensures.changed c.if-not-add.true

pub add_spared-requires : goal.add_spared-requires
add_spared-requires c =
    as_long (facts_of c.args.kills.now) c.args.kills.now c.args.ins.now c.args.outs.now c.args.from c.args.to
    c.requires.fits c.requires.from c.requires.to c.index-ins-to.result c.index-outs-from.result c.add.new.set
    c.add.ensures.value c.index-ins-to-2.result c.index-outs-to.result

pub returns-clause-more : goal.returns-clause-more
returns-clause-more c _ =
    some_passed (facts_of c.args.kills.now) c.args.kills.now c.args.ins.now c.args.outs.now c.args.from c.args.to
    c.requires.fits c.requires.from c.requires.to c.index-ins-to.result c.index-outs-from.result c.add.new.set
    c.add.ensures.value c.add.result c.add.ensures.changed c.if-not-add.false

pub returns-clause-ins : goal.returns-clause-ins
returns-clause-ins c =
    ins_passed (facts_of c.args.kills.now) c.args.kills.now c.args.ins.now c.args.outs.now c.args.from c.args.to
    c.requires.fits c.requires.from c.requires.to c.index-ins-to.result c.index-outs-from.result c.add.new.set
    c.add.ensures.value

pub returns-clause-outs : goal.returns-clause-outs
returns-clause-outs c =
    outs_passed (facts_of c.args.kills.now) c.args.kills.now c.args.ins.now c.args.outs.now c.args.from c.args.to
    c.requires.fits c.requires.from c.requires.to c.index-ins-to.result c.index-outs-from.result c.add.new.set
    c.add.ensures.value c.index-ins-to-2.result c.index-outs-to.result c.index-kills-to.result c.add_spared.new.set
    c.index-kills-to.is c.add_spared.ensures

pub returns-clause-due : goal.returns-clause-due
returns-clause-due c = search rules steps 300000
