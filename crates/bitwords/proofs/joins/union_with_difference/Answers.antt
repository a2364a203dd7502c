use Rattle.std.proofs.Common.{◌∙◌, bit_or, rules, arith, ℕ, length-take, length-drop}
use Rattle.bitlanes.specs.Bits.{bit_without}
use Rattle.bitwords.proofs.Lacking.{lacked_taken, lacked_changes, written_behind, changed_behind}
use Rattle.bitwords.proofs.joins.union_with_difference.Goals as goal

pub returns-clause-bits : goal.returns-clause-bits
returns-clause-bits c =
    let after =
    written_behind bit_or bit_without c.min-common.result c.args.words.now c.args.gens.now c.args.kills.now
    c.apply_joined-joined.new.dst c.min-common.ensures c.requires.shorter c.apply_joined-joined.ensures.words
    c.apply-behind.new.dst c.apply-behind.ensures.words in
    rw after (lacked_taken c.args.gens.now c.args.kills.now (λ k. search rules) (λ k. search rules) c.args.words.now
    (λ k. search rules) c.requires.shorter)

pub returns-clause-changed : goal.returns-clause-changed
returns-clause-changed c =
    changed_behind bit_or bit_without c.min-common.result c.args.words.now c.args.gens.now c.args.kills.now
    c.apply_joined-joined.new.dst c.min-common.ensures c.requires.shorter c.apply_joined-joined.ensures.words
    c.apply_joined-joined.result c.apply-behind.result c.apply_joined-joined.ensures.changed
    c.apply-behind.ensures.changed
    ∙ lacked_changes c.args.gens.now c.args.kills.now (λ k. search rules) (λ k. search rules) c.args.words.now
    (λ k. search rules) c.requires.shorter

pub returns-clause-cost : goal.returns-clause-cost
returns-clause-cost c = grind (arith, length-take {A = ℕ}, length-drop {A = ℕ})
