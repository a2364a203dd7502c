use Rattle.std.proofs.Common.{◌∙◌, ◌≡◌, ◌≤◌, ap, rules, length, drop, replicate}
use Rattle.std.proofs.Common.{⊎_elim, inl, inr, arith, ℕ, length-take, length-drop}
use Rattle.std.proofs.lemmas.Bool.{cases_Bool}
use Rattle.bitwords.proofs.Cleared.{IsJoined-kept, IsJoined-zeroed}
use Rattle.bitwords.proofs.Written.{over_all, placed_all, placed_rest, placed_zeros}
use Rattle.bitwords.proofs.Written.{length-placed, length-kept, slice_rest}
use Rattle.bitwords.proofs.joins.join_to.Goals as goal

pub returns-then-KEEP-clause-bits : goal.returns-then-KEEP-clause-bits
returns-then-KEEP-clause-bits g c =
    let xs = c.args.words.now in
    let ys = c.args.other.now in
    let shorter : length ys ≤ length xs = omega (arith, c.if-common-words.true) in
    let rest : c.apply.new.dst ≡ drop (length ys) xs = c.apply.ensures.words ∙ over_all _ _ (search rules)
    ∙ slice_rest (length ys) xs in
    rw (placed_rest g.O.WordOp.joined c.args.to.now xs ys c.apply_joined.new.dst c.requires.long shorter
    c.apply_joined.ensures.words c.apply.new.dst rest)
    (IsJoined-kept g.met.O.WordOp.laws xs ys (λ k. search rules) (λ k. search rules) (inr (search rules)))

pub returns-else-KEEP-clause-bits : goal.returns-else-KEEP-clause-bits
returns-else-KEEP-clause-bits g c =
    let xs = c.args.words.now in
    let ys = c.args.other.now in
    let shorter : length ys ≤ length xs = omega (arith, c.if-common-words.true) in
    let kept = length-kept g.O.WordOp.joined xs ys in
    let long = length-placed g.O.WordOp.joined c.args.to.now xs ys c.apply_joined.new.dst c.requires.long shorter
    c.apply_joined.ensures.words in
    rw (placed_zeros g.O.WordOp.joined c.args.to.now xs ys c.apply_joined.new.dst c.requires.long shorter
    c.apply_joined.ensures.words c.zero.new.dst)
    (IsJoined-zeroed g.met.O.WordOp.laws xs ys (λ k. search rules) (λ k. search rules) c.zero.new.dst (search rules)
    (omega (arith, kept, c.if-common-words.true))
    (c.zero.ensures.words ∙ ap (λ n. replicate n 0) (search rules)))

pub returns-else-common-words-clause-bits : goal.returns-else-common-words-clause-bits
returns-else-common-words-clause-bits g c =
    let xs = c.args.words.now in
    let ys = c.args.other.now in
    rw (
      c.apply_joined.ensures.words,
      placed_all g.O.WordOp.joined c.args.to.now xs ys c.requires.long (omega (arith, c.if-common-words.false)),
    )
    (IsJoined-kept g.met.O.WordOp.laws xs ys (λ k. search rules) (λ k. search rules)
    (⊎_elim (λ e. inr e) (λ e. inl (e, omega (arith, length-kept g.O.WordOp.joined xs ys)))
    (cases_Bool g.O.WordOp.KEEP)))

pub returns-then-KEEP-clause-cost : goal.returns-then-KEEP-clause-cost
returns-then-KEEP-clause-cost g c = omega (arith, length-take {A = ℕ}, length-drop {A = ℕ})

pub returns-else-KEEP-clause-cost : goal.returns-else-KEEP-clause-cost
returns-else-KEEP-clause-cost g c = omega (arith, length-take {A = ℕ}, length-drop {A = ℕ})
