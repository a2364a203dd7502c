use Rattle.std.proofs.Common.{◌≡◌, ◌+◌, ◌-◌, ◌/◌, ◌^◌, ◌≤◌, ℕ, List, set, bit_and, get_or}
use Rattle.std.proofs.Common.{length, replicate, rules, refl, sym, ap, ◌∙◌, ◌==◌, arith, inl}
use Rattle.std.proofs.Common.{inr, ⊎_elim, get_or-set_same, get_or-set_other, length-set}
use Rattle.std.proofs.lemmas.Bool.{cases_order, le-ltb, lt-ltb}
use Rattle.std.proofs.lemmas.Bool.Decides.{nat_tests}
use Rattle.std.proofs.lemmas.Grind.{common_steps}
use Rattle.std.proofs.lemmas.Nat.Bits.{bit_at_ones}
use Rattle.bitlanes.specs.BitLaws.{laws_of_and}
use Rattle.bitwords.proofs.Cleared.{length-cut_row, get_or-cut_row_below, get_or-cut_row_from}
use Rattle.bitwords.proofs.Joined.{IsJoined_words}
use Rattle.bitwords.proofs.positions.clear_from.Goals as goal

pub returns-then-at-words : goal.returns-then-at-words
returns-then-at-words c =
    let old : List ℕ = c.args.words.now in
    let at : ℕ = c.args.start / 64 in
    let put : ℕ = bit_and (get_or old at 0) c.ones_below.result in
    let row : List ℕ = set old at put in
    let same : length row ≡ length old = length-set old at put in
    let inside : at + 1 ≤ length row = omega arith in
    let are : c.zero.new.dst ≡ replicate (length row - (at + 1)) 0 = search rules in
    let before = get_or-cut_row_below row c.zero.new.dst (at + 1) inside are in
    IsJoined_words laws_of_and old (λ k. search rules) _ _ (length-cut_row row c.zero.new.dst (at + 1) inside are
    ∙ same) (λ k within. ⊎_elim
    (λ (here : k ≡ at). rw here (inl (record {
      word = c.ones_below.result;
      fits = c.ones_below.type_inv;
      joined = before at (omega arith) ∙ get_or-set_same old at put 0 (omega arith);
      bits = λ i h. c.ones_below.ensures i ∙ grind (arith, nat_tests);
    })))
    (λ other. ⊎_elim
    (λ lt. inl (record {
      word = 2 ^ 64 - 1;
      fits = omega arith;
      joined = before k (omega (arith, lt)) ∙ get_or-set_other old at k put 0 (omega (arith, lt))
          ∙ grind (arith, common_steps);
      bits = λ i h. ap (λ n. n == 1) (bit_at_ones 64 i h) ∙ sym (lt-ltb _ _ (omega (arith, lt)));
    }))
    (λ gt.
    inr (record {
      none = λ i h. le-ltb _ _ (omega (arith, gt));
      left = inr (refl, get_or-cut_row_from row c.zero.new.dst (at + 1) inside are k (omega (arith, gt)) (omega arith));
    }))
    other)
    (cases_order k at))
