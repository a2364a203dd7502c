-- A set that a command changes by another one, which is taken out of its place meanwhile, or by itself.
use Rattle.std.proofs.Common.{◌≡◌, ◌≢◌, ℕ, ◌<◌, ◌≤◌, ◌⊎◌, inl, inr, Bool, true, false, IsTrue, length, get_or, set}
use Rattle.std.proofs.Common.{None, Result, Ok, MatchOption, ◌∙◌, sym, arith, refl}
use Rattle.std.specs.Result.{IsErr, IsErrAnd}
use Rattle.std.proofs.lemmas.Bool.Decides.{nat_tests}
use Rattle.std.proofs.lemmas.Grind.{common_steps}
use Rattle.std.proofs.lemmas.List.{set-set, set-get_or, get_or-set_other, get_or_read}
use Rattle.fixedbitset.specs.Bits.{Bits, empty, words_needed}
use Rattle.fixedbitset.specs.TwoSetsFacts.{union-same, intersection-same, difference-same, symmetric_difference-same}
use Rattle.bitcommands.specs.declared.commands.refusals.Refusal.{Refusal}
use Rattle.bitcommands.specs.declared.commands.refusals.Refusal.TheVariants as refusal
use Rattle.bitcommands.specs.declared.commands.replies.Reply.{Reply}
use Rattle.bitcommands.specs.declared.commands.replies.Reply.TheVariants as reply
use Rattle.bitcommands.specs.Answers as answer
use Rattle.bitcommands.specs.Guards.{no_sets, needs_more_words}
use Rattle.bitcommands.specs.Outcomes.{Passes, replied}
use Rattle.bitcommands.specs.Sets.{Sets, at}

-- a function changes set a by set b; where it does not, it returns why, and nothing changes
abbrev pub Joins : Sets → ℕ → ℕ → (Bits → ℕ → Bool) → (Bits → Bits → Bits) → Result Reply Refusal → Sets → Type 0
Joins old a b takes_memory join r new = MatchOption (no_sets old a b)
    (((replied r ≡ answer.done) × (new ≡ set old a (join (at old a) (at old b))))
    ⊎ ((replied r ≡ answer.refused refusal.Memory)
    × (IsTrue (takes_memory (at old a) (at old b).length) × (new ≡ old))))
    (λ f. (replied r ≡ answer.refused f) × (new ≡ old))

-- what is made of a set and itself is the set, or has no position
pub ruleset by_itself =
    (common_steps, set-get_or, union-same, intersection-same, difference-same, symmetric_difference-same)

no_refusal : (old : Sets) (a b : ℕ) (u : Unit {0}) → Passes (Ok u) (no_sets old a b)
    → (no_sets old a b ≡ None) × (a < length old) × (b < length old)
no_refusal old a b u passes = grind (arith, nat_tests)

module _ (old : Sets) (a b : ℕ) (here there e t : Bits) (u : Unit {0}) (passes : Passes (Ok u) (no_sets old a b))
    (apart : a ≢ b) (is : here ≡ get_or old a here) (taken : t ≡ get_or old a here)
    (other : there ≡ get_or (set old a e) b there) where
  first : t ≡ at old a
  first = taken ∙ sym is ∙ get_or_read old a here (no_refusal old a b u passes).1 is (empty 0)

  -- what was read while the place was empty is what stood there before
  second : get_or (set old a e) b there ≡ at old b
  second =
      sym other ∙ get_or_read old b there (no_refusal old a b u passes).2
      (other ∙ get_or-set_other old a b e there (λ same. apart (sym same))) (empty 0)

  pub changed : (takes_memory : Bits → ℕ → Bool) (join : Bits → Bits → Bits) (new : Bits)
      → new ≡ join t (get_or (set old a e) b there)
      → Joins old a b takes_memory join (Ok reply.Done) (set (set old a e) a new)
  changed takes_memory join new h =
      rw ((no_refusal old a b u passes).0, h, first, second) (inl (refl, set-set old a e (join (at old a) (at old b))))

  pub stopped : (join : Bits → Bits → Bits) (new : Bits) (r : Result Reply Refusal)
      → IsErr r × IsErrAnd r (λ f. f ≡ refusal.Memory) → new ≡ t
      → (words_needed (get_or (set old a e) b there).length ≤ words_needed t.length → false ≡ true)
      → Joins old a b needs_more_words join r (set (set old a e) a new)
  stopped join new r memory kept h =
      let few : IsTrue (needs_more_words (at old a) (at old b).length) = grind (arith, nat_tests, first, second, h) in
      rw ((no_refusal old a b u passes).0, kept, first)
      (inr (grind (arith, memory), (few, set-set old a e (at old a) ∙ set-get_or old a (empty 0))))
