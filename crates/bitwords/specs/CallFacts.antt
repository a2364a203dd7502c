-- Calls of an iterator one after the other.
use Rattle.std.specs.Prelude.{ℕ, ◌+◌, Option, Some, None, List, [], ◌∷◌, ◌++◌, length}
use Rattle.std.specs.Iterator.{YieldsFirst, YieldsLast, item_count, MakesProgress}
use Rattle.std.proofs.Common.{refl, sym, ap, ◌∙◌, arith, append_assoc, append-nil}
use Rattle.std.proofs.lemmas.List.{length-append}
use Rattle.bitwords.specs.Walk.{Walk, TakesFromFront, TakesFromBack}

module _ (n m : ℕ) (old now new : Walk) where
  pub takes_front : TakesFromFront n old now → TakesFromFront m now new → TakesFromFront (n + m) old new
  takes_front one two = record {
    words = one.words ++ two.words;
    front = one.front ∙ ap (λ ws. one.words ++ ws) two.front ∙ sym (append_assoc one.words two.words new.words);
    counts = record {
      taken = omega (arith, one.counts.taken, two.counts.taken, length-append one.words two.words);
      turns = omega (arith, one.counts.turns, two.counts.turns, length-append one.words two.words);
    };
  }

  pub takes_back : TakesFromBack n old now → TakesFromBack m now new → TakesFromBack (n + m) old new
  takes_back one two = record {
    words = two.words ++ one.words;
    back = one.back ∙ ap (λ ws. ws ++ one.words) two.back ∙ append_assoc new.words two.words one.words;
    counts = record {
      taken = omega (arith, one.counts.taken, two.counts.taken, length-append two.words one.words);
      turns = omega (arith, one.counts.turns, two.counts.turns, length-append two.words one.words);
    };
  }

module _ (walk : Walk) where
  -- no call takes no word
  pub takes_none : TakesFromFront 0 walk walk
  takes_none = record { words = []; front = refl; counts = record { taken = omega arith; turns = omega arith } }

  pub takes_none_back : TakesFromBack 0 walk walk
  takes_none_back =
      record {
        words = [];
        back = sym (append-nil walk.words);
        counts = record { taken = omega arith; turns = omega arith };
      }

-- an iterator that yields the first, or the last, comes nearer its end
pub progress_first : {S A : Type 0} (rest : S → List A) (s : S) (r : Option A) (t : S) → YieldsFirst rest s r t
    → MakesProgress (λ _. Unit {0}) (item_count rest) s r t
progress_first rest s None t gives = record { on = λ _. tt; keeps = tt; rests = λ _. tt }
progress_first rest s (Some x) t gives =
    record { on = λ _. (tt, tt, omega (arith, ap length gives)); keeps = tt; rests = λ _. tt }

pub progress_last : {S A : Type 0} (rest : S → List A) (s : S) (r : Option A) (t : S) → YieldsLast rest s r t
    → MakesProgress (λ _. Unit {0}) (item_count rest) s r t
progress_last rest s None t gives = record { on = λ _. tt; keeps = tt; rests = λ _. tt }
progress_last rest s (Some x) t gives =
    record {
      on = λ _. (tt, tt, omega (arith, ap length gives, length-append (rest t) (x ∷ [])));
      keeps = tt;
      rests = λ _. tt;
    }
