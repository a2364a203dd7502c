-- Calls of a walk from its two ends, in any order.
use Rattle.std.proofs.Common.{◌≡◌, ℕ, suc, ◌+◌, ◌≤◌, List, [], ◌∷◌, ◌++◌, length, reverse}
use Rattle.std.proofs.Common.{Option, Some, None, sym, ap, ◌∙◌, arith, append_assoc, append-nil}
use Rattle.std.proofs.lemmas.List.{length-append, reverse-append}
use Rattle.std.specs.Iterator.{YieldsFirst, YieldsLast}
use Rattle.bitwords.specs.Walk.{Walk, TakesFromFront, TakesFromBack}
use Rattle.bitwalks.specs.Pairs.{Sieved, AsksFront, AsksBack}
use Rattle.bitlaws.specs.WalkLaws.{from_front, from_back, given_back, PartsAreTheList, TookWords}
use Rattle.bitlaws.specs.WalkLaws.{TurnsOfCalls, LooksUpOnce, JoinsOnce, SplitsOnce, effort}

module _ {S : Type 0} (items : S → List ℕ) (first last : S → Option ℕ → S → Type 0)
    (gives_first : (s : S) (r : Option ℕ) (t : S) → first s r t → YieldsFirst items s r t)
    (gives_last : (s : S) (r : Option ℕ) (t : S) → last s r t → YieldsLast items s r t) where
  pub parts : PartsAreTheList items first last
  parts [] s t same = append-nil (items t) ∙ sym (ap items same)
  parts (from_front None ∷ calls) s t call =
      let gave = gives_first s None call.0 call.1 in parts calls call.0 t call.2 ∙ gave.1 ∙ sym gave.0
  parts (from_front (Some x) ∷ calls) s t call =
      ap (λ xs. x ∷ xs) (parts calls call.0 t call.2) ∙ sym (gives_first s (Some x) call.0 call.1)
  parts (from_back None ∷ calls) s t call =
      let gave = gives_last s None call.0 call.1 in parts calls call.0 t call.2 ∙ gave.1 ∙ sym gave.0
  parts (from_back (Some x) ∷ calls) s t call =
      let turned : reverse (x ∷ given_back calls) ≡ reverse (given_back calls) ++ x ∷ [] =
      reverse-append (x ∷ []) (given_back calls) in
      rw (turned, gives_last s (Some x) call.0 call.1, ← parts calls call.0 t call.2) (simp append_assoc)

-- ---- turns

took_front : (calls : ℕ) (s u t : Walk) → TakesFromFront 1 s u → TookWords calls u t → TookWords (suc calls) s t
took_front calls s u t one rest =
    let long = length-append one.words rest.front in
    record {
      front = one.words ++ rest.front;
      back = rest.back;
      stretch = simp (one.front, rest.stretch, append_assoc);
      taken = omega arith;
      turns = omega arith;
    }

took_back : (calls : ℕ) (s u t : Walk) → TakesFromBack 1 s u → TookWords calls u t → TookWords (suc calls) s t
took_back calls s u t one rest =
    let long = length-append rest.back one.words in
    record {
      front = rest.front;
      back = rest.back ++ one.words;
      stretch = simp (one.back, rest.stretch, append_assoc);
      taken = omega arith;
      turns = omega arith;
    }

pub turns_of_calls : TurnsOfCalls
turns_of_calls [] s t same =
    rw same
    (record { front = []; back = []; stretch = sym (append-nil t.words); taken = omega arith; turns = omega arith })
turns_of_calls (from_front r ∷ calls) s t call =
    took_front (length calls) s call.0 t call.1.1 (turns_of_calls calls call.0 t call.2)
turns_of_calls (from_back r ∷ calls) s t call =
    took_back (length calls) s call.0 t call.1.1 (turns_of_calls calls call.0 t call.2)

-- what calls from one end add to the turns of a source, and take from its words
spent_front : (calls : ℕ) (s t : Walk) → TakesFromFront calls s t
    → t.turns + length t.words ≡ s.turns + calls + length s.words
spent_front calls s t takes =
    omega (arith, takes.counts.turns, ap length takes.front, length-append takes.words t.words)

spent_back : (calls : ℕ) (s t : Walk) → TakesFromBack calls s t
    → t.turns + length t.words ≡ s.turns + calls + length s.words
spent_back calls s t takes = omega (arith, takes.counts.turns, ap length takes.back, length-append t.words takes.words)

effort_front : (s t : Sieved) → AsksFront s t → effort t ≤ effort s + 1
effort_front s t asks = omega (arith, spent_front asks.calls s.source t.source asks.takes, asks.asks.few)

effort_back : (s t : Sieved) → AsksBack s t → effort t ≤ effort s + 1
effort_back s t asks = omega (arith, spent_back asks.calls s.source t.source asks.takes, asks.asks.few)

pub looks_up_once : LooksUpOnce
looks_up_once [] s t same = rw same (omega arith)
looks_up_once (from_front r ∷ calls) s t call =
    omega (arith, looks_up_once calls call.0 t call.2, effort_front s call.0 call.1.1)
looks_up_once (from_back r ∷ calls) s t call =
    omega (arith, looks_up_once calls call.0 t call.2, effort_back s call.0 call.1.1)

pub joins_once : JoinsOnce
joins_once [] s t same = rw same (omega arith)
joins_once (from_front r ∷ calls) s t call =
    let first = spent_front _ s.first call.0.first call.1.1.0.takes in
    omega (arith, joins_once calls call.0 t call.2, first, effort_front s.second call.0.second call.1.1.1)
joins_once (from_back r ∷ calls) s t call =
    let first = spent_back _ s.first call.0.first call.1.1.0.takes in
    omega (arith, joins_once calls call.0 t call.2, first, effort_back s.second call.0.second call.1.1.1)

pub splits_once : SplitsOnce
splits_once [] s t same = rw same (omega arith)
splits_once (from_front r ∷ calls) s t call =
    let first = effort_front s.first call.0.first call.1.1.0 in
    omega (arith, splits_once calls call.0 t call.2, first, effort_front s.second call.0.second call.1.1.1)
splits_once (from_back r ∷ calls) s t call =
    let first = effort_back s.first call.0.first call.1.1.0 in
    omega (arith, splits_once calls call.0 t call.2, first, effort_back s.second call.0.second call.1.1.1)
