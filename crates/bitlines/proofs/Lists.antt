-- Lists that are read one element after the other, and the list of numbers.
use Rattle.std.proofs.Common.{◌≡◌, ℕ, ◌<◌, List, [], ◌∷◌, length, arith, ◌++◌, Option, Some, None}
use Rattle.std.proofs.Common.{refl, ap, sym, ◌∙◌, append_assoc, append-nil, option_and_then}
use Rattle.std.proofs.lemmas.Option.{none-some, option_and_then_some, some_pair_parts}
use Rattle.bitlines.specs.Words.{number_of, number_at}
use Rattle.bitlines.specs.Arguments.{numbers_of}

-- these before those that are still to be read
abbrev pub onto : {A : Type 0} → List A → Option (List A) → Option (List A)
onto xs (Some ys) = Some (xs ++ ys)
onto xs None = None

pub onto-onto : {A : Type 0} (xs : List A) (x : A) (o : Option (List A))
    → onto xs (onto (x ∷ []) o) ≡ onto (xs ++ x ∷ []) o
onto-onto xs x o = grind (arith, append_assoc xs (x ∷ []))

pub onto-nil : {A : Type 0} (o : Option (List A)) → o ≡ onto [] o
onto-nil o = grind arith

pub onto-one : {A : Type 0} (x : A) (o : Option (List A)) → option_and_then (λ xs. Some (x ∷ xs)) o ≡ onto (x ∷ []) o
onto-one x o = grind arith

-- ---- numbers

pub numbers_start : (ws : List (List ℕ)) → numbers_of ws ≡ onto [] (numbers_of ws)
numbers_start ws = onto-nil (numbers_of ws)

-- the first word is read as a number
pub numbers_more : (all : Option (List ℕ)) (xs : List ℕ) (ws rest : List (List ℕ)) (n : ℕ)
    → all ≡ onto xs (numbers_of ws) → number_at ws ≡ Some (n, rest) → all ≡ onto (xs ++ n ∷ []) (numbers_of rest)
unfolding number_at numbers_of
numbers_more all xs [] rest n e read = absurd (none-some (n, rest) read)
numbers_more all xs (w ∷ ws) rest n e read =
    option_and_then_some (λ m. Some (m, ws)) (number_of w) (n, rest) read (λ m is pair.
    let parts = some_pair_parts m n ws rest pair in
    e ∙ ap (onto xs) (rw is (onto-one m (numbers_of ws))) ∙ onto-onto xs m (numbers_of ws)
    ∙ ap (λ k. onto (xs ++ k ∷ []) (numbers_of ws)) parts.0 ∙ ap (λ u. onto (xs ++ n ∷ []) (numbers_of u)) parts.1)

-- so a word fewer is left
pub fewer_words : (ws rest : List (List ℕ)) (n : ℕ) → number_at ws ≡ Some (n, rest) → length rest < length ws
unfolding number_at
fewer_words [] rest n read = absurd (none-some (n, rest) read)
fewer_words (w ∷ ws) rest n read =
    option_and_then_some (λ m. Some (m, ws)) (number_of w) (n, rest) read
    (λ m is pair. omega (arith, ap length (some_pair_parts m n ws rest pair).1))

none_first : (w : List ℕ) (ws : List (List ℕ)) (o : Option ℕ) → number_of w ≡ o
    → option_and_then {U = ℕ × List (List ℕ)} (λ m. Some (m, ws)) o ≡ None → numbers_of (w ∷ ws) ≡ None
unfolding numbers_of
none_first w ws None is none = rw is refl
none_first w ws (Some m) is none = absurd (none-some (m, ws) (sym none))

pub numbers_none : (all : Option (List ℕ)) (xs : List ℕ) (ws : List (List ℕ)) → all ≡ onto xs (numbers_of ws)
    → 0 < length ws → number_at ws ≡ None → all ≡ None
unfolding number_at
numbers_none all xs [] e some none = absurd (omega arith)
numbers_none all xs (w ∷ ws) e some none = e ∙ ap (onto xs) (none_first w ws (number_of w) refl none)

pub numbers_end : (all : Option (List ℕ)) (xs : List ℕ) (ws : List (List ℕ)) → all ≡ onto xs (numbers_of ws)
    → length ws ≡ 0 → all ≡ Some xs
unfolding numbers_of
numbers_end all xs [] e end = e ∙ ap Some (append-nil xs)
numbers_end all xs (w ∷ ws) e end = absurd (omega arith)
