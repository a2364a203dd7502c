-- Numbers, ranges, flags, ends and JSON texts as the grammar spells them.
use Rattle.std.proofs.Common.{◌≡◌, ℕ, zero, suc, ◌^◌, ◌<◌, Bool, true, false, eqb, nat_lt, List, [], ◌∷◌, ◌++◌, length}
use Rattle.std.proofs.Common.{replicate, Some, refl, sym, ap, subst, ◌∙◌, arith, decimal, ◌+◌, ◌⊎◌, inl}
use Rattle.std.proofs.Common.{inr, ◌≢◌, ⊎_elim, cond, take, drop, Option, None, get_or, map, append-nil}
use Rattle.std.specs.Str.{all_ascii_digits, bytes_eq, is_utf8}
use Rattle.std.specs.Str.Parse.{digits_value}
use Rattle.std.proofs.lemmas.Bool.{cases_eq, and_parts}
use Rattle.std.proofs.lemmas.Bool.Decides.{nat_tests}
use Rattle.std.proofs.lemmas.Option.{cond_some, same_Some, option_and_then_some}
use Rattle.std.proofs.lemmas.Fmt.{decimal-digits_value}
use Rattle.std.specs.Prelude.{slice_index_or, position, codes}
use Rattle.std.specs.Char.{is_ascii_digit}
use Rattle.std.proofs.lemmas.Grind.{common_steps}
use Rattle.std.proofs.lemmas.List.Sums.{split_at_first, passes_at_first}
use Rattle.std.specs.List.{position_or_len, join_with_byte}
use Rattle.std.proofs.Math.Seq.{take-append_seam, drop-append-add}
use Rattle.std.proofs.Math.ListN.{get_or-eq_default}
use Rattle.std.proofs.lemmas.Slice.Eq.{bytes_eq-Decides}
use Rattle.std.proofs.lemmas.Str.{IsUtf8-from_is_utf8}
use Rattle.bitlines.specs.Words.{number_of}
use Rattle.bitlines.specs.Grammar.{SpellsNumber, SpellsBound, SpellsLast, SpellsRange, Spells}
use Rattle.bitlines.proofs.ArgumentTexts.{own, number_read, lacks, digits_lack, found_at, second_dot, not_first}
use Rattle.bitlanes.specs.Range.{behind}
use Rattle.bitcommands.specs.Actions.{Range}
use Rattle.bitlines.specs.Arguments.{bound_of, end_bound_of, bounds_of, range_of, flag_of, end_of, ends_from, ends_of}
use Rattle.bitlines.specs.Arguments.{json_of}
use Rattle.bitlines.proofs.Numbers.{number_empty}
use Rattle.serde_json.specs.Data.{Data}
use Rattle.serde_json.specs.Read.{read}
use Rattle.bitcommands.specs.declared.commands.arguments.End.{End}
use Rattle.bitcommands.specs.Texts.{flag_text}
use Rattle.bitcommands.specs.Arguments.{json}
use Rattle.bitlines.specs.Written.{letter}

-- ---- a number

-- a zero in front changes nothing
zero_first : (w : List ℕ) (n : ℕ) → number_of w ≡ Some n → number_of (48 ∷ w) ≡ Some n
unfolding number_of
zero_first w n e = grind (arith, nat_tests)

zeros_first : (zeros n : ℕ) → n < 2 ^ 64 → number_of (replicate zeros 48 ++ decimal n) ≡ Some n
zeros_first zero n h = number_read n h
zeros_first (suc zeros) n h =
    zero_first (replicate zeros 48 ++ decimal n) n (zeros_first zeros n h)

-- what spells a number is read as it
pub number_reads : (n : ℕ) (w : List ℕ) → SpellsNumber n w → number_of w ≡ Some n
number_reads n w s = ap number_of s.1 ∙ zeros_first s.0 n s.2

-- digits are zeros and the decimal text of their value
without_zeros : (w : List ℕ) → 0 < length w → all_ascii_digits w ≡ true
    → digits_value 10 w < 2 ^ 64
    → (zeros : ℕ) × (w ≡ replicate zeros 48 ++ decimal (digits_value 10 w))
without_zeros [] some digits fits = absurd (omega arith)
without_zeros (c ∷ []) some digits fits =
    (0, sym (decimal-digits_value own (c ∷ []) digits some (λ z. refl) fits))
without_zeros (c ∷ d ∷ ds) some digits fits =
    ⊎_elim
    (λ (zero : c ≡ 48).
    let more = without_zeros (d ∷ ds) (omega arith) (and_parts (is_ascii_digit c) (all_ascii_digits (d ∷ ds)) digits).1
    (rw zero at fits) in
    let same : digits_value 10 (c ∷ d ∷ ds) ≡ digits_value 10 (d ∷ ds) = ap (λ x. digits_value 10 (x ∷ d ∷ ds)) zero in
    (suc more.0, cc (zero, more.1, same)))
    (λ (other : c ≢ 48). (0, sym (decimal-digits_value own (c ∷ d ∷ ds) digits some (λ z. absurd (other z)) fits)))
    (cases_eq c 48)

-- what is read as a number spells it
pub number_spelled : (n : ℕ) (w : List ℕ) → number_of w ≡ Some n → SpellsNumber n w
unfolding number_of
number_spelled n w e =
    let h = cond_some _ (digits_value 10 w) n e in
    let parts = and_parts (nat_lt 0 (length w)) _ h.0 in
    let some : 0 < length w = grind (arith, nat_tests, parts.0) in
    let inner = and_parts (all_ascii_digits w) _ parts.1 in
    let fits : digits_value 10 w < 2 ^ 64 = grind (arith, nat_tests, inner.1) in
    let cut = without_zeros w some inner.0 fits in
    (cut.0, cut.1 ∙ ap (λ v. replicate cut.0 48 ++ decimal v) h.1, subst (λ v. v < 2 ^ 64) h.1 fits)

-- ---- bytes that a spelling lacks

-- a byte that is no digit is nowhere in a number
pub number_lacks : (b n : ℕ) (w : List ℕ) → is_ascii_digit b ≡ false → SpellsNumber n w
    → lacks b w ≡ true
unfolding number_of
number_lacks b n w none s =
    let are = and_parts _ _ (cond_some _ (digits_value 10 w) n (number_reads n w s)).0 in
    digits_lack b w none (and_parts (all_ascii_digits w) _ are.1).0

pub bound_lacks_byte : (b : ℕ) (o : Option ℕ) (w : List ℕ) → is_ascii_digit b ≡ false
    → SpellsBound o w → lacks b w ≡ true
bound_lacks_byte b None w none s = ap (lacks b) s
bound_lacks_byte b (Some n) w none s = number_lacks b n w none s

pub end_lacks : (o : Option ℕ) (w : List ℕ) → SpellsBound o w ⊎ SpellsLast o w → lacks 32 w ≡ true
end_lacks o w (inl s) = bound_lacks_byte 32 o w refl s
end_lacks o w (inr s) = ap (lacks 32) s.2 ∙ number_lacks 32 s.0 s.1 refl s.3

-- ---- a bound

bound_reads : (o : Option ℕ) (w : List ℕ) → SpellsBound o w → bound_of w ≡ Some o
unfolding bound_of
bound_reads None w s = rw s refl
bound_reads (Some n) w s = grind (arith, nat_tests, number_reads n w s, number_empty w)

bound_spelled : (o : Option ℕ) (w : List ℕ) → bound_of w ≡ Some o → SpellsBound o w
unfolding bound_of
bound_spelled o [] e = rw (← same_Some None o e) refl
bound_spelled o (c ∷ cs) e =
    let some : eqb (length (c ∷ cs)) 0 ≡ false = grind (arith, nat_tests) in
    option_and_then_some _ (number_of (c ∷ cs)) o (rw some at e)
    (λ n f g. rw (← same_Some (Some n) o g) (number_spelled n (c ∷ cs) f))

-- ---- an end

end_reads : (o : Option ℕ) (w : List ℕ) → SpellsBound o w ⊎ SpellsLast o w
    → end_bound_of w ≡ Some o
unfolding end_bound_of
end_reads o w (inl s) = rw (not_first w (bound_lacks_byte 61 o w refl s)) (bound_reads o w s)
end_reads o w (inr s) =
    rw (s.2, number_reads s.0 s.1 s.3) (ap Some (sym s.4))

end_spelled : (o : Option ℕ) (w : List ℕ) → end_bound_of w ≡ Some o
    → SpellsBound o w ⊎ SpellsLast o w
unfolding end_bound_of
end_spelled o [] e = inl (bound_spelled o [] e)
end_spelled o (c ∷ digits) e = by_first (eqb c 61) refl
  where
    by_first : (b : Bool) → eqb c 61 ≡ b → SpellsBound o (c ∷ digits) ⊎ SpellsLast o (c ∷ digits)
    by_first false f = inl (bound_spelled o (c ∷ digits) (rw f at e))
    by_first true f =
        let equals : c ≡ 61 = grind (arith, nat_tests) in
        option_and_then_some (λ n. Some (Some (behind n))) (number_of digits) o (rw f at e)
        (λ n g h. inr (n, digits, ap (λ x. x ∷ digits) equals, number_spelled n digits g, sym (same_Some _ o h)))

-- ---- a range

pub range_reads : (r : Range) (w : List ℕ) → SpellsRange r w → range_of w ≡ Some r
unfolding range_of bounds_of
range_reads r w s =
    rw (
      s.2,
      found_at 46 s.0 (46 ∷ s.1) (bound_lacks_byte 46 r.0 s.0 refl s.3),
      second_dot s.0 s.1,
      take-append_seam s.0 (46 ∷ 46 ∷ s.1),
      drop-append-add s.0 (46 ∷ 46 ∷ s.1) 2,
      bound_reads r.0 s.0 s.3,
      end_reads r.1 s.1 s.4,
    ) refl

-- a text is what stands before the first byte, the byte and what stands behind it
cut_text : (b : ℕ) (w : List ℕ) (k : ℕ) → position (λ x. eqb x b) w ≡ Some k
    → w ≡ take k w ++ b ∷ drop (k + 1) w
cut_text b w k found =
    let h = cond_some _ _ _ found in
    let inside : position_or_len (λ x. eqb x b) w < length w = grind (arith, nat_tests, h.0) in
    let passes = passes_at_first (λ x. eqb x b) w 0 inside in
    let is : get_or w (position_or_len (λ x. eqb x b) w) 0 ≡ b = grind (arith, nat_tests) in
    rw (← h.1) (rw is at (split_at_first (λ x. eqb x b) w 0 inside))

second_cut : (w : List ℕ) (k : ℕ) → slice_index_or w (k + 1) 0 ≡ 46
    → drop (k + 1) w ≡ 46 ∷ drop (k + 2) w
second_cut w k e =
    let inside : k + 1 < length w = grind (arith, get_or-eq_default w 0 {n = k + 1}) in
    grind (arith, common_steps)

pub then_some : {A : Type 0} (b : Bool) (x : Option A) (y : A) → cond b x None ≡ Some y
    → (b ≡ true) × (x ≡ Some y)
then_some b x y e = grind arith

bounds_spelled : (r : Range) (start end : List ℕ) → bounds_of start end ≡ Some r
    → SpellsBound r.0 start × (SpellsBound r.1 end ⊎ SpellsLast r.1 end)
unfolding bounds_of
bounds_spelled r start end e =
    option_and_then_some _ (bound_of start) r e (λ a f g.
    option_and_then_some _ (end_bound_of end) r g (λ b h i.
    let same = same_Some (a, b) r i in
    rw (← same) (bound_spelled a start f, end_spelled b end h)))

pub range_spelled : (r : Range) (w : List ℕ) → range_of w ≡ Some r → SpellsRange r w
unfolding range_of
range_spelled r w e =
    option_and_then_some _ (position (λ c. eqb c 46) w) r e (λ k found inner.
    let dot = then_some (eqb (slice_index_or w (k + 1) 0) 46) _ r inner in
    let second : slice_index_or w (k + 1) 0 ≡ 46 = grind (arith, nat_tests, dot.0) in
    let cut = cut_text 46 w k found ∙ ap (λ t. take k w ++ 46 ∷ t) (second_cut w k second) in
    let bounds = bounds_spelled r (take k w) (drop (k + 2) w) dot.1 in
    (take k w, drop (k + 2) w, cut, bounds.0, bounds.1))

-- ---- texts

pub the_text : (xs ys : List ℕ) → bytes_eq xs ys ≡ true → xs ≡ ys
the_text xs ys e = grind (arith, nat_tests, bytes_eq-Decides xs ys)

-- ---- a flag

pub flag_spelled : (e : Bool) (w : List ℕ) → flag_of w ≡ Some e → w ≡ flag_text e
unfolding flag_of
flag_spelled e w f = grind (arith, nat_tests, bytes_eq-Decides w (codes "true"), bytes_eq-Decides w (codes "false"))

-- ---- ends

letter_spelled : (e : End) (c : ℕ) → end_of c ≡ Some e → c ≡ letter e
unfolding end_of
letter_spelled e c f = grind (arith, nat_tests)

letters_spelled : (es : List End) (w : List ℕ) → ends_from w ≡ Some es → w ≡ map letter es
unfolding ends_from
letters_spelled es [] e = ap (map letter) (same_Some [] es e)
letters_spelled es (c ∷ cs) e =
    option_and_then_some _ (end_of c) es e (λ x f g.
    option_and_then_some _ (ends_from cs) es g (λ xs h i.
    rw (letter_spelled x c f, letters_spelled xs cs h) (ap (map letter) (same_Some (x ∷ xs) es i))))

pub ends_spelled : (es : List End) (w : List ℕ) → ends_of w ≡ Some es
    → (w ≡ map letter es) × (0 < length es)
unfolding ends_of
ends_spelled es [] e = absurd (cc)
ends_spelled [] (c ∷ cs) e =
    let same = letters_spelled [] (c ∷ cs) e in
    absurd (cc)
ends_spelled (x ∷ xs) (c ∷ cs) e = (letters_spelled (x ∷ xs) (c ∷ cs) e, omega arith)

-- ---- JSON

pub json_spelled : (d : Data) (text : List ℕ) → json_of text ≡ Some d → Spells (json d) text
unfolding json_of
json_spelled d text e =
    let h = then_some (is_utf8 text) (read text) d e in
    (IsUtf8-from_is_utf8 text h.0, h.1)

-- ---- the words of a line

-- words with a space before each
abbrev pub spaced : List (List ℕ) → List ℕ
spaced [] = []
spaced (w ∷ ws) = 32 ∷ w ++ spaced ws

pub join_spaced : (w : List ℕ) (ws : List (List ℕ)) → join_with_byte 32 (w ∷ ws) ≡ w ++ spaced ws
join_spaced w [] = sym (append-nil w)
join_spaced w (v ∷ vs) = ap (λ t. w ++ 32 ∷ t) (join_spaced v vs)
