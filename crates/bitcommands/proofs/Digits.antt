-- Digits written from the last to the first.
use Rattle.std.proofs.Common.{◌≡◌, ℕ, ◌+◌, ◌-◌, ◌/◌, ◌%◌, ◌^◌, ◌<◌, ◌≤◌, List, ◌++◌, length, drop, set}
use Rattle.std.proofs.Common.{decimal, ap, arith, append_assoc, length-append, length-drop, length-set}
use Rattle.std.proofs.lemmas.List.{drop-set}
use Rattle.std.proofs.lemmas.Fmt.{decimal_digit, decimal_step, decimal_nonempty, length-decimal-le}

-- the digits of n are those of the rest and those written so far, and there is room for the two last of the rest
pub record IsWritten (n rest start : ℕ) (digits : List ℕ) : Type 0 where
  pub long : length digits ≡ 20
  pub inside : start ≤ 20
  pub written : decimal n ≡ decimal rest ++ drop start digits
  pub some : 1 ≤ start
  pub two : 10 ≤ rest → 2 ≤ start

module _ (n rest start : ℕ) (digits : List ℕ) (fits : n < 2 ^ 64) (small : rest < 2 ^ 64) where
  has_room : length digits ≡ 20 → start ≤ 20 → decimal n ≡ decimal rest ++ drop start digits
      → IsWritten n rest start digits
  has_room long inside written =
      let most : length (decimal rest) ≤ start =
      omega (
        arith,
        ap length written,
        length-append (decimal rest) (drop start digits),
        length-drop start digits,
        length-decimal-le 20 n (omega arith) (omega arith) fits,
      ) in
      record {
        long = long;
        inside = inside;
        written = written;
        some = omega (arith, decimal_nonempty rest small);
        two = λ many.
            omega (
              arith,
              ap length (decimal_step rest many small),
              length-append {A = ℕ},
              decimal_nonempty (rest / 10) (omega arith),
            );
      }

module _ (n rest start : ℕ) (digits : List ℕ) (fits : n < 2 ^ 64) (small : rest < 2 ^ 64)
    (is : IsWritten n rest start digits) where
  -- the last digit of the rest is written, and the others are the new rest
  pub one_more : 10 ≤ rest → IsWritten n (rest / 10) (start - 1) (set digits (start - 1) (48 + rest % 10))
  one_more many =
      has_room n (rest / 10) (start - 1) _ fits (omega arith)
      (omega (arith, is.long, length-set digits (start - 1) (48 + rest % 10))) (omega (arith, is.inside))
      (grind (
        arith,
        is.written,
        is.some,
        is.inside,
        is.long,
        decimal_step rest many small,
        drop-set digits (start - 1),
        append_assoc {A = ℕ},
      ))

  -- a rest of one digit is written, and then all are
  pub all_written : rest < 10 → drop (start - 1) (set digits (start - 1) (48 + rest)) ≡ decimal n
  all_written one =
      grind (arith, is.written, is.some, is.inside, is.long, decimal_digit rest one, drop-set digits (start - 1))
