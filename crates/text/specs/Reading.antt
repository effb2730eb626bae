-- Numbers read from bytes: "base ten, 1 to 7 digits, no leading zero except 0 itself". The most digits are an argument, since texts differ in it.
-- Assumes nothing.
use Rattle.std.specs.Prelude.{ℕ, zero, suc, ◌+◌, ◌-◌, ◌*◌, List, [], ◌∷◌, ◌++◌, Bool, cond, ◌&&◌, ◌||◌, ltb, eqb, length, get_or, drop, take_while, Option, Some, None}
use Rattle.std.specs.Char.{is_ascii_digit}
use Rattle.text.specs.declared.Number.{Number}
use Rattle.text.specs.Digits.{comma, line_end}

-- the digits at the front of a list
unfoldable pub run : List ℕ → List ℕ
run s = take_while is_ascii_digit s

-- the number that digits write after acc
unfoldable pub value : ℕ → List ℕ → ℕ
value acc [] = acc
value acc (d ∷ ds) = value (acc * 10 + (d - 48)) ds

-- a zero stands in front of another digit
unfoldable pub zero_first : List ℕ → Bool
zero_first r = eqb (get_or r 0 0) 48 && ltb 1 (length r)

-- a number n that was read, and the place behind it
abbrev pub some_number : ℕ → ℕ → Option Number
some_number n next = Some (record { n = n; next = next })

unfoldable pub number_of : ℕ → List ℕ → ℕ → Option Number
number_of most r at = cond (eqb (length r) 0 || ltb most (length r) || zero_first r) None (some_number (value 0 r) (at + length r))

-- the number of at most `most` digits that stands at a place, and the place behind it
unfoldable pub number : ℕ → List ℕ → ℕ → Option Number
number most s at = number_of most (run (drop at s)) at

-- a number that the byte e ends, and the place behind that byte
abbrev pub ended_by : ℕ → List ℕ → Option Number → Option Number
ended_by e s (Some p) = cond (eqb (get_or s p.next 0) e) (some_number p.n (p.next + 1)) None
ended_by e s None = None

unfoldable pub field : ℕ → ℕ → List ℕ → ℕ → Option Number
field most e s at = ended_by e s (number most s at)

-- numbers, each with a comma behind it: all of them and the place behind them, or those before the first field that has not the form
pub data Numbers : Type 0 where
  whole : List ℕ → ℕ → Numbers
  upto : List ℕ → Numbers

abbrev pub numbers_read : Numbers → List ℕ
numbers_read (whole ns next) = ns
numbers_read (upto ns) = ns

abbrev pub place_of : Numbers → Option ℕ
place_of (whole ns next) = Some next
place_of (upto ns) = None

-- with more numbers in front
abbrev pub with_front : List ℕ → Numbers → Numbers
with_front ms (whole ns next) = whole (ms ++ ns) next
with_front ms (upto ns) = upto (ms ++ ns)

abbrev pub then_numbers : Option Number → (ℕ → ℕ → Numbers) → Numbers
then_numbers (Some p) go = go p.n p.next
then_numbers None go = upto []

-- k numbers of at most `most` digits, each with a comma behind it, from a place on
unfoldable pub separated_at : ℕ → ℕ → List ℕ → ℕ → Numbers
separated_at zero most s at = whole [] at
separated_at (suc k) most s at = then_numbers (field most comma s at) (λ n next. with_front (n ∷ []) (separated_at k most s next))

-- the row that the numbers are put into: they are its front, and the rest is as it was
abbrev pub row_after : Numbers → List ℕ → List ℕ
row_after x row = numbers_read x ++ drop (length (numbers_read x)) row

-- a line of values: its numbers, its last number and the place behind the line
pub data Line : Type 0 where
  values : List ℕ → ℕ → ℕ → Line
  no_line : Line

abbrev pub last_of : Line → Option Number
last_of (values ns last next) = some_number last next
last_of no_line = None

abbrev pub with_last : List ℕ → Option Number → Line
with_last ns (Some p) = values ns p.n p.next
with_last ns None = no_line

abbrev pub then_last : Numbers → (ℕ → Option Number) → Line
then_last (whole ns next) last = with_last ns (last next)
then_last (upto ns) last = no_line

-- k numbers and a last one, all of at most `most` digits, that make up a line at a place
unfoldable pub line_at : ℕ → ℕ → List ℕ → ℕ → Line
line_at k most s at = then_last (separated_at k most s at) (field most line_end s)
