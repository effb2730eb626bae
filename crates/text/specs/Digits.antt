-- Numbers as bytes: document 01, "Sheet", "Fields are parted by commas (byte 44); each line ends in byte 10."
-- Assumes nothing.
use Rattle.std.specs.Prelude.{ℕ, zero, suc, ◌+◌, ◌/◌, ◌%◌, cond, List, [], ◌∷◌, ◌++◌, ltb}

abbrev pub comma : ℕ
comma = 44

abbrev pub line_end : ℕ
line_end = 10

-- the decimal digits of n; the first argument bounds the recursion, and n itself is enough
unfoldable pub digits_in : ℕ → ℕ → List ℕ
digits_in zero n = (48 + n) ∷ []
digits_in (suc k) n = cond (ltb n 10) ((48 + n) ∷ []) (digits_in k (n / 10) ++ ((48 + n % 10) ∷ []))

-- "Numbers are base ten, .. no leading zero except 0 itself."
unfoldable pub digits : ℕ → List ℕ
digits n = digits_in n n

-- a number and the byte that ends its field
unfoldable pub ended : ℕ → ℕ → List ℕ
ended e n = digits n ++ (e ∷ [])

-- numbers, each with a comma behind it
unfoldable pub separated : List ℕ → List ℕ
separated [] = []
separated (n ∷ ns) = ended comma n ++ separated ns

-- a line of values: numbers and a last number
unfoldable pub line : List ℕ → ℕ → List ℕ
line numbers last = separated numbers ++ ended line_end last
