-- What the loops of the readers and writers know where a turn begins. Only proofs cite it.
-- Assumes nothing.
use Rattle.std.specs.Prelude.{ℕ, zero, suc, ◌+◌, ◌-◌, ◌/◌, ◌%◌, ◌≤◌, ◌<◌, ◌≡◌, List, [], ◌∷◌, ◌++◌, length, take, drop}
use Rattle.text.specs.Digits.{digits}
use Rattle.text.specs.Reading.{with_front, separated_at}
use Rattle.text.specs.Writing.{Put}

-- the loop that reads separated numbers: i of them are read, the next one begins at `next`, and the rest of the row is as it was
pub record Walk (s : List ℕ) (at most : ℕ) (row₀ row : List ℕ) (i next : ℕ) : Type 0 where
  pub upto : i ≤ length row₀
  pub long : length row ≡ length row₀
  pub within : next ≤ length s
  pub rest : drop i row ≡ drop i row₀
  pub so_far : separated_at (length row₀) most s at ≡ with_front (take i row) (separated_at (length row₀ - i) most s next)

-- the last k digits of n, with zeros in front: what the writer's loop has written
unfoldable pub dec : ℕ → ℕ → List ℕ
dec zero n = []
dec (suc k) n = dec k (n / 10) ++ ((48 + n % 10) ∷ [])

-- the loop that writes a number from its last digit on: the digits written from i on and those of the number that is left are all digits
pub record Backwards (o : List ℕ) (at end n : ℕ) (out : List ℕ) (i left : ℕ) : Type 0 where
  pub whole : end ≡ at + length (digits n)
  pub room : end < length o
  pub long : length out ≡ length o
  pub from : at ≤ i
  pub upto : i ≤ end
  pub front : take at out ≡ take at o
  pub rest : digits n ++ drop end o ≡ dec (i - at) left ++ drop i out

-- a buffer that is filled text by text: `t` stands from `start` to `at`
pub record Grown (o : List ℕ) (start : ℕ) (t out : List ℕ) (at : ℕ) : Type 0 where
  pub long : length out ≡ length o
  pub put : Put o start t at out
