-- What stands in a text: the laws of reading speak of it.
-- Assumes nothing.
use Rattle.std.specs.Prelude.{ℕ, ◌+◌, ◌≤◌, ◌≡◌, List, [], ◌∷◌, ◌++◌, length, drop}
use Rattle.text.specs.Digits.{digits, ended, separated, line}

-- a text stands from `at` to `next`
pub record Stands (t s : List ℕ) (at next : ℕ) : Type 0 where
  pub text : drop at s ≡ t ++ drop next s
  pub place : next ≡ at + length t

-- a number of at most `most` digits stands there with its end byte
pub record FieldHere (most e : ℕ) (s : List ℕ) (at n next : ℕ) : Type 0 where
  pub short : length (digits n) ≤ most
  pub stands : Stands (ended e n) s at next

-- each of the numbers has at most `most` digits
abbrev pub AllShort : ℕ → List ℕ → Type 0
AllShort most [] = Unit {0}
AllShort most (n ∷ ns) = (length (digits n) ≤ most) × AllShort most ns

-- k numbers of at most `most` digits stand from `at` to `next`, each with a comma behind it
pub record FieldsHere (k most : ℕ) (s : List ℕ) (at : ℕ) (ns : List ℕ) (next : ℕ) : Type 0 where
  pub count : length ns ≡ k
  pub short : AllShort most ns
  pub stands : Stands (separated ns) s at next

-- a line of k numbers and a last one, all of at most `most` digits, stands from `at` to `next`
pub record LineHere (k most : ℕ) (s : List ℕ) (at : ℕ) (ns : List ℕ) (last next : ℕ) : Type 0 where
  pub count : length ns ≡ k
  pub short : AllShort most ns
  pub last_short : length (digits last) ≤ most
  pub stands : Stands (line ns last) s at next
