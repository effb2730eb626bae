-- Fixed byte strings: "The names lines are compared byte for byte."
-- Assumes nothing.
use Rattle.std.specs.Prelude.{ℕ, List, [], ◌∷◌, ◌++◌, Bool, nat_eq}
use Rattle.std.specs.List as lists
use Rattle.text.specs.Digits.{line}

-- the bytes begin with the given ones
unfoldable pub starts_with : List ℕ → List ℕ → Bool
starts_with bytes front = lists.starts_with nat_eq bytes front

-- "refusal,first,second" and the end byte
unfoldable pub refusal_names : List ℕ
refusal_names = 114 ∷ 101 ∷ 102 ∷ 117 ∷ 115 ∷ 97 ∷ 108 ∷ 44 ∷ 102 ∷ 105 ∷ 114 ∷ 115 ∷ 116 ∷ 44 ∷ 115 ∷ 101 ∷ 99 ∷ 111 ∷ 110 ∷ 100 ∷ 10 ∷ []

-- "A refusal is written as `refusal,first,second` and a line of those three numbers"
unfoldable pub refusal_text : ℕ → ℕ → ℕ → List ℕ
refusal_text number first second = refusal_names ++ line (number ∷ first ∷ []) second
