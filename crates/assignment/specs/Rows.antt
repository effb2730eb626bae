-- Rows of entries: read at an index, and made entry by entry.
-- Assumes nothing.
use Rattle.std.specs.Prelude.{List, [], ◌∷◌, ◌++◌, ℕ, zero, suc, get_or}

-- the entry at an index; 0 past the end
abbrev pub el : List ℕ → ℕ → ℕ
el l k = get_or l k 0

-- g 0, .. , g (n - 1) as a row
unfoldable pub row {ℓ} : {A : Type ℓ} → ℕ → (ℕ → A) → List A
row zero g = []
row (suc n) g = row n g ++ (g n ∷ [])
