-- A flight number used above: one flight more, and the loop that looks for it.
-- Assumes nothing.
use Prim.Native.Nat.{ℕ, zero, suc, ◌<◌, ◌+◌, ◌*◌}
use native.Mathlib.Omega.{arith}
use native.Mathlib.Numerals.{add-one}
use mathlib.Core.Logic.{inl, inr}
use Rattle.text.proofs.Digits.{split}
use mathlib.Core.Path.{◌≡◌, refl, ◌∙◌}
use mathlib.Core.List.{List, [], ◌∷◌, ◌++◌}
use mathlib.Core.Bool.{Bool, true, false, ◌||◌}
use lib.ListN.{get_or}
use lib.Dec.{eqb}
use borrow.Author.Tests.{eq-eqb, ne_eqb}
use Rattle.day.specs.declared.Flight.{Flight}
use Rattle.day.specs.Day.{width, flight_at}
use Rattle.day.specs.Flights.{first_flights}
use Rattle.sheet.specs.Lines.{used}

used_snoc : (x : ℕ) (fs : List Flight) (f : Flight) → used x (fs ++ (f ∷ [])) ≡ used x fs || eqb f.number x
unfolding used
used_snoc x [] f = go (eqb f.number x)
  where
    go : (b : Bool) → b || false ≡ b
    go true = refl
    go false = refl
used_snoc x (g ∷ fs) f = rw (used_snoc x fs f) (go (eqb g.number x))
  where
    go : (b : Bool) → b || (used x fs || eqb f.number x) ≡ b || used x fs || eqb f.number x
    go true = refl
    go false = refl

pub used_step : (x : ℕ) (row : List ℕ) (j : ℕ) → used x (first_flights (suc j) row) ≡ used x (first_flights j row) || eqb (get_or row (j * width + 0) 0) x
unfolding first_flights flight_at
used_step x row j = used_snoc x (first_flights j row) (flight_at row j)

or_true : (b : Bool) → b || true ≡ true
or_true true = refl
or_true false = refl

module _ (x : ℕ) (row : List ℕ) where
  pub used_here : (j n : ℕ) → j < n → get_or row (j * width + 0) 0 ≡ x → used x (first_flights n row) ≡ true
  used_here j zero h e = absurd (omega arith)
  used_here j (suc m) h e = elim (split j m) [
    | inl l ↦ used_step x row m ∙ rw (used_here j m l e)
    | inr l ↦ let z : m ≡ j = omega arith in used_step x row m ∙ rw (z, eq-eqb _ _ e) (or_true (used x (first_flights j row)))
  ]

  pub used_start : used x (first_flights 0 row) ≡ false
  unfolding first_flights used
  used_start = refl

  pub used_next : (j : ℕ) → used x (first_flights j row) ≡ false → (get_or row (j * width + 0) 0 ≡ x → ⊥) → used x (first_flights (j + 1) row) ≡ false
  used_next j h e = rw (add-one) (used_step x row j ∙ rw (h, ne_eqb _ _ e))
