-- What the search for a short stretch answers. Only inner contracts cite it.
-- Assumes nothing.
use Rattle.std.specs.Prelude.{ℕ, Option, Some, None}
use Rattle.day.specs.Day.{Day}
use Rattle.day.specs.Plan.{Short, Picked}
use Rattle.stretch.specs.declared.Stretch.{Stretch}

-- "the one with the smallest last period, and among those the largest first period"; or no stretch is short
abbrev pub Searched : Day → Option Stretch → Type 0
Searched d (Some s) = Picked d s.first s.last
Searched d None = (first last : ℕ) → Short d first last → ⊥
