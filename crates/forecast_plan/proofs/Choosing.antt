-- A flight's hold as the program finds it: the least hold of those looked at.
-- Assumes nothing.
use mathlib.Core.Path.{◌≡◌, refl, ap, sym, ◌∙◌}
use Prim.Native.Nat.{ℕ, ◌+◌, ◌-◌, ◌≤◌, ◌<◌}
use native.Mathlib.Omega.{arith}
use Rattle.forecast_plan.specs.declared.Chosen.{Chosen}
use Rattle.forecast_plan.specs.Forecast.{least_hold}
use Rattle.forecast_plan.specs.Loop.{Chooses}
use Rattle.forecast_plan.proofs.Least.{least_next, least_stays}

-- ---- the least so far

pub chooses_none : {cost : ℕ → ℕ} {v : ℕ} → v ≡ cost 0 → Chooses 0 cost (record { hold = 0; cost = v })
unfolding least_hold
chooses_none e = record { hold_is = refl; cost_is = e }

-- the next hold, if it costs less; else the one so far
module _ {cost : ℕ → ℕ} {h v : ℕ} {best : Chosen} (c : Chooses (h - 1) cost best) (some : 1 ≤ h) (e : v ≡ cost h) where
  here : h - 1 + 1 ≡ h
  here = omega arith

  next : h + 1 - 1 ≡ h
  next = omega arith

  before : best.cost ≡ cost (least_hold (h - 1) cost)
  before = c.cost_is ∙ ap cost c.hold_is

  pub chooses_longer : v < best.cost → Chooses (h + 1 - 1) cost (record { hold = h; cost = v })
  chooses_longer less =
      let is = rw here at (least_next cost (h - 1)) in
      rw next (record { hold_is = sym (is (omega (arith, e, before))); cost_is = e })

  pub chooses_stays : best.cost ≤ v → Chooses (h + 1 - 1) cost best
  chooses_stays least =
      let is = rw here at (least_stays cost (h - 1)) in
      rw next (record { hold_is = c.hold_is ∙ sym (is (omega (arith, e, before))); cost_is = c.cost_is })
