-- One flight's hold, from a blank row of periods in the air to the least hold.
-- Assumes nothing.
use mathlib.Core.Path.{◌≡◌, ap, subst, ◌∙◌}
use mathlib.Core.List.{List}
use Prim.Native.Nat.{ℕ, ◌+◌, ◌-◌, ◌*◌, ◌≤◌}
use native.Mathlib.Omega.{arith}
use lib.ListN.{length, replicate, length-replicate}
use Rattle.assignment.specs.Sum.{sum}
use Rattle.assignment.specs.Rows.{el}
use Rattle.assignment.proofs.Rows.{blank_at}
use Rattle.day.specs.Day.{period_row, last_of}
use Rattle.day.specs.declared.Flight.{Flight}
use Rattle.forecast_plan.specs.declared.Chosen.{Chosen}
use Rattle.forecast_plan.specs.Loop.{airborne, Weighed, weighed, Low, Chooses, Ready}
use Rattle.forecast_plan.proofs.Least.{is_least, least_same}
use Rattle.forecast_plan.proofs.Air.{weighed_low}

-- costs that agree choose the same
pub chooses_same : {n : ℕ} {cost other : ℕ → ℕ} {c : Chosen} → ((h : ℕ) → h ≤ n → cost h ≡ other h) → Chooses n cost c → Chooses n other c
chooses_same {n} {cost} {other} {c} same chosen = record {
  hold_is = chosen.hold_is ∙ least_same cost other n same;
  cost_is = chosen.cost_is ∙ same c.hold (rw chosen.hold_is (is_least cost n).within);
}

module _ {f : Flight} {factor p : ℕ} {weights rows waits : List ℕ} (r : Ready f factor p weights rows waits) where
  pub ready_none : {due : ℕ} → due ≡ f.due → Weighed p weights rows waits due (replicate period_row 0) 0
  unfolding sum
  ready_none e = rw e (record {
    parted = r.parted;
    odds = r.odds;
    from = r.due_from;
    to = r.due_to;
    sizes = length-replicate {A = ℕ} period_row 0;
    upto = omega arith;
    sums = λ q from to. blank_at period_row q;
  })

  module _ {due last : ℕ} {air : List ℕ} (e : due ≡ f.due) (l : last ≡ last_of p f) (w : Weighed p weights rows waits due air (length weights)) where
    pub ready_low : Low f factor last air
    unfolding last_of
    ready_low = record {
      rate_to = r.rate_to;
      factor_to = r.factor_to;
      window = omega (arith, l, r.reach, r.due_to);
      last_to = omega (arith, l, r.parted.periods);
      sizes = w.sizes;
      low = λ q from to. omega (arith, weighed_low w q (omega (arith, e)) (omega (arith, l)), r.parted.forecasts);
    }

    pub ready_chooses : {c : Chosen} → Chooses (last - f.due) (weighed f factor (el air)) c
        → Chooses (last_of p f - f.due) (weighed f factor (airborne p weights rows waits (length weights))) c
    unfolding weighed last_of
    ready_chooses {c} chosen =
        subst (λ n. Chooses (n - f.due) (weighed f factor (airborne p weights rows waits (length weights))) c) l
        (chooses_same (λ h to. ap (λ a. 1000 * f.rate * h + factor * f.rate * a) (w.sums (f.due + h) (omega (arith, e)) (omega (arith, l, r.reach, r.due_to)))) chosen)
