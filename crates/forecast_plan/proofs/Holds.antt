-- The row of holds: each is the least one given those before it, no other row is so, and how great a cost can be.
-- Assumes nothing.
use mathlib.Core.Path.{◌≡◌, refl, sym, ◌∙◌}
use mathlib.Core.Logic.{inl, inr}
use mathlib.Core.List.{List, []}
use Prim.Native.Nat.{ℕ, zero, suc, ◌+◌, ◌-◌, ◌*◌, ◌≤◌, ◌<◌}
use native.Mathlib.Nat.{mul-le-mul}
use native.Mathlib.Omega.{arith}
use lib.ListN.{length, length-append, get_or-append}
use lib.Seq.{get_or_at, ext_get_or}
use Rattle.assignment.proofs.Tests.{eq?}
use Rattle.day.specs.Day.{Day, P, N, due, rate, last_of, last, Window, hold}
use Rattle.day.specs.Valid.{InRange}
use Rattle.day.proofs.Costs.{due_latest}
use Rattle.forecast_plan.specs.Forecast.{Forecasts, weight, forecast, held, waiting, lands, cost_if, expected, least_hold, longest, holds_to, forecast_holds}
use Rattle.forecast_plan.specs.Loop.{Fit}
use Rattle.forecast_plan.proofs.Parts.{part_length}
use Rattle.forecast_plan.proofs.Landing.{room_to}
use Rattle.forecast_plan.proofs.Least.{IsLeast, is_least, least_only, least_same}
use Rattle.forecast_plan.proofs.Expected.{weigh_most, expected_same}

module _ (d : Day) (f : Forecasts) where
  pub holds_length : (n : ℕ) → length (holds_to d f n) ≡ n
  unfolding holds_to
  holds_length zero = refl
  holds_length (suc n) = simp length-append (omega (arith, holds_length n))

  -- the flights below change no hold
  holds_stay : (n i j : ℕ) → j < i → i ≤ n → hold (holds_to d f n) j ≡ hold (holds_to d f i) j
  unfolding holds_to
  holds_stay zero i j b l = absurd (omega arith)
  holds_stay (suc n) i j b l = elim (eq? i (suc n)) [
    | inl e ↦ rw e
    | inr o ↦ get_or-append (holds_to d f n) _ 0 j (omega (arith, holds_length n)) ∙ holds_stay n i j b (omega arith)
  ]

  -- a flight's hold is the least one given those before it
  pub each_hold : (n i : ℕ) → i < n → hold (holds_to d f n) i ≡ least_hold (longest d i) (expected d f (holds_to d f n) i)
  unfolding holds_to
  each_hold n i l =
      holds_stay n (suc i) i (omega arith) (omega arith)
      ∙ get_or_at (holds_to d f i) _ [] 0 i (holds_length i)
      ∙ least_same _ _ (longest d i) (λ h to. expected_same d f (holds_to d f i) (holds_to d f n) i h (λ j b. sym (holds_stay n i j b (omega arith))))

  pub each_least : (i : ℕ) → i < N d → IsLeast (expected d f (forecast_holds d f) i) (longest d i) (hold (forecast_holds d f) i)
  each_least i l = rw (each_hold (N d) i l) (is_least _ (longest d i))

  -- rows of least holds agree flight by flight
  agree : (holds : List ℕ) → ((i : ℕ) → i < N d → IsLeast (expected d f holds i) (longest d i) (hold holds i))
      → (i : ℕ) → i ≤ N d → (j : ℕ) → j < i → hold holds j ≡ hold (forecast_holds d f) j
  agree holds least zero l j b = absurd (omega arith)
  agree holds least (suc i) l j b = elim (eq? j i) [
    | inl e ↦ rw e (go (agree holds least i (omega arith)))
    | inr o ↦ agree holds least i (omega arith) j (omega arith)
  ]
    where
      go : ((o : ℕ) → o < i → hold holds o ≡ hold (forecast_holds d f) o) → hold holds i ≡ hold (forecast_holds d f) i
      go same = least_only (least i l) (record {
        within = r.within;
        none_less = λ g to. rw (at (hold (forecast_holds d f) i), at g) (r.none_less g to);
        smaller_more = λ g to. rw (at (hold (forecast_holds d f) i), at g) (r.smaller_more g to);
      })
        where
          r : IsLeast (expected d f (forecast_holds d f) i) (longest d i) (hold (forecast_holds d f) i)
          r = each_least i l

          at : (h : ℕ) → expected d f holds i h ≡ expected d f (forecast_holds d f) i h
          at h = expected_same d f holds (forecast_holds d f) i h same

  pub only_row : (holds : List ℕ) → length holds ≡ N d
      → ((i : ℕ) → i < N d → IsLeast (expected d f holds i) (longest d i) (hold holds i)) → holds ≡ forecast_holds d f
  only_row holds each least =
      ext_get_or 0 holds (forecast_holds d f) (each ∙ sym (holds_length (N d))) (λ j b. agree holds least (N d) (omega arith) j (omega (arith, each)))

-- ---- windows and bounds

-- the holds to the longest one are those of the window
module _ (d : Day) (i : ℕ) (r : InRange (P d) d.flights i) where
  due_last : due d i ≤ last d i
  unfolding last_of
  due_last = omega (arith, due_latest d i r.due_to, r.due_to)

  pub hold_window : {h : ℕ} → h ≤ longest d i → Window d i (due d i + h)
  unfolding last_of
  hold_window l = record {
    from = omega arith;
    closing = omega (arith, due_last);
    limited = omega (arith, due_last);
  }

  pub window_hold : {k : ℕ} → Window d i k → k - due d i ≤ longest d i
  unfolding last_of
  window_hold w = omega (arith, w.closing, w.limited, w.from)

-- a cost is at most 96 periods in the air at the highest rate and air factor
module _ {d : Day} {f : Forecasts} (fit : Fit d f) (holds : List ℕ) (i : ℕ) (l : i < N d) where
  lands_by : (q s : ℕ) → q ≤ P d + 1 → s < f.count → lands (held d holds i) (forecast d f s) q ≤ 97
  lands_by q s to b =
      let e = part_length (P d) f.count f.rows fit.rows_are s b in
      omega (arith, e, room_to (waiting (held d holds i) (forecast d f s)) (forecast d f s) q (omega (arith, e)), fit.good.periods_to)

  cost_most : (h k : ℕ) → h ≤ 96 → k ≤ 97 → cost_if d f.air_factor i h k ≤ 9600000
  cost_most h k short by =
      let r = fit.good.flight i l in
      let both = mul-le-mul fit.factor_to r.rate_to in
      omega (arith, r.due_from, mul-le-mul {n₁ = rate d i} {m₁ = h} {n₂ = 100000} {m₂ = h} (omega (arith, r.rate_to)) (omega arith), mul-le-mul {n₁ = f.air_factor * rate d i} {m₁ = k - (due d i + h)} {n₂ = 100000} {m₂ = k - (due d i + h)} (omega (arith, both)) (omega arith))

  pub expected_most : (h : ℕ) → h ≤ longest d i → expected d f holds i h ≤ 9600000000
  unfolding expected
  expected_most h to =
      let w = hold_window d i (fit.good.flight i l) to in
      omega (
        arith,
        fit.add_up,
        weigh_most f.count (weight f) _ 9600000 (λ s b.
            cost_most h _ (omega (arith, w.closing, fit.good.periods_to, (fit.good.flight i l).due_from)) (lands_by (due d i + h) s w.closing b)),
      )
