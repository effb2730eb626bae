-- What the forecast plan says, in document 02's words: each flight "takes the hold of least expected cost given those before it, smallest on
-- a tie, within its limit". No row but the plan's is so, and its total fits.
-- Assumes nothing.
use Rattle.std.proofs.Common.{Result, Ok}
use mathlib.Core.Path.{◌≡◌, refl, ap, sym, ◌∙◌}
use mathlib.Core.Logic.{◌⊎◌, inl, inr}
use mathlib.Core.Bool.{Bool, true, false}
use mathlib.Core.List.{List}
use Prim.Native.Nat.{ℕ, ◌+◌, ◌-◌, ◌*◌, ◌≤◌, ◌<◌}
use native.Mathlib.Omega.{arith}
use lib.ListN.{length}
use Rattle.assignment.proofs.Sums.{sum_most}
use Rattle.assignment.proofs.Tests.{eq?}
use Rattle.answers.specs.Answers.{code_of, outcome}
use Rattle.answers.specs.declared.Refusal.{Refusal}
use Rattle.day.specs.Day.{Day, P, N, due, Window, hold, land, valid, day, unlimited}
use Rattle.day.specs.Valid.{Valid}
use Rattle.forecast_plan.specs.Forecast.{Forecasts, expected, forecast_holds, expected_total}
use Rattle.forecast_plan.specs.Calls.{terms_fit, forecasts_fit, forecast_plan}
use Rattle.forecast_plan.specs.Loop.{Fit}
use Rattle.forecast_plan.proofs.Calls.{bad_day, has_line_lem, open_day, bad_terms, by_rows, bad_holds, bad_weights, bad_rows, bad_forecasts, planned, all_fits}
use Rattle.forecast_plan.proofs.Holds.{holds_length, each_least, only_row, hold_window, window_hold, expected_most}

-- a row of holds, each in its flight's window, none of the window less, and every smaller one more, "given those before it"
pub record EachLeast (d : Day) (f : Forecasts) (holds : List ℕ) : Type 0 where
  pub each : length holds ≡ N d
  pub window : (i : ℕ) → i < N d → Window d i (land d holds i)
  pub none_less : (i k : ℕ) → i < N d → Window d i k → expected d f holds i (hold holds i) ≤ expected d f holds i (k - due d i)
  pub smaller_more : (i h : ℕ) → i < N d → h < hold holds i → expected d f holds i (hold holds i) < expected d f holds i h

-- the forecast plan is such a row
pub plan_is_least : {d : Day} (f : Forecasts) → Valid d → EachLeast d f (forecast_holds d f)
plan_is_least {d} f v = record {
  each = holds_length d f (N d);
  window = λ i l. hold_window d i (v.flight i l) (each_least d f i l).within;
  none_less = λ i k l w. (each_least d f i l).none_less (k - due d i) (window_hold d i (v.flight i l) w);
  smaller_more = λ i h l b. (each_least d f i l).smaller_more h b;
}

-- and no other is
pub only_plan : {d : Day} (f : Forecasts) (holds : List ℕ) → Valid d → EachLeast d f holds → holds ≡ forecast_holds d f
only_plan {d} f holds v e = only_row d f holds e.each (λ i l. record {
  within = let same : land d holds i - due d i ≡ hold holds i = omega arith in rw same at (window_hold d i (v.flight i l) (e.window i l));
  none_less = λ g to. let same : due d i + g - due d i ≡ g = omega arith in rw same at (e.none_less i (due d i + g) l (hold_window d i (v.flight i l) to));
  smaller_more = λ g b. e.smaller_more i g l b;
})

-- ---- the total

-- at most 128 flights of 9,600,000,000
fit_total : {d : Day} {f : Forecasts} → Fit d f → expected_total d f (forecast_holds d f) ≤ 1228800000000
unfolding expected_total
fit_total {d} {f} fit = omega (arith, fit.good.flights_to, sum_most (N d) 9600000000 _ (λ i l. expected_most fit (forecast_holds d f) i l _ (each_least d f i l).within))

-- the number of a planned answer is 0, and that of no refusal is
numbered : {a : Result ℕ Refusal} {t : ℕ} → a ≡ Ok t → (code_of a).number ≡ 0
numbered e = ap (λ b. (code_of b).number) e

same_total : {t u : ℕ} → ◌≡◌ {A = Result ℕ Refusal} (Ok t) (Ok u) → t ≡ u
same_total e = cc

either : (b : Bool) → (b ≡ true) ⊎ (b ≡ false)
either true = inl refl
either false = inr refl

-- "The total is answered in thousandths", and no answered total is greater than this
pub total_most : (d : Day) (f : Forecasts) (holds : List ℕ) (t : ℕ) → (forecast_plan d f holds).answer ≡ Ok t → t ≤ 1228800000000
total_most d f holds t e = elim (either (valid d)) [
  | inr bad ↦ absurd (omega (arith, numbered (way (bad_day d f holds bad))))
  | inl good ↦ elim (eq? d.closing unlimited) [
    | inr line ↦ absurd (omega (arith, numbered (way (has_line_lem d f holds good line))))
    | inl none ↦ elim (either (terms_fit d.flights f.count f.air_factor)) [
      | inr bad ↦ absurd (omega (arith, numbered (way (bad_terms d.capacities d.flights f holds good none refl refl bad))))
      | inl terms ↦
          let rows_plan_lem = by_rows d.capacities d.flights f holds good none refl refl terms in
          elim (eq? (length holds) (N d)) [
            | inr bad ↦ absurd (omega (arith, numbered (way (rows_plan_lem ∙ bad_holds u f holds refl bad))))
            | inl each ↦ elim (eq? (length f.weights) f.count) [
              | inr bad ↦ absurd (omega (arith, numbered (way (rows_plan_lem ∙ bad_weights u f holds refl each bad))))
              | inl weights ↦ elim (eq? (length f.rows) (f.count * P d)) [
                | inr bad ↦ absurd (omega (arith, numbered (way (rows_plan_lem ∙ bad_rows u f holds refl each weights bad))))
                | inl rows ↦ elim (either (forecasts_fit f.weights f.rows)) [
                  | inr bad ↦ absurd (omega (arith, numbered (way (rows_plan_lem ∙ bad_forecasts u f holds refl each weights rows bad))))
                  | inl fits ↦ omega (
                    arith,
                    same_total (way (rows_plan_lem ∙ planned u f holds refl each weights rows fits refl refl)),
                    fit_total (all_fits u f.count f.air_factor f.weights f.rows (open_day d.capacities d.flights f holds good none) terms weights rows fits),
                  )
                ]
              ]
            ]
          ]
    ]
  ]
]
  where
    u : Day
    u = day d.capacities d.flights unlimited

    way : {a : Result ℕ Refusal} {x : List ℕ} → forecast_plan d f holds ≡ outcome a x → a ≡ Ok t
    way is = ap (λ o. o.answer) (sym is) ∙ e
