-- What the call comes to, a law for each of its ways, and that the plan's numbers fit where nothing is refused.
-- Assumes nothing.
use Rattle.std.proofs.Common.{Ok, Err}
use mathlib.Core.Path.{◌≡◌, refl, sym, ◌∙◌}
use mathlib.Core.Logic.{◌≢◌}
use mathlib.Core.Bool.{true, false, ◌&&◌}
use mathlib.Core.List.{List}
use Prim.Native.Nat.{ℕ, ◌*◌, ◌≤◌}
use native.Mathlib.Nat.{mul-le-mul}
use native.Mathlib.Omega.{arith}
use lib.ListN.{length}
use lib.Dec.{eqb}
use borrow.Author.Tests.{lt-ltb, eq-eqb, ne_eqb, eqb-true}
use Rattle.assignment.proofs.Tests.{and_true}
use Rattle.answers.specs.Answers.{outcome}
use Rattle.answers.specs.declared.Refusal.TheVariants.{BadDay, BadLength, BadForecasts, BadTerms}
use Rattle.day.specs.Day.{Day, day, unlimited, P, N, valid, inside, capacities_fit}
use Rattle.day.proofs.Valid.{valid_means, inside_means}
use Rattle.forecast_plan.specs.Forecast.{Forecasts, forecast_holds, expected_total}
use Rattle.forecast_plan.specs.Calls.{no_jumps, terms_fit, all_weights, forecasts_fit, rows_plan, forecast_plan}
use Rattle.forecast_plan.specs.Loop.{Fit}

-- ---- the tests

module _ (flights : List ℕ) (count factor : ℕ) where
  pub terms_to : terms_fit flights count factor ≡ true → (factor ≤ 10) × (count ≤ 8)
  unfolding terms_fit
  terms_to e =
      let both = and_true {a = no_jumps flights && inside 1 10 factor} {b = inside 1 8 count} e in
      ((inside_means 1 10 factor (and_true {a = no_jumps flights} {b = inside 1 10 factor} both.0).1).1, (inside_means 1 8 count both.1).1)

module _ (weights rows : List ℕ) where
  pub adds_up : forecasts_fit weights rows ≡ true → all_weights weights ≡ 1000
  unfolding forecasts_fit
  adds_up e = eqb-true (all_weights weights) 1000 (and_true {a = eqb (all_weights weights) 1000} {b = capacities_fit rows} e).0

-- ---- the ways of the call

module _ (d : Day) (f : Forecasts) (h : List ℕ) where
  pub bad_day : valid d ≡ false → forecast_plan d f h ≡ outcome (Err BadDay) h
  unfolding forecast_plan
  bad_day e = rw e

  -- a valid day's closing number is 256, or there is a line
  pub has_line_lem : valid d ≡ true → d.closing ≢ unlimited → forecast_plan d f h ≡ outcome (Err BadTerms) h
  unfolding forecast_plan
  has_line_lem v e = rw (v, lt-ltb d.closing unlimited (omega (arith, e, (valid_means v).closing_to)))

-- without a line
module _ (caps flights : List ℕ) {closing : ℕ} (f : Forecasts) (h : List ℕ) (v : valid (day caps flights closing) ≡ true) (no_line : closing ≡ unlimited) where
  pub open_day : valid (day caps flights unlimited) ≡ true
  open_day = rw no_line at v

  -- the count and the air factor as the program widens them
  module _ {n k : ℕ} (n-is : n ≡ f.count) (k-is : k ≡ f.air_factor) where
    pub bad_terms : terms_fit flights n k ≡ false → forecast_plan (day caps flights closing) f h ≡ outcome (Err BadTerms) h
    unfolding forecast_plan
    bad_terms e = rw (no_line, open_day, sym n-is, sym k-is, e)

    pub by_rows : terms_fit flights n k ≡ true → forecast_plan (day caps flights closing) f h
        ≡ rows_plan (day caps flights unlimited) (record { count = n; air_factor = k; weights = f.weights; rows = f.rows }) h
    unfolding forecast_plan
    by_rows e = rw (no_line, open_day, n-is, k-is) (rw (sym n-is, sym k-is, e))

module _ (d : Day) (f : Forecasts) (h : List ℕ) where
  module _ {n : ℕ} (size : n ≡ N d) where
    pub bad_holds : length h ≢ n → rows_plan d f h ≡ outcome (Err (BadLength n)) h
    unfolding rows_plan
    bad_holds o = rw (size, ne_eqb (length h) (N d) (λ e. o (e ∙ sym size)))

    module _ (each : length h ≡ n) where
      pub bad_weights : length f.weights ≢ f.count → rows_plan d f h ≡ outcome (Err (BadLength f.count)) h
      unfolding rows_plan
      bad_weights o = rw (eq-eqb (length h) (N d) (each ∙ size), ne_eqb (length f.weights) f.count o)

      module _ (w : length f.weights ≡ f.count) where
        pub bad_rows : length f.rows ≢ f.count * P d → rows_plan d f h ≡ outcome (Err (BadLength (f.count * P d))) h
        unfolding rows_plan
        bad_rows o =
            rw (eq-eqb (length h) (N d) (each ∙ size), eq-eqb (length f.weights) f.count w, ne_eqb (length f.rows) (f.count * P d) o)

        module _ (r : length f.rows ≡ f.count * P d) where
          pub bad_forecasts : forecasts_fit f.weights f.rows ≡ false → rows_plan d f h ≡ outcome (Err BadForecasts) h
          unfolding rows_plan
          bad_forecasts e =
              rw (eq-eqb (length h) (N d) (each ∙ size), eq-eqb (length f.weights) f.count w, eq-eqb (length f.rows) (f.count * P d) r, e)

          -- the program counts the weights
          pub planned : forecasts_fit f.weights f.rows ≡ true → {x : List ℕ} {t : ℕ}
              → x ≡ forecast_holds d (record { count = length f.weights; air_factor = f.air_factor; weights = f.weights; rows = f.rows })
              → t ≡ expected_total d (record { count = length f.weights; air_factor = f.air_factor; weights = f.weights; rows = f.rows }) (forecast_holds d (record { count = length f.weights; air_factor = f.air_factor; weights = f.weights; rows = f.rows }))
              → rows_plan d f h ≡ outcome (Ok t) x
          unfolding rows_plan
          planned e x-is t-is =
              rw (eq-eqb (length h) (N d) (each ∙ size), eq-eqb (length f.weights) f.count w, eq-eqb (length f.rows) (f.count * P d) r, e, t-is, x-is, w)

-- ---- what fits where nothing is refused

pub entries_fit : (d : Day) (count factor : ℕ) → valid d ≡ true → terms_fit d.flights count factor ≡ true → count * P d ≤ 768
entries_fit d count factor v terms = mul-le-mul (terms_to d.flights count factor terms).1 (valid_means v).periods_to

pub all_fits : (d : Day) (count factor : ℕ) (weights rows : List ℕ) → valid d ≡ true → terms_fit d.flights count factor ≡ true → length weights ≡ count
    → length rows ≡ count * P d → forecasts_fit weights rows ≡ true
    → Fit d (record { count = length weights; air_factor = factor; weights = weights; rows = rows })
all_fits d count factor weights rows v terms w r e = record {
  good = valid_means v;
  factor_to = (terms_to d.flights count factor terms).0;
  count_to = omega (arith, w, (terms_to d.flights count factor terms).1);
  weights_are = refl;
  rows_are = rw w r;
  add_up = adds_up weights rows e;
}
