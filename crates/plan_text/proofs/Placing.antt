-- How a plan's lines follow one another in the buffer: one line more, and the whole.
-- Assumes nothing.
use Rattle.std.proofs.Common.{Ok}
use Prim.Native.Nat.{ℕ, zero, suc, ◌≤◌, ◌<◌, ◌+◌, ◌-◌, ◌*◌}
use native.Mathlib.Omega.{arith}
use native.Mathlib.Numerals.{add-one}
use mathlib.Core.Path.{◌≡◌, refl, ap, ◌∙◌}
use mathlib.Core.List.{List, [], ◌∷◌, ◌++◌, append_assoc, append-nil}
use lib.ListN.{length, length-append}
use Rattle.text.specs.Digits.{ended, line}
use Rattle.text.specs.Writing.{Put, text_answer, text_after}
use Rattle.text.proofs.Writing.{then}
use Rattle.day.specs.Day.{Day, N, most_flights, column, flight_at, flight_count, hold_cost, hold, land_of, total_of, total, width}
use Rattle.day.proofs.Valid.{valid_means}
use Rattle.legality.specs.Check.{plan_check}
use Rattle.std.specs.Prelude.{Ok}
use Rattle.legality.proofs.Found.{found_legal}
use Rattle.plan_text.specs.PlanText.{plan_names, total_name, plan_line, plan_lines, plan_text, plan_text_answer, plan_text_after}

pub length_plan_names : length plan_names ≡ 27
unfolding plan_names
length_plan_names = refl

pub length_total_name : length total_name ≡ 6
unfolding total_name
length_total_name = refl

module _ (f holds : List ℕ) where
  pub line_is : (i : ℕ) → plan_line f holds i ≡ line (column 0 f i ∷ column 1 f i ∷ land_of f holds i ∷ hold holds i ∷ []) (hold_cost (flight_at f i) (hold holds i))
  unfolding plan_line
  line_is i = refl

  lines_snoc : (n i : ℕ) → plan_lines f holds (suc n) i ≡ plan_lines f holds n i ++ plan_line f holds (i + n)
  unfolding plan_lines
  lines_snoc zero i = let z : i + 0 ≡ i = omega arith in rw (append-nil, z)
  lines_snoc (suc n) i = let z : suc i + n ≡ i + suc n = omega arith in ap (λ (l : List ℕ). plan_line f holds i ++ l) (lines_snoc n (suc i)) ∙ rw (z, append_assoc)

  pub lines_part : (i : ℕ) → plan_lines f holds (i + 1) 0 ≡ plan_lines f holds i 0 ++ plan_line f holds i
  lines_part i = let z : 0 + i ≡ i = omega arith in rw add-one (rw z at (lines_snoc i 0))

  lines_grow : (i k : ℕ) → length (plan_lines f holds i 0) ≤ length (plan_lines f holds (i + k) 0)
  lines_grow i zero = let z : i + 0 ≡ i = omega arith in rw z (omega arith)
  lines_grow i (suc k) =
      let z : i + suc k ≡ i + k + 1 = omega arith in
      rw (z, lines_part (i + k), length-append) (omega (arith, lines_grow i k))

  pub lines_room : (i n : ℕ) → i < n → length (plan_lines f holds i 0) + length (plan_line f holds i) ≤ length (plan_lines f holds n 0)
  lines_room i n h =
      let z : i + 1 + (n - (i + 1)) ≡ n = omega arith in
      let g = rw z at (lines_grow (i + 1) (n - (i + 1))) in
      let e = simp length-append at (ap length (lines_part i)) in
      omega arith

  pub no_lines : plan_lines f holds 0 0 ≡ []
  unfolding plan_lines
  no_lines = refl

  module _ {n t : ℕ} (each : n ≡ flight_count f) (sum : t ≡ total_of f holds) where
    pub length_plan : length (plan_text f holds) ≡ length (plan_lines f holds n 0) + length (ended 10 t) + 33
    unfolding plan_text
    length_plan = rw (each, sum) (simp length-append (omega (arith, length_plan_names, length_total_name)))

    pub plan_put : {o o1 o2 o3 o4 : List ℕ} {a1 a2 a3 a4 : ℕ} → length (plan_text f holds) ≤ length o → Put o 0 plan_names a1 o1
        → Put o1 a1 (plan_lines f holds n 0) a2 o2 → Put o2 a2 total_name a3 o3 → Put o3 a3 (ended 10 t) a4 o4 → Put o 0 (plan_text f holds) a4 o4
    unfolding plan_text
    plan_put {o} h d1 e2 e3 e4 =
        let g : length plan_names + length (plan_lines f holds n 0) + length total_name + length (ended 10 t) ≤ length o =
        omega (arith, length_plan, length_plan_names, length_total_name)
        in
        let d2 = then (omega arith) d1 e2 in
        let d3 = then (simp length-append (omega arith)) d2 e3 in
        let d4 = then (simp length-append (omega arith)) d3 e4 in
        rw (← each, ← sum) (simp append_assoc at d4)

-- the outcomes of the call
module _ (d : Day) (holds : List ℕ) where
  module _ (buffer : List ℕ) (place : ℕ) where
    pub on_legal : {t : ℕ} → plan_check d holds ≡ Ok t
        → (text_answer buffer place (plan_text d.flights holds) ≡ plan_text_answer d holds buffer place)
        × (text_after buffer place (plan_text d.flights holds) ≡ plan_text_after d holds buffer place)
    unfolding plan_text_answer plan_text_after
    on_legal e = rw e (refl, refl)

  pub legal_rows : {t : ℕ} → plan_check d holds ≡ Ok t
      → (length holds ≡ N d) × (t ≡ total d holds) × (length holds * width ≤ length d.flights) × (length holds ≤ most_flights)
  legal_rows e =
      let f = found_legal d holds e in
      let v = valid_means f.good in
      let n = f.legal.each in
      (n, f.total_is, omega (arith, n, v.whole), omega (arith, n, v.flights_to))
