-- The text of a legal plan of a valid day is short: a flight's line has at most 22 bytes, since its numbers are within the table's ranges.
-- So a call with a buffer of 4,096 bytes always writes it.
-- Assumes nothing.
use Prim.Native.Nat.{ℕ, zero, suc, ◌≤◌, ◌<◌, ◌+◌, ◌*◌, ◌^◌}
use native.Mathlib.Omega.{arith}
use mathlib.Core.Path.{◌≡◌, refl}
use mathlib.Core.Bool.{true}
use mathlib.Core.List.{List}
use lib.ListN.{length, length-append}
use lib.Dec.{lit<}
use Rattle.text.specs.Digits.{ended, separated, line}
use Rattle.text.specs.Writing.{text_answer, text_after}
use Rattle.text.proofs.Digits.{length_ended, count_le}
use Rattle.day.specs.Day.{Day, N, number, due, cost, hold, land, total, valid}
use Rattle.day.specs.Plan.{Legal}
use Rattle.day.proofs.Valid.{valid_means}
use Rattle.day.proofs.Instance.{hold_le, cost_le, total_le}
use Rattle.legality.proofs.Found.{legal_found}
use Rattle.plan_text.specs.PlanText.{plan_line, plan_lines, plan_text, plan_text_answer, plan_text_after}
use Rattle.plan_text.proofs.Placing.{length_plan, on_legal}

-- a number of at most k digits and its end byte
ended_most : (e n k : ℕ) → 0 < k → n < 10 ^ k → length (ended e n) ≤ k + 1
ended_most e n k p h = omega (arith, length_ended e n, count_le n k p h)

line_length : (d : Day) (h : List ℕ) (i : ℕ)
    → length (plan_line d.flights h i)
    ≡ length (ended 44 (number d i)) + length (ended 44 (due d i)) + length (ended 44 (land d h i)) + length (ended 44 (hold h i))
    + length (ended 10 (cost d i (hold h i)))
unfolding plan_line line separated
line_length d h i = simp length-append (omega arith)

module _ (d : Day) (good : valid d ≡ true) (h : List ℕ) (legal : Legal d h) where
  line_short : (i : ℕ) → i < N d → length (plan_line d.flights h i) ≤ 22
  line_short i l =
      let v = valid_means good in
      let w = legal.window i l in
      let a = ended_most 44 (number d i) 4 (lit< tt) (omega (arith, (v.flight i l).number_to)) in
      let b = ended_most 44 (due d i) 2 (lit< tt) (omega (arith, (v.flight i l).due_to, v.periods_to)) in
      let c = ended_most 44 (land d h i) 2 (lit< tt) (omega (arith, w.closing, v.periods_to)) in
      let e = ended_most 44 (hold h i) 2 (lit< tt) (omega (arith, hold_le v legal l)) in
      let f = ended_most 10 (cost d i (hold h i)) 7 (lit< tt) (omega (arith, cost_le v i (hold h i) l (hold_le v legal l))) in
      omega (arith, line_length d h i)

  lines_short : (n i : ℕ) → i + n ≤ N d → length (plan_lines d.flights h n i) ≤ 22 * n
  unfolding plan_lines
  lines_short zero i l = omega arith
  lines_short (suc n) i l = simp length-append (omega (arith, line_short i (omega arith), lines_short n (suc i) (omega arith)))

  -- 128 lines, the two names lines and the total
  pub plan_short : length (plan_text d.flights h) ≤ 2859
  plan_short =
      let v = valid_means good in
      let t = ended_most 10 (total d h) 9 (lit< tt) (omega (arith, total_le v legal)) in
      omega (arith, length_plan d.flights h {n = N d} {t = total d h} refl refl, lines_short (N d) 0 (omega arith), v.flights_to)

  -- the call writes the text of a legal plan
  pub plan_written : (buffer : List ℕ) (place : ℕ)
      → (text_answer buffer place (plan_text d.flights h) ≡ plan_text_answer d h buffer place)
      × (text_after buffer place (plan_text d.flights h) ≡ plan_text_after d h buffer place)
  plan_written buffer place = on_legal d h buffer place (legal_found d h good legal)
