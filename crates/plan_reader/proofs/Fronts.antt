-- The text of a plan by its lines: its front with the lines of some flights, the line behind it, and that a front shows its holds.
-- Assumes nothing.
use Prim.Native.Nat.{ℕ, zero, suc, ◌≤◌, ◌<◌, ◌+◌, ◌-◌}
use native.Mathlib.Omega.{arith}
use mathlib.Core.Path.{◌≡◌, refl, sym, ap, ap₂, ◌∙◌}
use mathlib.Core.Bool.{true}
use mathlib.Core.List.{List, ◌++◌, append_assoc, append-nil}
use lib.ListN.{length, take, drop, take-append-drop}
use lib.Seq.{take-take, take_at, drop-append_seam}
use Rattle.text.specs.Digits.{ended, line_end}
use Rattle.text.specs.Fixed.{starts_with}
use Rattle.text.specs.Standing.{Stands}
use Rattle.text.proofs.Fixed.{starts_with_lem}
use Rattle.day.specs.Day.{flight_count, hold, total_of}
use Rattle.plan_text.specs.PlanText.{plan_names, total_name, plan_line, plan_lines, plan_text}
use Rattle.plan_text.proofs.OneText.{same_holds}
use Rattle.plan_text.proofs.Placing.{line_is, lines_part}
use Rattle.plan_reader.specs.Loop.{front_lines}

module _ (f : List ℕ) where
  -- ---- the lines of the first flights, and of those behind them

  lines_split : (h : List ℕ) (i m k : ℕ) → plan_lines f h (i + m) k ≡ plan_lines f h i k ++ plan_lines f h m (k + i)
  unfolding plan_lines
  lines_split h zero m k = let z : 0 + m ≡ m = omega arith in let y : k + 0 ≡ k = omega arith in rw (z, y)
  lines_split h (suc i) m k =
      let z : suc i + m ≡ suc (i + m) = omega arith in
      let y : k + suc i ≡ suc k + i = omega arith in
      rw (z, y, lines_split h i m (suc k), append_assoc)

  line_same : (h g : List ℕ) (i : ℕ) → hold h i ≡ hold g i → plan_line f h i ≡ plan_line f g i
  line_same h g i e = line_is f h i ∙ (rw e (sym (line_is f g i)))

  lines_same : (h g : List ℕ) (n k : ℕ) → ((j : ℕ) → j < n → hold h (k + j) ≡ hold g (k + j)) → plan_lines f h n k ≡ plan_lines f g n k
  unfolding plan_lines
  lines_same h g zero k e = refl
  lines_same h g (suc n) k e =
      ap₂ ◌++◌
      (line_same h g k (let z : k + 0 ≡ k = omega arith in rw z at (e 0 (omega arith))))
      (lines_same h g n (suc k) (λ j l. let z : k + suc j ≡ suc k + j = omega arith in rw z at (e (suc j) (omega arith))))

  -- rows that agree on the first i flights have the same front
  pub front_same : (h g : List ℕ) (i : ℕ) → ((j : ℕ) → j < i → hold h j ≡ hold g j) → front_lines f h i ≡ front_lines f g i
  front_same h g i e = ap (λ (l : List ℕ). plan_names ++ l) (lines_same h g i 0 (λ j l. let z : 0 + j ≡ j = omega arith in rw z (e j l)))

  pub front_next : (h : List ℕ) (i : ℕ) → front_lines f h (i + 1) ≡ front_lines f h i ++ plan_line f h i
  front_next h i = rw (lines_part f h i) (sym (append_assoc plan_names (plan_lines f h i 0) (plan_line f h i)))

  -- the front of fewer flights, and the lines behind it
  pub front_part : (h : List ℕ) (m i : ℕ) → m ≤ i → front_lines f h i ≡ front_lines f h m ++ plan_lines f h (i - m) m
  front_part h m i l =
      let z : m + (i - m) ≡ i = omega arith in
      let y : 0 + m ≡ m = omega arith in
      let e : plan_lines f h i 0 ≡ plan_lines f h m 0 ++ plan_lines f h (i - m) m = rw (z, y) at (lines_split h m (i - m) 0) in
      rw e (sym (append_assoc plan_names (plan_lines f h m 0) (plan_lines f h (i - m) m)))

  -- ---- the text of a plan

  -- the total's two lines
  abbrev pub total_lines : List ℕ → List ℕ
  total_lines h = total_name ++ ended line_end (total_of f h)

  -- what stands behind the front of i flights
  pub behind : List ℕ → ℕ → List ℕ
  behind h i = plan_lines f h (flight_count f - i) i ++ total_lines h

  text_parts : (h : List ℕ) (i : ℕ) → i ≤ flight_count f → plan_text f h ≡ front_lines f h i ++ behind h i
  unfolding plan_text behind
  text_parts h i l =
      sym (append_assoc plan_names (plan_lines f h (flight_count f) 0) (total_lines h))
      ∙ rw (front_part h i (flight_count f) l) (append_assoc (front_lines f h i) (plan_lines f h (flight_count f - i) i) (total_lines h))

  -- a flight's line stands behind the front of those before it
  pub text_line : (h : List ℕ) (i : ℕ) → i < flight_count f → plan_text f h ≡ front_lines f h i ++ (plan_line f h i ++ behind h (i + 1))
  text_line h i l = text_parts h (i + 1) (omega arith) ∙ rw (front_next h i) (append_assoc (front_lines f h i) (plan_line f h i) (behind h (i + 1)))

  -- the total's lines stand behind those of all flights
  pub text_end : (h : List ℕ) → plan_text f h ≡ front_lines f h (flight_count f) ++ total_lines h
  unfolding behind plan_lines
  text_end h = let z : flight_count f - flight_count f ≡ 0 = omega arith in rw z at (text_parts h (flight_count f) (omega arith))

  -- and the names line in front
  pub text_names : (h : List ℕ) → plan_text f h ≡ plan_names ++ behind h 0
  unfolding plan_lines
  text_names h = text_parts h 0 (omega arith) ∙ rw append-nil

  pub front_begins : (h : List ℕ) (i : ℕ) → i ≤ flight_count f → starts_with (plan_text f h) (front_lines f h i) ≡ true
  front_begins h i l = rw (text_parts h i l) (starts_with_lem (front_lines f h i) (behind h i))

  -- a text that has the front of h, and begins as the text of g does beyond it, shows that g has the same holds
  pub shown : (h g s : List ℕ) (i at next : ℕ) → i ≤ flight_count f → Stands (front_lines f h i) s 0 at → take next (plan_text f g) ≡ take next s → at ≤ next
      → (j : ℕ) → j < i → hold h j ≡ hold g j
  shown h g s i at next l a same upto j b =
      let p = at_start a in
      let c : take at (plan_text f g) ≡ front_lines f h i =
      sym (take-take at next (plan_text f g) upto) ∙ (ap (take at) same ∙ (take-take at next s upto ∙ p))
      in
      let e : front_lines f h i ++ drop at (plan_text f g) ≡ front_lines f g i ++ behind g i = rw (← c) (take-append-drop at (plan_text f g) ∙ text_parts g i l) in
      let q : plan_lines f h i 0 ++ drop at (plan_text f g) ≡ plan_lines f g i 0 ++ behind g i =
      sym (drop-append_seam plan_names _) ∙ (ap (drop (length plan_names)) (sym (append_assoc plan_names _ _) ∙ (e ∙ append_assoc plan_names _ _)) ∙ drop-append_seam plan_names _)
      in
      let r = same_holds f h g i 0 _ _ q j b in
      let z : 0 + j ≡ j = omega arith in rw z at r
    where
      at_start : Stands (front_lines f h i) s 0 at → take at s ≡ front_lines f h i
      at_start a = rw a.text (take_at (front_lines f h i) (drop at s) at (omega (arith, a.place)))
