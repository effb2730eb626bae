-- Two plans of one day never have the same text unless they are the same row.
-- Assumes nothing.
use Prim.Native.Nat.{ℕ, zero, suc, ◌<◌, ◌+◌}
use native.Mathlib.Omega.{arith}
use mathlib.Core.Path.{◌≡◌, refl, ap, ap₂, sym, ◌∙◌}
use mathlib.Core.List.{List, [], ◌∷◌, ◌++◌, append_assoc, append-nil}
use lib.ListN.{length, get_or, drop}
use lib.Seq.{drop-append_seam}
use Rattle.text.specs.Digits.{ended, separated, line}
use Rattle.text.proofs.Reading.{same_number, end_no_digit, comma_no_digit}
use Rattle.day.specs.Day.{Day, N, column, flight_at, hold_cost, hold, land_of}
use Rattle.day.specs.Plan.{Legal}
use Rattle.plan_text.specs.PlanText.{plan_names, plan_line, plan_lines, plan_text}

module _ (f : List ℕ) where
  fields : (holds : List ℕ) (i : ℕ) (rest : List ℕ)
      → plan_line f holds i ++ rest
      ≡ ended 44 (column 0 f i) ++ (ended 44 (column 1 f i) ++ (ended 44 (land_of f holds i) ++ (ended 44 (hold holds i) ++ (ended 10 (hold_cost (flight_at f i) (hold holds i)) ++ rest))))
  unfolding plan_line line separated
  fields holds i rest = simp (append_assoc, append-nil)

  -- a line shows its hold, and what stands behind it
  pub same_line : (h g : List ℕ) (i : ℕ) (xs ys : List ℕ) → plan_line f h i ++ xs ≡ plan_line f g i ++ ys → (hold h i ≡ hold g i) × (xs ≡ ys)
  same_line h g i xs ys e =
      let a = same_number 44 (column 0 f i) (column 0 f i) _ _ comma_no_digit (sym (fields h i xs) ∙ (e ∙ fields g i ys)) in
      let b = same_number 44 (column 1 f i) (column 1 f i) _ _ comma_no_digit a.1 in
      let l = same_number 44 (land_of f h i) (land_of f g i) _ _ comma_no_digit b.1 in
      let p = same_number 44 (hold h i) (hold g i) _ _ comma_no_digit l.1 in
      let q = same_number 10 (hold_cost (flight_at f i) (hold h i)) (hold_cost (flight_at f i) (hold g i)) xs ys end_no_digit p.1 in
      (p.0, q.1)

  pub same_holds : (h g : List ℕ) (n i : ℕ) (xs ys : List ℕ) → plan_lines f h n i ++ xs ≡ plan_lines f g n i ++ ys
      → (k : ℕ) → k < n → hold h (i + k) ≡ hold g (i + k)
  unfolding plan_lines
  same_holds h g zero i xs ys e k l = absurd (omega arith)
  same_holds h g (suc n) i xs ys e k l =
      let p = same_line h g i (plan_lines f h n (suc i) ++ xs) (plan_lines f g n (suc i) ++ ys) (sym (append_assoc (plan_line f h i) (plan_lines f h n (suc i)) xs) ∙ (e ∙ append_assoc (plan_line f g i) (plan_lines f g n (suc i)) ys)) in
      at k l p.0 (same_holds h g n (suc i) xs ys p.1)
    where
      at : (k : ℕ) → k < suc n → hold h i ≡ hold g i → ((j : ℕ) → j < n → hold h (suc i + j) ≡ hold g (suc i + j)) → hold h (i + k) ≡ hold g (i + k)
      at zero l first rest = let z : i + 0 ≡ i = omega arith in rw z first
      at (suc k) l first rest = let z : i + suc k ≡ suc i + k = omega arith in rw z (rest k (omega arith))

same_row : (h g : List ℕ) → length h ≡ length g → ((k : ℕ) → k < length h → get_or h k 0 ≡ get_or g k 0) → h ≡ g
same_row [] [] e f = refl
same_row [] (y ∷ g) e f = absurd (omega arith)
same_row (x ∷ h) [] e f = absurd (omega arith)
same_row (x ∷ h) (y ∷ g) e f = ap₂ ◌∷◌ (f 0 (omega arith)) (same_row h g (omega arith) (λ k l. f (suc k) (omega arith)))

-- equal texts are texts of the same hold row: behind equal names lines the flights' lines are equal one by one, since a number ends where its
-- digits do, and each line shows its hold
pub one_text : (d : Day) (h g : List ℕ) → Legal d h → Legal d g → plan_text d.flights h ≡ plan_text d.flights g → h ≡ g
unfolding plan_text
one_text d h g p q e =
    let body = sym (drop-append_seam plan_names _) ∙ (ap (drop (length plan_names)) e ∙ drop-append_seam plan_names _) in
    let holds = same_holds d.flights h g (N d) 0 _ _ body in
    same_row h g (p.each ∙ sym q.each) (λ k l. front k (holds k (omega (arith, p.each))))
  where
    front : (k : ℕ) → hold h (0 + k) ≡ hold g (0 + k) → hold h k ≡ hold g k
    front k f = let z : 0 + k ≡ k = omega arith in rw z at f
