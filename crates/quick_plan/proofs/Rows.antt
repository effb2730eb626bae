-- The row that is made landing by landing is the quick plan.
-- Assumes nothing.
use mathlib.Core.Path.{◌≡◌, refl, sym, ap, ◌∙◌}
use mathlib.Core.Logic.{inl, inr, ◌≢◌}
use mathlib.Core.Bool.{Bool, true, false, not, cond, ◌&&◌}
use mathlib.Core.List.{List}
use Prim.Native.Nat.{ℕ, zero, suc, ◌+◌, ◌-◌, ◌≤◌, ◌<◌}
use native.Mathlib.Omega.{arith}
use lib.ListN.{length, get_or, length-set}
use lib.Seq.{get_or-set_same, get_or-set_other, ext_get_or}
use lib.Dec.{T, leb, eqb, leb→le}
use borrow.Author.Tests.{eq-eqb, ne_eqb}
use Rattle.assignment.specs.Sum.{gate}
use Rattle.assignment.specs.Rows.{row}
use Rattle.assignment.proofs.Rows.{row_at, row_length}
use Rattle.assignment.proofs.Tests.{and_t, eq?, is_false as off}
use Rattle.assignment.proofs.Sums.{sum_ext}
use Rattle.day.specs.Day.{Day, P, N, due, capacity, land, valid}
use Rattle.day.proofs.Valid.{valid_means}
use Rattle.quick_plan.specs.Quick.{ahead, going_before, highest, eligible, operates, lands, quick_by}
use Rattle.quick_plan.specs.Loop.{at_closing, waiting, top, put, land_all, row_to}
use Rattle.quick_plan.proofs.First.{without, Found, found, first_step, first_in, first_none}
use Rattle.quick_plan.proofs.Plan.{eligible_is, lands_by}

pub first_ext : (d : Day) (costs : ℕ → ℕ) (m : ℕ) (a b : ℕ → Bool) → ((k : ℕ) → k < N d → a k ≡ b k) → (i : ℕ) → i < N d → highest d costs m a i ≡ highest d costs m b i
unfolding highest going_before
first_ext d costs m a b h i l = rw (h i l, sum_ext (N d) (λ k. gate (a k && ahead d costs k i) 1) (λ k. gate (b k && ahead d costs k i) 1) (λ k o. ap (λ x. gate (x && ahead d costs k i) 1) (h k o)))

first_absent : (d : Day) (costs : ℕ → ℕ) (m : ℕ) (e : ℕ → Bool) (i : ℕ) → (T (e i) → ⊥) → highest d costs m e i ≡ false
first_absent d costs m e i h = off (highest d costs m e i) (λ t. h (first_in d costs m e i t))

-- ---- one landing

module _ (d : Day) (costs : ℕ → ℕ) (h : List ℕ) (j : ℕ) where
  pub top_found : Found d costs (N d) (waiting d h j) (N d) (top d costs j h)
  unfolding top
  top_found = found d costs (waiting d h j) (N d) (N d) (omega arith)

  pub waits_due : (i : ℕ) → T (waiting d h j i) → due d i ≤ j
  unfolding waiting
  waits_due i t = leb→le (due d i) j (and_t (leb (due d i) j) (eqb (land d h i) (P d + 1)) t).0

  put_waiting : (b : ℕ) → b < length h → due d b ≤ j → j ≤ P d → (k : ℕ) → waiting d (put d j h b) j k ≡ without (waiting d h j) b k
  unfolding waiting
  put_waiting b l ne p k = elim (eq? k b) [
    | inl e ↦ rw (e, get_or-set_same h b (j - due d b) 0 l, ne_eqb (due d b + (j - due d b)) (P d + 1) (omega arith), eq-eqb b b refl) (none (leb (due d b) j) _)
    | inr o ↦ rw (get_or-set_other h b k (j - due d b) 0 o, ne_eqb k b o) (all (leb (due d k) j) _)
  ]
    where
      none : (x y : Bool) → (x && false) ≡ (x && y && false)
      none true true = refl
      none true false = refl
      none false y = refl

      all : (x y : Bool) → (x && y) ≡ (x && y && true)
      all true true = refl
      all true false = refl
      all false y = refl

-- ---- the landings of a period

module _ (d : Day) (costs : ℕ → ℕ) (j : ℕ) (p : j ≤ P d) where
  pub land_zero : (h : List ℕ) → land_all d costs j 0 h ≡ h
  unfolding land_all
  land_zero h = refl

  pub land_none : (m : ℕ) (h : List ℕ) → top d costs j h ≡ N d → land_all d costs j m h ≡ h
  unfolding land_all
  land_none zero h e = refl
  land_none (suc m) h e = rw (eq-eqb (top d costs j h) (N d) e)

  pub land_one : (m : ℕ) (h : List ℕ) → top d costs j h ≢ N d → land_all d costs j (suc m) h ≡ land_all d costs j m (put d j h (top d costs j h))
  unfolding land_all
  land_one m h ne = rw (ne_eqb (top d costs j h) (N d) ne)

  pub land_all_length : (m : ℕ) (h : List ℕ) → length (land_all d costs j m h) ≡ length h
  unfolding land_all
  land_all_length zero h = refl
  land_all_length (suc m) h = elim (eq? (top d costs j h) (N d)) [
    | inl e ↦ ap length (land_none (suc m) h e)
    | inr ne ↦ ap length (land_one m h ne) ∙ land_all_length m (put d j h (top d costs j h)) ∙ length-set h (top d costs j h) (j - due d (top d costs j h))
  ]

  land_all_at : (m : ℕ) (h : List ℕ) → length h ≡ N d → (i : ℕ) → i < (N d)
      → get_or (land_all d costs j m h) i 0 ≡ cond (highest d costs m (waiting d h j) i) (j - due d i) (get_or h i 0)
  land_all_at zero h s i l = rw (first_none d costs (waiting d h j) i) (ap (λ r. get_or r i 0) (land_zero h))
  land_all_at (suc m) h s i l = by (top d costs j h) (top_found d costs h j) (land_none (suc m) h) (land_one m h)
      (λ b. land_all_at m (put d j h b) (length-set h b (j - due d b) ∙ s) i l)
    where
      by : (b : ℕ) → Found d costs (N d) (waiting d h j) (N d) b → (b ≡ N d → land_all d costs j (suc m) h ≡ h) → (b ≢ N d → land_all d costs j (suc m) h ≡ land_all d costs j m (put d j h b))
          → ((b : ℕ) → get_or (land_all d costs j m (put d j h b)) i 0 ≡ cond (highest d costs m (waiting d (put d j h b) j) i) (j - due d i) (get_or (put d j h b) i 0))
          → get_or (land_all d costs j (suc m) h) i 0 ≡ cond (highest d costs (suc m) (waiting d h j) i) (j - due d i) (get_or h i 0)
      by b (inl w) e₀ e₁ ih = rw (e₀ w.0, first_absent d costs (suc m) (waiting d h j) i (w.1 i l))
      by b (inr w) e₀ e₁ ih =
          ap (λ r. get_or r i 0) (e₁ (omega (arith, w.below))) ∙ ih b
          ∙ ap (λ x. cond x (j - due d i) (get_or (put d j h b) i 0)) (first_ext d costs m (waiting d (put d j h b) j) (without (waiting d h j) b)
          (λ k _. put_waiting d costs h j b (omega (arith, w.below)) (waits_due d costs h j b w.is_in) p k) i l)
          ∙ rw (first_step d costs (waiting d h j) b w m i l) (elim (eq? i b) [
            | inl q ↦ rw (q, eq-eqb b b refl, first_absent d costs m (without (waiting d h j) b) b gone, get_or-set_same h b (j - due d b) 0 (omega (arith, w.below)))
            | inr ne ↦ rw (ne_eqb i b ne, get_or-set_other h b i (j - due d b) 0 ne)
          ])
        where
          gone : T (waiting d h j b && not (eqb b b)) → ⊥
          gone t = rw (eq-eqb b b refl) at (and_t (waiting d h j b) (not (eqb b b)) t).1

-- ---- the periods

module _ (d : Day) (next : ℕ → ℕ → ℕ) (v : valid d ≡ true) where
  pub row_to_length : (j : ℕ) → j ≤ P d → length (row_to d next j) ≡ N d
  unfolding row_to
  row_to_length zero p = row_length (N d) (at_closing d)
  row_to_length (suc j) p = land_all_length d (next (suc j)) (suc j) p (capacity d (suc j)) (row_to d next j) ∙ row_to_length j (omega arith)

  standing : (j k : ℕ) → k < N d → get_or (row_to d next j) k 0 ≡ lands d next j k - due d k → land d (row_to d next j) k ≡ lands d next j k
  standing j k o e = elim (lands_by d next v j k o) [ inl w ↦ omega arith | inr w ↦ omega (arith, ((valid_means v).flight k o).due_to) ]

  waiting_is : (j : ℕ) → j ≤ P d → ((k : ℕ) → k < N d → get_or (row_to d next j) k 0 ≡ lands d next j k - due d k)
      → (k : ℕ) → k < N d → waiting d (row_to d next j) (suc j) k ≡ eligible d next (suc j) k
  unfolding waiting
  waiting_is j p ih k o = rw (standing j k o (ih k o)) (sym (eligible_is d next v j k o p))

  pub row_to_at : (j : ℕ) → j ≤ P d → (i : ℕ) → i < N d → get_or (row_to d next j) i 0 ≡ lands d next j i - due d i
  unfolding row_to lands operates
  row_to_at zero p i l = row_at (N d) (at_closing d) i 0 l
  row_to_at (suc j) p i l =
      land_all_at d (next (suc j)) (suc j) p (capacity d (suc j)) (row_to d next j) (row_to_length j (omega arith)) i l
      ∙ rw (first_ext d (next (suc j)) (capacity d (suc j)) (waiting d (row_to d next j) (suc j)) (eligible d next (suc j)) (waiting_is j (omega arith) (row_to_at j (omega arith))) i l, row_to_at j (omega arith) i l)
      (either (operates d next (suc j) i) (suc j) (lands d next j i))
    where
      either : (b : Bool) (x y : ℕ) → cond b (x - due d i) (y - due d i) ≡ cond b x y - due d i
      either true x y = refl
      either false x y = refl

  -- who waits in the row after the periods 1 .. j is who is eligible in period j + 1
  pub row_eligible : (j : ℕ) → j ≤ P d → (i : ℕ) → i < N d → waiting d (row_to d next j) (suc j) i ≡ eligible d next (suc j) i
  row_eligible j p = waiting_is j p (row_to_at j p)

  pub row_to_quick : row_to d next (P d) ≡ quick_by d next
  unfolding quick_by
  row_to_quick = ext_get_or 0 (row_to d next (P d)) (row (N d) (λ i. lands d next (P d) i - due d i))
      (row_to_length (P d) (omega arith) ∙ sym (row_length (N d) (λ i. lands d next (P d) i - due d i)))
      (λ i l. let o : i < (N d) = omega (arith, row_to_length (P d) (omega arith)) in
      row_to_at (P d) (omega arith) i o ∙ sym (row_at (N d) (λ i. lands d next (P d) i - due d i) i 0 o))
