-- What the quick plan's definition says: of a set the capacity's number lands, or all if fewer; and who lands goes before who is left.
-- Assumes nothing.
use mathlib.Core.Path.{◌≡◌, refl, ap, ◌∙◌}
use mathlib.Core.Logic.{inl, inr}
use mathlib.Core.Bool.{Bool, true, false, not, ◌&&◌}
use Prim.Native.Nat.{ℕ, ◌+◌, ◌≤◌, min}
use native.Mathlib.Omega.{arith}
use lib.Dec.{T, ltb, ltb→lt, nltb→le, T_not, not_T}
use Rattle.assignment.specs.Sum.{gate, sum}
use Rattle.assignment.proofs.Tests.{and_t, T_and, gate_le, gate_on, eq?}
use Rattle.assignment.proofs.Sums.{sum_ext, sum_add, sum_le}
use Rattle.day.specs.Day.{Day, N}
use Rattle.quick_plan.specs.Quick.{ahead, going_before, highest}
use Rattle.quick_plan.proofs.First.{rest, crowd, landed, left_over_lem, first_in, ahead_trans, ahead_total}

module _ (d : Day) (costs : ℕ → ℕ) (m : ℕ) (e : ℕ → Bool) where
  all_crowd : (a : ℕ → Bool) → crowd d (λ i. true) a ≡ sum (N d) (λ i. gate (a i) 1)
  unfolding crowd
  all_crowd a = refl

  parted : sum (N d) (λ i. gate (e i) 1) ≡ sum (N d) (λ i. gate (highest d costs m e i) 1) + sum (N d) (λ i. gate (rest d costs m e i) 1)
  parted = sum_ext (N d) (λ i. gate (e i) 1) (λ i. gate (highest d costs m e i) 1 + gate (rest d costs m e i) 1) (λ i l. go (e i) (highest d costs m e i) (first_in d costs m e i))
      ∙ sum_add (N d) (λ i. gate (highest d costs m e i) 1) (λ i. gate (rest d costs m e i) 1)
    where
      go : (x y : Bool) → (T y → T x) → gate x 1 ≡ gate y 1 + gate (x && not y) 1
      go true true h = refl
      go true false h = refl
      go false true h = absurd (h tt)
      go false false h = refl

  -- m land, or all if fewer
  pub highest_number : sum (N d) (λ i. gate (highest d costs m e i) 1) ≡ min m (sum (N d) (λ i. gate (e i) 1))
  highest_number = omega (arith, landed d costs m e, left_over_lem d costs (λ i. true) m e (λ k i _ _ _ _ _ t. t), all_crowd e, all_crowd (rest d costs m e), parted)

  before_mono : (k i : ℕ) → T (ahead d costs k i) → going_before d costs e k ≤ going_before d costs e i
  unfolding going_before
  before_mono k i t = sum_le (N d) (λ a. gate (e a && ahead d costs a k) 1) (λ a. gate (e a && ahead d costs a i) 1) (λ a l.
      gate_le (e a && ahead d costs a k) 1 (gate (e a && ahead d costs a i) 1) (λ s. let w = and_t (e a) (ahead d costs a k) s in
      omega (arith, gate_on (e a && ahead d costs a i) 1 (T_and (e a) (ahead d costs a i) w.0 (ahead_trans d costs a k i w.1 t)))))

  -- who lands goes before who is left
  pub highest_leads : (i k : ℕ) → T (highest d costs m e i) → T (rest d costs m e k) → T (ahead d costs i k)
  unfolding highest
  highest_leads i k s t =
      let q = and_t (e k) (not (e k && ltb (going_before d costs e k) m)) t in
      let low = ltb→lt (going_before d costs e i) m (and_t (e i) (ltb (going_before d costs e i) m) s).1 in
      let high = nltb→le (going_before d costs e k) m (not_T (ltb (going_before d costs e k) m) (λ z. T_not (e k && ltb (going_before d costs e k) m) q.1 (T_and (e k) (ltb (going_before d costs e k) m) q.0 z))) in
      elim (eq? i k) [
        | inl u ↦ absurd (omega (arith, ap (going_before d costs e) u))
        | inr ne ↦ elim (ahead_total d costs i k ne) [ inl a ↦ a | inr a ↦ absurd (omega (arith, before_mono k i a)) ]
      ]
