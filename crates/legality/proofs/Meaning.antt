-- The walk finds no flight that breaks the row exactly when the row is legal.
-- Assumes nothing.
use mathlib.Core.Path.{◌≡◌, ap}
use mathlib.Core.Logic.{inl, inr, ◌↔◌}
use mathlib.Core.Bool.{false}
use mathlib.Core.List.{List}
use Prim.Native.Nat.{ℕ, zero, suc, ◌+◌, ◌-◌, ◌≤◌, ◌<◌}
use native.Mathlib.Omega.{arith}
use lib.ListN.{length}
use lib.Dec.{eqb}
use borrow.Author.Tests.{le-ltb, le-leb, lt-leb, ltb-false}
use Rattle.assignment.specs.Sum.{gate, sum, count}
use Rattle.assignment.proofs.Tests.{lt?, eq?, gate_ne}
use Rattle.assignment.proofs.Sums.{count_suc, count_zero, sum_grow}
use Rattle.day.specs.Day.{Day, P, N, takes, counted, latest, Window, land}
use Rattle.day.specs.Plan.{Legal, too_long_of, too_long, over_capacity, breaks, first_break}
use Rattle.day.proofs.Tests.{first_none, none_passes}
use Rattle.day.specs.Valid.{Valid}
use Rattle.legality.proofs.Laws.{or_false, not_long}

count_grow : (i n : ℕ) (x : ℕ → ℕ) (k : ℕ) → i ≤ n → count i x k ≤ count n x k
unfolding count
count_grow i n x k l =
    let e : n - i + i ≡ n = omega arith in
    omega (arith, sum_grow i (n - i) (λ j. gate (eqb (x j) k) 1), ap (λ m. sum m (λ j. gate (eqb (x j) k) 1)) e)

module _ (d : Day) (h : List ℕ) where
  -- a flight that does not break the row leaves its period within its capacity
  within : (i : ℕ) → breaks d h i ≡ false → land d h i ≤ counted d → count (suc i) (land d h) (land d h i) ≤ takes d (land d h i)
  unfolding breaks over_capacity
  within i e l =
      let t = (or_false (too_long d i (land d h i)) (over_capacity d.capacities d.closing (land d h i) (count (suc i) (land d h) (land d h i))) e).1 in
      ltb-false (takes d (land d h i)) (count (suc i) (land d h) (land d h i)) (rw (le-leb (land d h i) (counted d) l) at t)

  -- so no period is over it, flight by flight
  pub upto : (n : ℕ) → ((i : ℕ) → i < n → breaks d h i ≡ false) → (k : ℕ) → k ≤ counted d → count n (land d h) k ≤ takes d k
  upto zero none k l = omega (arith, count_zero (land d h) k)
  upto (suc n) none k l = elim (eq? (land d h n) k) [
    | inl e ↦ rw e at (within n (none n (omega arith)) (rw e l))
    | inr e ↦ omega (arith, upto n (λ i b. none i (omega arith)) k l, count_suc n (land d h) k, gate_ne (land d h n) k 1 e)
  ]

  -- and it lands in its window
  pub passes_window : (i : ℕ) → breaks d h i ≡ false → Window d i (land d h i)
  unfolding breaks
  passes_window i e =
      let t = not_long d i (land d h i) (or_false (too_long d i (land d h i)) _ e).0 in
      record { from = omega arith; closing = t.0; limited = t.1 }

  -- of any day, valid or not
  pub none_legal : length h ≡ N d → first_break d h ≡ N d → Legal d h
  unfolding first_break breaks
  none_legal each e =
      let none = none_passes (N d) (breaks d h) e in
      record {
        each = each;
        window = λ i l. passes_window i (none i l);
        room = λ k a b. upto (N d) none k b;
      }

  legal_none : Valid d → Legal d h → first_break d h ≡ N d
  unfolding first_break breaks too_long_of over_capacity
  legal_none v legal = first_none (N d) (breaks d h) (λ i l. fine i l)
    where
      fits : (i : ℕ) → i < N d → land d h i ≤ counted d → count (suc i) (land d h) (land d h i) ≤ takes d (land d h i)
      fits i l b = omega (
        arith,
        legal.room (land d h i) (omega (arith, (v.flight i l).due_from)) b,
        count_grow (suc i) (N d) (land d h) (land d h i) l,
      )

      over : (i : ℕ) → i < N d → over_capacity d.capacities d.closing (land d h i) (count (suc i) (land d h) (land d h i)) ≡ false
      over i l = elim (lt? (counted d) (land d h i)) [
        | inl past ↦ rw (lt-leb (land d h i) (counted d) past)
        | inr in_day ↦ rw (le-leb (land d h i) (counted d) in_day) (le-ltb _ _ (fits i l in_day))
      ]

      fine : (i : ℕ) → i < N d → breaks d h i ≡ false
      fine i l =
          let w = legal.window i l in
          rw (le-ltb (P d + 1) (land d h i) w.closing, le-ltb (latest d i) (land d h i) w.limited) (over i l)

-- "the first flight that breaks it": none, exactly for a legal row
pub walk_means : {d : Day} {h : List ℕ} → Valid d → length h ≡ N d → (first_break d h ≡ N d) ↔ Legal d h
walk_means {d} {h} v each = (none_legal d h each, legal_none d h v)
