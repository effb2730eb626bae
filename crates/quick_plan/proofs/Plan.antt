-- Who is eligible, who operates, and where each flight lands; and that the quick plan is legal, whatever the next cost, where the
-- closing period has room for those left.
-- Assumes nothing.
use mathlib.Core.Path.{◌≡◌, refl, sym, ap, ◌∙◌}
use mathlib.Core.Logic.{◌⊎◌, inl, inr}
use mathlib.Core.Bool.{true, not, ◌&&◌, ◌||◌}
use Prim.Native.Nat.{ℕ, zero, suc, ◌+◌, ◌-◌, ◌≤◌, ◌<◌}
use native.Mathlib.Omega.{arith}
use native.Mathlib.Nat.{zero-add, suc-add}
use lib.ListN.{length}
use lib.Dec.{T, leb, ltb, eqb, ltb→lt, lt→ltb, leb→le, le→leb, eqb→eq, eqb_refl, T_not}
use Rattle.assignment.specs.Sum.{gate, count}
use Rattle.assignment.proofs.Rows.{row_at, row_length}
use Rattle.assignment.proofs.Tests.{and_t, T_and, test, eq?, is_true as on, is_false as off, same_test as same, or_t, T-or-l, T-or-r}
use Rattle.assignment.proofs.Sums.{sum_ext}
use Rattle.day.specs.Day.{Day, P, N, due, capacity, takes, counted, land, valid}
use Rattle.day.specs.Plan.{Legal, first_jump_or_limit}
use Rattle.day.proofs.Costs.{takes_in, takes_closing, counted_to}
use Rattle.day.proofs.Valid.{valid_means}
use Rattle.quick_plan.specs.Quick.{eligible, operates, lands, quick_by, left_over}
use Rattle.quick_plan.proofs.Applies.{latest_closing}
use Rattle.quick_plan.proofs.First.{first_in, landed}

module _ (d : Day) (next : ℕ → ℕ → ℕ) (v : valid d ≡ true) where
  eligible_next : (j i : ℕ) → eligible d next (suc j) i ≡ eqb (due d i) (suc j) || eligible d next j i && not (operates d next j i)
  unfolding eligible operates
  eligible_next j i = refl

  pub operates_in : (j i : ℕ) → T (operates d next j i) → T (eligible d next j i)
  unfolding operates
  operates_in j i t = first_in d (next j) (capacity d j) (eligible d next j) i t

  none_yet : (i : ℕ) → T (eligible d next 0 i) → ⊥
  unfolding eligible
  none_yet i t = t

  pub due_by_lem : (j i : ℕ) → i < N d → T (eligible d next j i) → due d i ≤ j
  due_by_lem zero i l t = absurd (none_yet i t)
  due_by_lem (suc j) i l t = elim (or_t (eqb (due d i) (suc j)) _ (rw (eligible_next j i) at t)) [
    | inl q ↦ omega (arith, eqb→eq (due d i) (suc j) q)
    | inr q ↦ omega (arith, due_by_lem j i l (and_t (eligible d next j i) (not (operates d next j i)) q).0)
  ]

  lands_none : (i : ℕ) → lands d next 0 i ≡ P d + 1
  unfolding lands
  lands_none i = refl

  pub lands_now : (j i : ℕ) → T (operates d next (suc j) i) → lands d next (suc j) i ≡ suc j
  unfolding lands
  lands_now j i t = rw (on (operates d next (suc j) i) t)

  pub lands_not : (j i : ℕ) → T (not (operates d next (suc j) i)) → lands d next (suc j) i ≡ lands d next j i
  unfolding lands
  lands_not j i t = rw (off (operates d next (suc j) i) (T_not (operates d next (suc j) i) t))

  -- by period j flight i has landed, from its due on; or it stands at the closing period
  pub lands_by : (j i : ℕ) → i < N d → ((due d i ≤ lands d next j i) × (lands d next j i ≤ j)) ⊎ (lands d next j i ≡ P d + 1)
  lands_by zero i l = inr (lands_none i)
  lands_by (suc j) i l = elim (test (operates d next (suc j) i)) [
    | inl t ↦ inl (omega (arith, lands_now j i t, due_by_lem (suc j) i l (operates_in (suc j) i t)))
    | inr t ↦ rw (lands_not j i t) (elim (lands_by j i l) [ inl w ↦ inl (omega arith) | inr w ↦ inr w ])
  ]

  -- those eligible are those due that stand at the closing period
  pub eligible_is : (j i : ℕ) → i < N d → j ≤ P d → eligible d next (suc j) i ≡ leb (due d i) (suc j) && eqb (lands d next j i) (P d + 1)
  eligible_is j i l p = same (eligible d next (suc j) i) (leb (due d i) (suc j) && eqb (lands d next j i) (P d + 1))
      (λ t. T_and (leb (due d i) (suc j)) _ (le→leb (due d i) (suc j) (due_by_lem (suc j) i l t)) (rw (stand j t p) (eqb_refl (P d + 1))))
      (λ t. shut j p (leb→le (due d i) (suc j) (and_t (leb (due d i) (suc j)) (eqb (lands d next j i) (P d + 1)) t).0)
      (eqb→eq (lands d next j i) (P d + 1) (and_t (leb (due d i) (suc j)) (eqb (lands d next j i) (P d + 1)) t).1))
    where
      stand : (j : ℕ) → T (eligible d next (suc j) i) → j ≤ P d → lands d next j i ≡ P d + 1
      stand zero t p = lands_none i
      stand (suc j) t p = elim (or_t (eqb (due d i) (suc (suc j))) _ (rw (eligible_next (suc j) i) at t)) [
        | inl q ↦ elim (lands_by (suc j) i l) [ inl w ↦ absurd (omega (arith, eqb→eq (due d i) (suc (suc j)) q)) | inr w ↦ w ]
        | inr q ↦ let w = and_t (eligible d next (suc j) i) (not (operates d next (suc j) i)) q in lands_not j i w.1 ∙ stand j w.0 (omega arith)
      ]

      shut : (j : ℕ) → j ≤ P d → due d i ≤ suc j → lands d next j i ≡ P d + 1 → T (eligible d next (suc j) i)
      shut zero p b e = rw (eligible_next 0 i) (T-or-l (eqb (due d i) 1) _ (rw (the_first b) (eqb_refl 1)))
        where
          the_first : due d i ≤ 1 → due d i ≡ 1
          the_first b = omega (arith, ((valid_means v).flight i l).due_from)
      shut (suc j) p b e = rw (eligible_next (suc j) i) (elim (eq? (due d i) (suc (suc j))) [
        | inl q ↦ T-or-l (eqb (due d i) (suc (suc j))) _ (rw q (eqb_refl (suc (suc j))))
        | inr q ↦ elim (test (operates d next (suc j) i)) [
          | inl t ↦ absurd (omega (arith, lands_now j i t))
          | inr t ↦ T-or-r (eqb (due d i) (suc (suc j))) _ (T_and (eligible d next (suc j) i) _ (shut j (omega arith) (omega arith) (sym (lands_not j i t) ∙ e)) t)
        ]
      ])

  -- who has landed stays, and who has not lands later
  lands_stay : (g j i : ℕ) → i < N d → g + j ≤ P d → lands d next j i ≤ j → lands d next (g + j) i ≡ lands d next j i
  lands_stay zero j i l p h = rw zero-add
  lands_stay (suc g) j i l p h = rw suc-add (elim (test (operates d next (suc (g + j)) i)) [
    | inl t ↦ absurd (omega (arith, lands_stay g j i l (omega arith) h, closing t))
    | inr t ↦ lands_not (g + j) i t ∙ lands_stay g j i l (omega arith) h
  ])
    where
      closing : T (operates d next (suc (g + j)) i) → lands d next (g + j) i ≡ P d + 1
      closing t = eqb→eq (lands d next (g + j) i) (P d + 1)
          (and_t (leb (due d i) (suc (g + j))) (eqb (lands d next (g + j) i) (P d + 1))
          (rw (eligible_is (g + j) i l (omega arith)) at (operates_in (suc (g + j)) i t))).1

  lands_later : (g j i : ℕ) → j ≤ P d → lands d next j i ≡ P d + 1 → j < lands d next (g + j) i
  lands_later zero j i p h = rw zero-add (omega arith)
  lands_later (suc g) j i p h = rw suc-add (elim (test (operates d next (suc (g + j)) i)) [
    | inl t ↦ omega (arith, lands_now (g + j) i t)
    | inr t ↦ omega (arith, lands_not (g + j) i t, lands_later g j i p h)
  ])

  -- where flight i lands at last
  pub end : ℕ → ℕ
  end i = lands d next (P d) i

  minus_add : (j : ℕ) → j ≤ P d → P d - j + j ≡ P d
  minus_add j p = omega arith

  end_stay : (j i : ℕ) → i < N d → j ≤ P d → lands d next j i ≤ j → end i ≡ lands d next j i
  unfolding end
  end_stay j i l p h = rw (minus_add j p) at (lands_stay (P d - j) j i l (omega arith) h)

  end_later : (j i : ℕ) → j ≤ P d → lands d next j i ≡ P d + 1 → j < end i
  unfolding end
  end_later j i p h = rw (minus_add j p) at (lands_later (P d - j) j i p h)

  -- each flight lands, not before its due, and not after the closing period
  pub end_from : (i : ℕ) → i < N d → due d i ≤ end i
  unfolding end
  end_from i l = elim (lands_by (P d) i l) [ inl w ↦ omega arith | inr w ↦ omega (arith, ((valid_means v).flight i l).due_to) ]

  pub end_to : (i : ℕ) → i < N d → end i ≤ P d + 1
  unfolding end
  end_to i l = elim (lands_by (P d) i l) [ inl w ↦ omega arith | inr w ↦ omega arith ]

  pub eligible_end : (j i : ℕ) → i < N d → j < P d → eligible d next (suc j) i ≡ leb (due d i) (suc j) && ltb j (end i)
  eligible_end j i l p = eligible_is j i l (omega arith) ∙ ap (λ x. leb (due d i) (suc j) && x) (same (eqb (lands d next j i) (P d + 1)) (ltb j (end i))
      (λ t. lt→ltb j (end i) (end_later j i (omega arith) (eqb→eq (lands d next j i) (P d + 1) t)))
      (λ t. elim (lands_by j i l) [
        | inl w ↦ absurd (omega (arith, ltb→lt j (end i) t, end_stay j i l (omega arith) w.1))
        | inr w ↦ rw w (eqb_refl (P d + 1))
      ]))

  -- a flight operates in the one period where it lands
  pub operates_end : (j i : ℕ) → i < N d → j < P d → operates d next (suc j) i ≡ eqb (end i) (suc j)
  operates_end j i l p = same (operates d next (suc j) i) (eqb (end i) (suc j))
      (λ t. rw (end_stay (suc j) i l p (omega (arith, lands_now j i t)), lands_now j i t) (eqb_refl (suc j)))
      (λ t. elim (test (operates d next (suc j) i)) [ inl s ↦ s | inr s ↦ absurd (wrong (eqb→eq (end i) (suc j) t) (lands_not j i s) (lands_by j i l)) ])
    where
      wrong : end i ≡ suc j → lands d next (suc j) i ≡ lands d next j i
          → ((due d i ≤ lands d next j i) × (lands d next j i ≤ j)) ⊎ (lands d next j i ≡ P d + 1) → ⊥
      wrong e s (inl w) = omega (arith, end_stay j i l (omega arith) w.1)
      wrong e s (inr w) = omega (arith, end_later (suc j) i p (s ∙ w))

  pub quick_land : (i : ℕ) → i < N d → land d (quick_by d next) i ≡ end i
  unfolding quick_by end
  quick_land i l = omega (arith, row_at (N d) (λ i. lands d next (P d) i - due d i) i 0 l, end_from i l)

  pub quick_to : (i : ℕ) → i < N d → land d (quick_by d next) i ≤ P d + 1
  quick_to i l = rw (quick_land i l) (end_to i l)

  quick_count : (k : ℕ) → k < P d → count (N d) (land d (quick_by d next)) (suc k) ≤ capacity d (suc k)
  unfolding count operates
  quick_count k p =
      omega (
        arith,
        sum_ext (N d) (λ i. gate (eqb (land d (quick_by d next) i) (suc k)) 1) (λ i. gate (operates d next (suc k) i) 1)
            (λ i l. rw (quick_land i l, operates_end k i l p)),
        landed d (next (suc k)) (capacity d (suc k)) (eligible d next (suc k)),
      )

  pub quick_length : length (quick_by d next) ≡ N d
  unfolding quick_by
  quick_length = row_length (N d) (λ i. lands d next (P d) i - due d i)

  -- no flight is limited
  module _ (applies : first_jump_or_limit d.flights ≡ N d) where
    pub quick_legal : left_over d next ≤ d.closing → Legal d (quick_by d next)
    unfolding left_over
    quick_legal few = record {
      each = quick_length;
      window = λ i l. record {
        from = omega arith;
        closing = quick_to i l;
        limited = rw (latest_closing d applies i l) (quick_to i l);
      };
      room = room;
    }
      where
        room : (k : ℕ) → 1 ≤ k → k ≤ counted d → count (N d) (land d (quick_by d next)) k ≤ takes d k
        room zero a b = absurd (omega arith)
        room (suc k) a b = elim (eq? (suc k) (P d + 1)) [
          | inl e ↦ rw e (omega (arith, takes_closing d.capacities d.closing))
          | inr o ↦
              let in_day : k < P d = omega (arith, counted_to (P d) d.closing) in
              omega (arith, quick_count k in_day, takes_in d.capacities d.closing (suc k) in_day)
        ]
