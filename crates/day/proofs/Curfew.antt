-- A closing line (#108) either leaves a day without a legal plan, or changes no cheapest plan and no price but for the added 0.
-- Assumes nothing.
use mathlib.Core.Path.{◌≡◌, refl, ap, ◌∙◌}
use mathlib.Core.Logic.{◌⊎◌, inl, inr, ◌↔◌}
use mathlib.Core.Bool.{true}
use mathlib.Core.List.{List, [], ◌∷◌, ◌++◌}
use Prim.Native.Nat.{ℕ, zero, suc, ◌+◌, ◌-◌, ◌*◌, ◌≤◌, ◌<◌}
use native.Mathlib.Omega.{arith}
use lib.ListN.{length, get_or, length-append}
use lib.Dec.{ltb, ltb→lt}
use Rattle.assignment.specs.Sum.{gate, sum, count}
use Rattle.assignment.specs.Assignment as A
use Rattle.assignment.specs.Moves.{put}
use Rattle.assignment.proofs.Tests.{lt?, eq?, gate_lt, gate_eq, gate_ne, gate_le, gate_mul_le, gate_mul_ge}
use Rattle.assignment.proofs.Sums.{sum_le, exchange_all}
use Rattle.assignment.proofs.Moves.{moved_count, moved_total, moved_window, put_moved}
use Rattle.day.specs.Day.{Day, day, P, N, unlimited, due, of_period, takes, counted, Window, land, landings, total, valid}
use Rattle.day.specs.Plan.{Legal, Cheapest, Accepted, Smallest, one_more, PricesSave}
use Rattle.day.specs.Valid.{ValidFlights, Valid}
use Rattle.day.specs.Instance.{last_to, instance}
use Rattle.day.proofs.Costs.{period_out, takes_in, counted_line, counted_open, counted_from, counted_to, cost_grows}
use Rattle.day.proofs.Valid.{valid_flights, valid_means, means_valid}
use Rattle.day.proofs.Instance.{total_instance, legal_instance, holds_of, holds_legal, holds_total, accepted_is_cheapest}
use Rattle.day.proofs.Prices.{same_periods, legal_more, saves_price, saved_smallest}

-- ---- who lands behind a period

-- Let plan y have no more landings than plan x in any period between z and m, and let whoever lands behind z in x land behind z in y. Then
-- y has no fewer landings in m, the last period: behind z it has no fewer in all, and before m no more.
module _ (n z m : ℕ) (x y : ℕ → ℕ) (behind : z < m) (x-to : (i : ℕ) → i < n → x i ≤ m) (y-to : (i : ℕ) → i < n → y i ≤ m)
    (fuller : (k : ℕ) → z < k → k < m → count n y k ≤ count n x k) (follows : (i : ℕ) → i < n → z < x i → z < y i) where
  late : ℕ → ℕ
  late k = gate (ltb z k) 1

  all_late : (w : ℕ → ℕ) → ((i : ℕ) → i < n → w i ≤ m) → sum n (λ i. late (w i)) ≡ sum m (λ k. late k * count n w k) + count n w m
  unfolding sum late
  all_late w to =
      exchange_all n (suc m) w late (λ i l. omega (arith, to i l))
      ∙ omega (arith, ap (λ g. g * count n w m) (gate_lt z m 1 behind))

  pub no_fewer_last : count n x m ≤ count n y m
  unfolding late
  no_fewer_last =
      omega (
        arith,
        all_late x x-to,
        all_late y y-to,
        sum_le n (λ i. late (x i)) (λ i. late (y i))
            (λ i l. gate_le (ltb z (x i)) 1 (late (y i)) (λ t. omega (arith, gate_lt z (y i) 1 (follows i l (ltb→lt z (x i) t))))),
        sum_le m (λ k. late k * count n y k) (λ k. late k * count n x k) (λ k l. omega (
          arith,
          gate_mul_le (ltb z k) (count n y k) (count n x k) (λ t. fuller k (ltb→lt z k t) l),
          gate_mul_ge (ltb z k) (count n x k) (count n x k) (λ t. omega arith),
        )),
      )

-- ---- a cheapest plan of the day without the line

-- the last of the periods 1 .. n that is not full, or 0
record LastFree (cap held : ℕ → ℕ) (n : ℕ) : Type 0 where
  z : ℕ
  to : z ≤ n
  free : (z ≡ 0) ⊎ (held z < cap z)
  full : (k : ℕ) → z < k → k ≤ n → cap k ≤ held k

last_free : (cap held : ℕ → ℕ) (n : ℕ) → LastFree cap held n
last_free cap held zero = record { z = 0; to = omega arith; free = inl refl; full = λ k a b. absurd (omega arith) }
last_free cap held (suc n) = elim (lt? (held (suc n)) (cap (suc n))) [
  | inl room ↦ record { z = suc n; to = omega arith; free = inr room; full = λ k a b. absurd (omega arith) }
  | inr none ↦
      let f = last_free cap held n in
      record {
        z = f.z;
        to = omega (arith, f.to);
        free = f.free;
        full = λ k a b. elim (eq? k (suc n)) [ inl e ↦ rw e none | inr e ↦ f.full k a (omega arith) ];
      }
]

-- Let x be a cheapest plan, and y one that keeps the windows and the capacities of 1 to P. Then x has no more landings in the closing
-- period. For let z be the last period of 1 to P that is not full in x. Whoever lands behind z is due behind z: else he could land in z,
-- which has room, and pay less. So he lands behind z in y too. And in each period from z to P no more land in y than in x, since x is full
-- there.
module _ (d : Day) (v : ValidFlights (P d) d.flights) {x y : ℕ → ℕ} (best : A.Cheapest (instance d) x)
    (window : (i : ℕ) → i < N d → A.In (instance d) i (y i)) (room : (k : ℕ) → k ≤ P d → count (N d) y k ≤ takes d k) where
  -- no flight can move to an earlier period with room
  no_gain : (i z : ℕ) → i < N d → due d i ≤ z → z < x i → count (N d) x z < takes d z → ⊥
  no_gain i z l by before free = omega (
    arith,
    moved_total (instance d) (put_moved x i z) l,
    cost_grows d i (z - due d i) (x i - due d i) (v.flight i l).rate_from (omega arith),
    best.least (put x i z) (record { window = moved_window (instance d) (put_moved x i z) l fits best.legal.window; room = rooms }),
  )
    where
      fits : A.In (instance d) i z
      fits = record { from = by; to = omega (arith, (best.legal.window i l).to) }

      rooms : (k : ℕ) → count (N d) (put x i z) k ≤ takes d k
      rooms k =
          let counts = moved_count (instance d) (put_moved x i z) l k in
          elim (eq? z k) [
            | inl e ↦ omega (arith, counts, gate_eq z k 1 e, rw e at free)
            | inr e ↦ omega (arith, counts, gate_ne z k 1 e, best.legal.room k)
          ]

  f : LastFree (takes d) (count (N d) x) (P d)
  f = last_free (takes d) (count (N d) x) (P d)

  due_behind : (i : ℕ) → i < N d → f.z < x i → f.z < due d i
  due_behind i l behind = elim (lt? f.z (due d i)) [
    | inl later ↦ later
    | inr by ↦ elim f.free [
      | inl none ↦ absurd (omega (arith, none, (v.flight i l).due_from))
      | inr free ↦ absurd (no_gain i f.z l by behind free)
    ]
  ]

  pub fewest_last : count (N d) x (P d + 1) ≤ count (N d) y (P d + 1)
  fewest_last = no_fewer_last (N d) f.z (P d + 1) x y (omega (arith, f.to))
      (λ i l. omega (arith, (best.legal.window i l).to, last_to d i))
      (λ i l. omega (arith, (window i l).to, last_to d i))
      (λ k a b. omega (arith, f.full k a (omega arith), room k (omega arith)))
      (λ i l behind. omega (arith, due_behind i l behind, (window i l).from))

-- ---- the day with a closing line, d, and the day of the same rows without one, u

pub open_valid : {c f : List ℕ} {closing : ℕ} → Valid (day c f closing) → Valid (day c f unlimited)
open_valid v = record {
  periods_from = v.periods_from;
  periods_to = v.periods_to;
  whole = v.whole;
  flights_to = v.flights_to;
  closing_to = omega arith;
  capacity_to = v.capacity_to;
  flight = v.flight;
  distinct = v.distinct;
}

-- so the day check passes it too
pub valid_open : (d : Day) → valid d ≡ true → valid (day d.capacities d.flights unlimited) ≡ true
valid_open d v = means_valid (open_valid (valid_means v))

cheapest_instance : {d : Day} {h : List ℕ} → ValidFlights (P d) d.flights → Cheapest d h → A.Cheapest (instance d) (land d h)
cheapest_instance {d} {h} v best = record {
  legal = legal_instance v best.legal;
  least = λ y legal. omega (arith, best.least (holds_of d y) (holds_legal d legal), holds_total d legal, total_instance d h);
}

module _ (c f : List ℕ) (closing none : ℕ) (no_line : unlimited ≤ none) where
  abbrev d : Day
  d = day c f closing

  abbrev u : Day
  u = day c f none

  pub same_window : {i k : ℕ} → Window d i k → Window u i k
  same_window w = record { from = w.from; closing = w.closing; limited = w.limited }

  pub window_same : {i k : ℕ} → Window u i k → Window d i k
  window_same w = record { from = w.from; closing = w.closing; limited = w.limited }

  -- what is legal with the line is legal without it
  pub legal_without : {h : List ℕ} → Legal d h → Legal u h
  legal_without {h} legal = record {
    each = legal.each;
    window = λ i l. same_window (legal.window i l);
    room = λ k a b.
        let to : k ≤ length c = omega (arith, counted_open (length c) none no_line) in
        omega (arith, takes_in c none k to, takes_in c closing k to, legal.room k a (omega (arith, counted_from (length c) closing)));
  }

  module _ (v : ValidFlights (length c) f) where
    -- A cheapest plan of the day without the line keeps the line, if any legal plan does: none has fewer landings in the closing period.
    pub keeps_line : {h g : List ℕ} → Cheapest u h → Legal d g → Legal d h
    keeps_line {h} {g} best legal = record {
      each = best.legal.each;
      window = λ i l. window_same (best.legal.window i l);
      room = λ k a b. elim (lt? (length c) k) [
        | inr to ↦ omega (arith, takes_in c none k to, takes_in c closing k to, best.legal.room k a (omega (arith, counted_from (length c) none)))
        | inl past ↦
            let e : k ≡ length c + 1 = omega (arith, counted_to (length c) closing) in
            let other = legal_instance {d = u} {h = g} v (legal_without legal) in
            omega (
              arith,
              legal.room k a b,
              ap (landings d h) e,
              ap (landings d g) e,
              fewest_last u v (cheapest_instance v best) other.window (λ j _. other.room j),
            )
      ];
    }

    pub cheapest_with : {h g : List ℕ} → Cheapest u h → Legal d g → Cheapest d h
    cheapest_with best legal = record { legal = keeps_line best legal; least = λ other l. best.least other (legal_without l) }

    -- so the line changes no cheapest plan
    pub same_cheapest : {h g : List ℕ} → Cheapest u h → Legal d g → (x : List ℕ) → Cheapest d x ↔ Cheapest u x
    same_cheapest {h} best legal x = (
      (λ w. record { legal = legal_without w.legal; least = λ other l. omega (arith, w.least h (keeps_line best legal), best.least other l) }),
      (λ w. cheapest_with w legal),
    )

-- ---- prices

-- an added 0 changes no entry
zero_behind : (row : List ℕ) (k : ℕ) → get_or (row ++ (0 ∷ [])) k 0 ≡ get_or row k 0
zero_behind [] zero = refl
zero_behind [] (suc k) = refl
zero_behind (x ∷ row) zero = refl
zero_behind (x ∷ row) (suc k) = zero_behind row k

pub added_zero : (prices : List ℕ) (k : ℕ) → of_period (prices ++ (0 ∷ [])) k ≡ of_period prices k
added_zero prices k = zero_behind (0 ∷ prices) k

-- The smallest prices of a day with a line that has a legal plan are those of the day without it, and 0 for the closing period. They are
-- accepted for the same plan, which keeps the line. The plan that saves a price of the day without the line is cheapest in the changed day
-- without the line, so it keeps the line too, and saves as much with the line; and 0 is saved by the plan itself.
module _ (c f : List ℕ) (closing : ℕ) (line : closing < unlimited) (v : Valid (day c f closing)) {h p g : List ℕ}
    (smallest : Smallest (day c f unlimited) h p) (saves : PricesSave (day c f unlimited) (total (day c f unlimited) h) p)
    (legal : Legal (day c f closing) g) where
  to_open : {k : ℕ} → k ≤ length c → k ≤ counted (day c f unlimited)
  to_open to = omega (arith, to, counted_from (length c) unlimited)

  with_legal : Legal (day c f closing) h
  with_legal = keeps_line c f closing unlimited (omega arith) (valid_flights v) (accepted_is_cheapest (open_valid v) smallest.accepted) legal

  pub with_accepted : Accepted (day c f closing) h (p ++ (0 ∷ []))
  with_accepted = record {
    legal = with_legal;
    each = omega (arith, length-append p (0 ∷ []), smallest.accepted.each, counted_line (length c) closing line, counted_open (length c) unlimited (omega arith));
    unsold = λ k a b less. rw (added_zero p k) (elim (lt? (length c) k) [
      | inr to ↦ smallest.accepted.unsold k a (to_open to) (omega (arith, takes_in c closing k to, takes_in c unlimited k to))
      | inl past ↦ period_out p k (omega (arith, smallest.accepted.each, counted_open (length c) unlimited (omega arith)))
    ]);
    least = λ i k l w. rw (added_zero p k, added_zero p (land (day c f closing) h i)) (smallest.accepted.least i k l (same_window c f closing unlimited (omega arith) w));
  }

  pub with_saves : PricesSave (day c f closing) (total (day c f closing) h) (p ++ (0 ∷ []))
  with_saves k from to = elim (lt? (length c) k) [
    | inl past ↦ saves_price v with_accepted from to (legal_more (day c f closing) k from to (valid_flights v) with_legal)
        (omega (arith, added_zero p k, period_out p k (omega (arith, smallest.accepted.each, counted_open (length c) unlimited (omega arith)))))
    | inr in_day ↦
        let s = saves k from (to_open in_day) in
        saves_price v with_accepted from to
        (keeps_line (one_more (day c f closing) k).capacities f (one_more (day c f closing) k).closing (one_more (day c f unlimited) k).closing (omega arith)
        (rw (same_periods (day c f closing) k) (valid_flights v)) s.cheapest (legal_more (day c f closing) k from to (valid_flights v) legal))
        (omega (arith, added_zero p k, s.falls_by))
  ]

  pub with_smallest : Smallest (day c f closing) h (p ++ (0 ∷ []))
  with_smallest = saved_smallest v with_accepted with_saves
