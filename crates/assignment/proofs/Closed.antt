-- Closed periods, those of capacity 0, can be left out of a search: as if a landing there cost so much that nobody would go there. No plan
-- lands in them, so plans and totals are the same; at the end each gets the least price that keeps every flight where it lands.
-- Assumes nothing.
use mathlib.Core.Path.{◌≡◌, refl, ◌∙◌}
use mathlib.Core.Logic.{◌⊎◌, inl, inr}
use Prim.Native.Nat.{ℕ, suc, ◌+◌, ◌≤◌, ◌<◌}
use native.Mathlib.Omega.{arith}
use lib.Dec.{eqb}
use Rattle.assignment.specs.Sum.{gate, sum}
use Rattle.assignment.specs.Assignment.{Instance, In, Legal, total, must_land, room, Short}
use Rattle.assignment.specs.Instances.{opened}
use Rattle.assignment.specs.Insertion.{Sound}
use Rattle.assignment.proofs.Tests.{eq?, gate_eq, gate_ne}
use Rattle.assignment.proofs.Sums.{sum_ext, sum_member, count_member}

module _ (d : Instance) (more : ℕ) where
  pub open_cost : (i k : ℕ) → 0 < d.cap k → (opened d more).cost i k ≡ d.cost i k
  open_cost i k some = omega (arith, gate_ne (d.cap k) 0 more (omega arith))

  pub shut_cost : (i k : ℕ) → d.cap k ≡ 0 → more ≤ (opened d more).cost i k
  shut_cost i k none = omega (arith, gate_eq (d.cap k) 0 more none)

  pub opened_short : {a b : ℕ} → Short (opened d more) a b → Short d a b
  unfolding must_land room
  opened_short s = record { short = s.short }

-- whoever lands, lands in an open period
pub lands_open : {d : Instance} {x : ℕ → ℕ} → Legal d x → (i : ℕ) → i < d.n → 0 < d.cap (x i)
lands_open {d} {x} legal i l = omega (arith, legal.room (x i), count_member d.n i (x i) x l refl)

pub opened_total : (d : Instance) (more : ℕ) (x : ℕ → ℕ) → Legal (opened d more) x → total (opened d more) x ≡ total d x
unfolding total
opened_total d more x legal =
    sum_ext d.n (λ i. (opened d more).cost i (x i)) (λ i. d.cost i (x i)) (λ i l. open_cost d more i (x i) (lands_open legal i l))

-- some flight may as well land in k
pub record Tied (d : Instance) (x p q : ℕ → ℕ) (k : ℕ) : Type 0 where
  pub by : ℕ
  pub who : by < d.n
  pub fits : In d by k
  pub tie : d.cost by k + q k ≡ d.cost by (x by) + p (x by)

-- The proof on paper. Where a flight lands the period is open, so cost and price there are what they were in the search. Against an open period
-- nothing has changed; against a closed one the new price is high enough by its choice. It is 0, or a flight pays the same there: so it is
-- held up from that flight's landing, which is open, and it is enough to let all closed periods stand higher than every landing.
-- q has the prices p of the open periods; a closed one has a price that is high enough for every flight, and 0 or no higher than for one
module _ (d : Instance) (more : ℕ) {x p q : ℕ → ℕ} (s : Sound (opened d more) x p) (same : (k : ℕ) → 0 < d.cap k → q k ≡ p k)
    (high : (i k : ℕ) → i < d.n → In d i k → d.cap k ≡ 0 → d.cost i (x i) + p (x i) ≤ d.cost i k + q k)
    (low : (k : ℕ) → d.cap k ≡ 0 → (q k ≡ 0) ⊎ Tied d x p q k) where
  lands : (i : ℕ) → i < d.n → 0 < d.cap (x i)
  lands = lands_open s.accepted.legal

  here : (i : ℕ) → i < d.n → (opened d more).cost i (x i) + p (x i) ≡ d.cost i (x i) + q (x i)
  here i l = omega (arith, open_cost d more i (x i) (lands i l), same (x i) (lands i l))

  -- closed periods stand above all others
  height : ℕ → ℕ
  height k = s.height k + gate (eqb (d.cap k) 0) (suc (sum d.n (λ i. s.height (x i))))

  height_open : (k : ℕ) → 0 < d.cap k → height k ≡ s.height k
  unfolding height
  height_open k some = omega (arith, gate_ne (d.cap k) 0 (suc (sum d.n (λ i. s.height (x i)))) (omega arith))

  height_shut : (i k : ℕ) → i < d.n → d.cap k ≡ 0 → s.height (x i) < height k
  unfolding height
  height_shut i k l none = omega (
    arith,
    gate_eq (d.cap k) 0 (suc (sum d.n (λ i. s.height (x i)))) none,
    sum_member d.n i (λ i. s.height (x i)) l,
  )

  pub priced : Sound d x q
  priced = record {
    accepted = record {
      legal = record {
        window = λ i l. let w = s.accepted.legal.window i l in record { from = w.from; to = w.to };
        room = s.accepted.legal.room;
      };
      unsold = λ k free. same k (omega arith) ∙ s.accepted.unsold k free;
      best = λ i k l w. elim (eq? (d.cap k) 0) [
        | inl none ↦ omega (arith, here i l, open_cost d more i (x i) (lands i l), high i k l w none)
        | inr some ↦ omega (
          arith,
          here i l,
          open_cost d more i k (omega arith),
          same k (omega arith),
          s.accepted.best i k l (record { from = w.from; to = w.to }),
        )
      ];
    };
    height = height;
    held = λ k. elim (eq? (d.cap k) 0) [
      | inl none ↦ elim (low k none) [
        | inl free ↦ inl free
        | inr t ↦ inr (record {
          by = t.by;
          who = t.who;
          fits = t.fits;
          lower = omega (arith, height_open (x t.by) (lands t.by t.who), height_shut t.by k t.who none);
          tie = omega (arith, t.tie, same (x t.by) (lands t.by t.who));
        })
      ]
      | inr some ↦ elim (s.held k) [
        | inl free ↦ inl (same k (omega arith) ∙ free)
        | inr a ↦ inr (record {
          by = a.by;
          who = a.who;
          fits = record { from = a.fits.from; to = a.fits.to };
          lower = omega (arith, a.lower, height_open k (omega arith), height_open (x a.by) (lands a.by a.who));
          tie = omega (arith, a.tie, here a.by a.who, open_cost d more a.by k (omega arith), same k (omega arith));
        })
      ]
    ];
  }
