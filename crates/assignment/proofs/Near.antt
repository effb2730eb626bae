-- The search by distance for a place for a new flight: periods are reached in the order of their distances, and the flights that land in a
-- reached period offer the periods of their windows.
-- Assumes nothing.
use mathlib.Core.Path.{◌≡◌, sym, ap, ◌∙◌}
use mathlib.Core.Logic.{inl, inr, ◌≢◌}
use Prim.Native.Nat.{ℕ, ◌+◌, ◌≤◌, ◌<◌, min}
use native.Mathlib.Omega.{arith}
use Rattle.assignment.specs.Assignment.{Instance, In}
use Rattle.assignment.specs.Moves.{Settled, Moved}
use Rattle.assignment.specs.Search.{Near, Took, Offered}
use Rattle.assignment.proofs.Tests.{lt?, eq?}

pub near_start : {d : Instance} {x p root dist turn via : ℕ → ℕ} {z : ℕ} → Settled d x p → ((k : ℕ) → dist k ≡ root k)
    → ((k : ℕ) → In d d.n k → root k ≡ d.cost d.n k + p k → via k ≡ d.n) → ((k : ℕ) → turn k ≡ 0)
    → Near d x p root dist turn via z 0 0
near_start {x = x} s same new none = record {
  settled = s;
  low = λ k. omega (arith, same k);
  how = λ k. inl (same k, new k);
  top = λ k. omega (arith, none k);
  order = λ j k a b. absurd (omega (arith, none j));
  last = λ j k a b. absurd (omega (arith, none j));
  near = λ i k l w a b. absurd (omega (arith, none (x i)));
}

-- The proof on paper, after Dijkstra. Going on from a reached period never brings one nearer than that period, since every flight pays least
-- where it lands. So the nearest period that is not reached is as near as it will ever be, and is reached next; an offer changes no period
-- that is reached; and what is reached later is no nearer than what was reached before.
module _ {d : Instance} {x p root dist turn via : ℕ → ℕ} {z t m : ℕ} (s : Near d x p root dist turn via z t m) where
  -- the nearest period that is not reached is reached
  pub near_reach : {turn₂ : ℕ → ℕ} {at : ℕ} → m ≡ 0 → turn at ≡ 0 → ((k : ℕ) → turn k ≡ 0 → dist at ≤ dist k) → Moved turn turn₂ at (t + 1)
      → Near d x p root dist turn₂ via z (t + 1) d.n
  near_reach {turn₂} {at} all fresh least v = record {
    settled = s.settled;
    low = s.low;
    how = λ k. elim (s.how k) [
      | inl e ↦ inl e
      | inr a ↦ inr (record {
        who = a.who;
        fits = a.fits;
        far = a.far;
        from = omega (arith, old (x (via k)) a.from, a.from);
        lower = λ some. elim (eq? k at) [
          | inl e ↦ omega (arith, ap turn₂ e, v.here, old (x (via k)) a.from, s.top (x (via k)))
          | inr e ↦ omega (arith, v.others k e, old (x (via k)) a.from, a.lower (omega (arith, v.others k e)))
        ];
      })
    ];
    top = λ k. elim (eq? k at) [ inl e ↦ omega (arith, ap turn₂ e, v.here) | inr e ↦ omega (arith, v.others k e, s.top k) ];
    order = λ j k a b. elim (eq? j at) [
      | inl e ↦ rw e (least k (was k b))
      | inr e ↦ s.order j k (omega (arith, v.others j e)) (was k b)
    ];
    last = λ j k a b. elim (eq? k at) [
      | inr e ↦ absurd (omega (arith, v.others k e, s.top k))
      | inl e ↦ rw e (elim (eq? j at) [ inl f ↦ rw f (omega arith) | inr f ↦ s.order j at (omega (arith, v.others j f)) fresh ])
    ];
    near = λ i k l b a c. elim (eq? (x i) at) [
      | inl e ↦ absurd (elim c [ inl f ↦ omega (arith, ap turn₂ e, v.here) | inr f ↦ omega arith ])
      | inr e ↦ s.near i k l b (omega (arith, v.others (x i) e)) (inr (omega arith))
    ];
  }
    where
      old : (k : ℕ) → 0 < turn k → turn₂ k ≡ turn k
      old k some = v.others k (λ e. omega (arith, ap turn e))

      was : (k : ℕ) → turn₂ k ≡ 0 → turn k ≡ 0
      was k none = elim (eq? k at) [ inl e ↦ ap turn e ∙ fresh | inr e ↦ sym (v.others k e) ∙ none ]

module _ {d : Instance} {x p root dist turn via : ℕ → ℕ} {z t m : ℕ} (s : Near d x p root dist turn via z t (m + 1)) where
  -- flight m does not land in the last period reached
  pub near_pass : turn (x m) ≢ t → Near d x p root dist turn via z t m
  near_pass away = record {
    settled = s.settled;
    low = s.low;
    how = s.how;
    top = s.top;
    order = s.order;
    last = s.last;
    near = λ i k l b a c. s.near i k l b a (elim c [
      | inl f ↦ inl f
      | inr f ↦ elim (eq? i m) [ inl e ↦ inl (rw e (omega (arith, s.top (x m)))) | inr e ↦ inr (omega arith) ]
    ]);
  }

  -- it lands there, and offers the periods of its window
  module _ {dist₂ via₂ : ℕ → ℕ} {hi from base : ℕ} (l : m < d.n) (some : 0 < t) (here : turn (x m) ≡ t) (to : hi ≡ d.hi m)
      (from_is : from ≡ dist (x m)) (base_is : base ≡ d.cost m (x m) + p (x m))
      (o : Offered (d.lo m) hi (λ k. d.cost m k + p k) m from base (dist z) dist dist₂ via via₂) where
    -- a reached period is no farther than the last, and flight m pays least where it lands
    own : (k : ℕ) → Took (d.lo m) hi (λ k. d.cost m k + p k) m from base dist dist₂ via₂ k → base ≤ d.cost m k + p k
    own k c = omega (arith, s.settled.best m k l (record { from = c.from_lo; to = omega (arith, c.to_hi) }), base_is)

    -- what comes nearer is not reached
    fresh : (k : ℕ) → Took (d.lo m) hi (λ k. d.cost m k + p k) m from base dist dist₂ via₂ k → turn k ≡ 0
    fresh k c = elim (lt? 0 (turn k)) [
      | inl q ↦ absurd (omega (arith, c.less, own k c, s.last k (x m) q here, from_is))
      | inr q ↦ omega arith
    ]

    pub offer_kept : (j : ℕ) → 0 < turn j → dist₂ j ≡ dist j
    offer_kept j q = elim (o j) [ inl c ↦ absurd (omega (arith, fresh j c)) | inr e ↦ e.far ]

    pub offer_falls : (k : ℕ) → dist₂ k ≤ dist k
    offer_falls k = elim (o k) [ inl c ↦ omega (arith, c.less, c.far) | inr e ↦ omega (arith, e.far) ]

    reaches : (k : ℕ) → In d m k → min (dist₂ k) (dist₂ z) + base ≤ from + (d.cost m k + p k)
    reaches k w = elim (o k) [
      | inl c ↦ omega (arith, c.far)
      | inr e ↦ omega (arith, e.far, offer_falls z, e.no_nearer w.from (omega (arith, w.to)))
    ]

    pub near_offer : Near d x p root dist₂ turn via₂ z t m
    near_offer = record {
      settled = s.settled;
      low = λ k. omega (arith, offer_falls k, s.low k);
      how = λ k. elim (o k) [
        | inl c ↦ rw c.by (inr (record {
          who = l;
          fits = record { from = c.from_lo; to = omega (arith, c.to_hi) };
          from = omega (arith, here);
          lower = λ q. absurd (omega (arith, fresh k c));
          far = omega (arith, c.far, from_is, base_is, offer_kept (x m) (omega (arith, here)));
        }))
        | inr e ↦ rw e.by (elim (s.how k) [
          | inl f ↦ inl (e.far ∙ f.0, f.1)
          | inr a ↦ inr (record {
            who = a.who;
            fits = a.fits;
            from = a.from;
            lower = a.lower;
            far = omega (arith, e.far, offer_kept (x (via k)) a.from, a.far);
          })
        ])
      ];
      top = s.top;
      order = λ j k q r. elim (o k) [
        | inl c ↦ omega (arith, c.far, own k c, offer_kept j q, s.last j (x m) q here, from_is)
        | inr e ↦ omega (arith, e.far, offer_kept j q, s.order j k q r)
      ];
      last = λ j k q r. omega (arith, offer_kept j q, offer_kept k (omega arith), s.last j k q r);
      near = λ i k b w q f. elim (eq? i m) [
        | inl e ↦ rw e (omega (arith, reaches k (rw e at w), from_is, base_is, offer_kept (x m) (omega (arith, here))))
        | inr e ↦ omega (
          arith,
          offer_falls k,
          offer_falls z,
          offer_kept (x i) q,
          s.near i k b w q (elim f [ inl g ↦ inl g | inr g ↦ inr (omega arith) ]),
        )
      ];
    }
