-- A new flight is inserted: its place is found by distance, prices rise once, and the flights on the way move by one place each.
-- Every price is held up before and after, so none is above the total.
-- Assumes nothing.
use mathlib.Core.Path.{◌≡◌, refl, sym, ap, ◌∙◌}
use mathlib.Core.Logic.{◌⊎◌, inl, inr, ◌≢◌}
use Prim.Native.Nat.{ℕ, suc, ◌+◌, ◌-◌, ◌≤◌, ◌<◌}
use native.Mathlib.Omega.{arith}
use lib.Dec.{ltb, eqb}
use Rattle.assignment.specs.Sum.{gate, sum, count}
use Rattle.assignment.specs.Assignment.{Instance, In, total, Accepted}
use Rattle.assignment.specs.Moves.{Settled, Moved, put}
use Rattle.assignment.specs.Instances.{grown}
use Rattle.assignment.specs.Search.{Near}
use Rattle.assignment.specs.Insertion.{Link, Sound, Root, Hop, Tree, Firm, Going}
use Rattle.assignment.proofs.Tests.{gate_eq, gate_ne, gate_lt, gate_ge, lt?, eq?}
use Rattle.assignment.proofs.Sums.{count_suc, count_ext, count_zero, sum_ext}
use Rattle.assignment.proofs.Moves.{moved_count, moved_total, moved_settled, put_moved}

-- ---- the walk back from z: `at` is to take the next flight

-- The proof on paper. A hole goes from z back along `via`. At each step the flight that `via` names for the hole's period moves into it, and
-- the hole is where it came from. It pays the same in both, so that every flight still pays least where it lands, and the total changes by
-- the two prices. The order falls with each step, so the walk ends, and it ends where `via` names the new flight, which pays u there.
-- Every price stays held up: the periods walked over get their heights by the steps from z, whose price is 0, below all others. So a period
-- that a flight has left is held up by that flight, from the period to which it moved, one step nearer to z; and whoever held up another
-- period from one walked over holds it up from where he is now.
pub going_start : {d : Instance} {x q order via : ℕ → ℕ} {u z : ℕ} → Settled d x q → q z ≡ 0
    → ((k : ℕ) → order k ≤ order z → Tree d x q order via u k)
    → ((k : ℕ) → (q k ≡ 0) ⊎ Root d q u k ⊎ Link d x q order k)
    → Going d x x q order via u z z
going_start {d} {x} {q} {order} {via} {u} {z} s none tree chain = record {
  settled = s;
  counts = λ j. refl;
  costs = refl;
  tree = tree;
  height = height₁;
  low = omega (arith, v.here);
  apart = λ k b. elim (eq? k z) [ inl e ↦ rw e (omega arith) | inr e ↦ absurd (omega (arith, v.others k e)) ];
  held = λ k. elim (eq? k z) [
    | inl e ↦ inl (ap q e ∙ none)
    | inr e ↦ elim (chain k) [
      | inl f ↦ inl f
      | inr f ↦ inr (elim f [
        | inl r ↦ inl (r, omega (arith, v.others k e))
        | inr a ↦ inr (record {
          link = record { by = a.by; who = a.who; fits = a.fits; tie = a.tie; lower = less a k e };
          apart = λ b. absurd (omega (arith, v.others k e));
        })
      ])
    ]
  ];
}
  where
    height₀ : ℕ → ℕ
    height₀ k = suc (order z) + order k

    height₁ : ℕ → ℕ
    height₁ = put height₀ z 0

    v : Moved height₀ height₁ z 0
    v = put_moved height₀ z 0

    less : {k : ℕ} (a : Link d x q order k) (j : ℕ) → k ≢ z → height₁ (x a.by) < height₁ k
    less {k} a j e = elim (eq? (x a.by) z) [
      | inl f ↦ omega (arith, ap height₁ f, v.here, v.others k e)
      | inr f ↦ omega (arith, v.others (x a.by) f, v.others k e, a.lower)
    ]

module _ {d : Instance} {x₀ x q order via : ℕ → ℕ} {u z at : ℕ} (s : Going d x₀ x q order via u z at) where
  hop : via at ≢ d.n → Hop d x q order at (via at)
  hop e = elim (s.tree at (omega arith)) [ inl r ↦ absurd (e r.0) | inr a ↦ a ]

  pub going_step : {y : ℕ → ℕ} → via at ≢ d.n → Moved x y (via at) at → Going d x₀ y q order via u z (x (via at))
  going_step {y} new v = record {
    settled = moved_settled d v a.who a.fits a.tie s.settled;
    counts = λ l. omega (arith, s.counts l, moved_count d v a.who l);
    costs = omega (arith, s.costs, moved_total d v a.who, a.tie);
    tree = λ k b. elim (s.tree k (omega (arith, a.lower))) [
      | inl r ↦ inl r
      | inr o ↦
          let same = v.others (via k) (λ e. omega (arith, o.lower, ap (λ l. order (x l)) e)) in
          inr (record { who = o.who; fits = o.fits; lower = rw same o.lower; tie = rw same o.tie })
    ];
    height = height₂;
    low = omega (arith, r.here, s.low, a.lower);
    apart = λ k b. elim (eq? k j) [ inl e ↦ rw e (omega arith) | inr e ↦ omega (arith, a.lower, s.apart k (omega (arith, r.others k e))) ];
    held = λ k. elim (eq? k j) [
      | inl e ↦ rw e (inr (inr (record {
        link = record {
          by = i;
          who = a.who;
          fits = s.settled.window i a.who;
          lower = rw v.here (omega (arith, r.here, r.others at (λ f. omega (arith, a.lower, ap order f))));
          tie = rw v.here (sym a.tie);
        };
        apart = λ b. rw v.here (omega (arith, a.lower));
      })))
      | inr e ↦ elim (s.held k) [
        | inl f ↦ inl f
        | inr f ↦ inr (elim f [
          | inl g ↦ inl (g.0, omega (arith, g.1, r.others k e))
          | inr g ↦ inr (elim (eq? g.link.by i) [ inl h ↦ moved_firm k e g h | inr h ↦ kept_firm k e g h ])
        ])
      ]
    ];
  }
    where
      i : ℕ
      i = via at

      j : ℕ
      j = x (via at)

      a : Hop d x q order at i
      a = hop new

      height₂ : ℕ → ℕ
      height₂ = put s.height j (suc (s.height at))

      r : Moved s.height height₂ j (suc (s.height at))
      r = put_moved s.height j (suc (s.height at))

      away : at ≢ j
      away f = omega (arith, a.lower, ap order f)

      -- k was not walked over
      ahead : (k : ℕ) (g : Firm d x q order s.height z at k) → (order (x g.link.by) ≤ order j) → order z < s.height k
      ahead k g low = elim (lt? (order z) (s.height k)) [ inl b ↦ b | inr b ↦ absurd (omega (arith, g.apart b, a.lower)) ]

      -- held up by the flight that moves
      moved_firm : (k : ℕ) → k ≢ j → (g : Firm d x q order s.height z at k) → g.link.by ≡ i → Firm d y q order height₂ z j k
      moved_firm k e g h =
          let far = ahead k g (rw h (omega arith)) in
          record {
            link = record {
              by = i;
              who = a.who;
              fits = rw h at g.link.fits;
              lower = rw v.here (omega (arith, r.others at away, r.others k e, s.low));
              tie = rw v.here (rw h at g.link.tie ∙ sym a.tie);
            };
            apart = λ b. absurd (omega (arith, r.others k e));
          }

      -- by one that stays
      kept_firm : (k : ℕ) → k ≢ j → (g : Firm d x q order s.height z at k) → g.link.by ≢ i → Firm d y q order height₂ z j k
      kept_firm k e g h =
          let same = v.others g.link.by h in
          record {
            link = record {
              by = g.link.by;
              who = g.link.who;
              fits = g.link.fits;
              lower = rw same (elim (eq? (x g.link.by) j) [
                | inl f ↦ omega (arith, ap height₂ f, r.here, r.others k e, ahead k g (omega (arith, ap order f)), s.low, a.lower)
                | inr f ↦ omega (arith, r.others (x g.link.by) f, r.others k e, g.link.lower)
              ]);
              tie = rw same g.link.tie;
            };
            apart = λ b. rw same (omega (arith, a.lower, g.apart (omega (arith, r.others k e))));
          }

-- what the end of the walk asks of its start
pub record Ground (d : Instance) (x q : ℕ → ℕ) (u z : ℕ) : Type 0 where
  pub room : (k : ℕ) → count d.n x k ≤ d.cap k
  pub unsold : (k : ℕ) → count d.n x k < d.cap k → q k ≡ 0
  pub free : count d.n x z < d.cap z
  pub level : (k : ℕ) → In d d.n k → u ≤ d.cost d.n k + q k

grow_in : {d : Instance} {i k : ℕ} → In d i k → In (grown d) i k
grow_in w = record { from = w.from; to = w.to }

thin_in : {d : Instance} {i k : ℕ} → In (grown d) i k → In d i k
thin_in w = record { from = w.from; to = w.to }

-- The new flight takes the last place, at cost and price u, which is least in its window. All landings are as before, but for one more in z,
-- which had room. Periods that the new flight could have taken at u are held up by it.
module _ {d : Instance} {x₀ x y q order via : ℕ → ℕ} {u z at : ℕ} (s : Going d x₀ x q order via u z at) (g : Ground d x₀ q u z)
    (new : via at ≡ d.n) (v : Moved x y d.n at) where
  root : Root d q u at
  root = elim (s.tree at (omega arith)) [ inl r ↦ r.1 | inr a ↦ absurd (omega (arith, a.who)) ]

  old : (i : ℕ) → i < d.n → y i ≡ x i
  old i l = v.others i (omega arith)

  pub going_count : (j : ℕ) → count (suc d.n) y j ≡ count d.n x₀ j + gate (eqb z j) 1
  going_count j = omega (arith, count_suc d.n y j, ap (λ k. gate (eqb k j) 1) v.here, count_ext d.n x y old j, s.counts j)

  at_z : (j : ℕ) → gate (eqb z j) 1 + count d.n x₀ j ≤ d.cap j
  at_z j = elim (eq? z j) [
    | inl e ↦ rw (← e) (omega (arith, gate_eq z z 1 refl, g.free))
    | inr e ↦ omega (arith, gate_ne z j 1 e, g.room j)
  ]

  pub going_accepted : Accepted (grown d) y q
  going_accepted = record {
    legal = record {
      window = λ i l. elim (eq? i d.n) [
        | inl e ↦ rw (e, v.here) (grow_in root.fits)
        | inr e ↦ rw (old i (omega arith)) (grow_in (s.settled.window i (omega arith)))
      ];
      room = λ j. omega (arith, going_count j, at_z j);
    };
    unsold = λ j free. g.unsold j (omega (arith, going_count j));
    best = λ i k l w. elim (eq? i d.n) [
      | inl e ↦ rw (e, v.here) (omega (arith, root.pays, g.level k (thin_in (rw e at w))))
      | inr e ↦ rw (old i (omega arith)) (s.settled.best i k (omega arith) (thin_in w))
    ];
  }

  pub going_end : Sound (grown d) y q
  going_end = record {
    accepted = going_accepted;
    height = s.height;
    held = λ k. elim (s.held k) [
      | inl e ↦ inl e
      | inr f ↦ inr (elim f [
        | inl r ↦ record {
          by = d.n;
          who = omega arith;
          fits = grow_in r.0.fits;
          lower = rw v.here (omega (arith, r.1, s.low));
          tie = rw v.here (r.0.pays ∙ sym root.pays);
        }
        | inr a ↦ let b = a.link in let same = old b.by b.who in record {
          by = b.by;
          who = omega (arith, b.who);
          fits = grow_in b.fits;
          lower = rw same b.lower;
          tie = rw same b.tie;
        }
      ])
    ];
  }

  pub going_total : q z ≡ 0 → total (grown d) y ≡ total d x₀ + u
  unfolding total sum
  going_total none = omega (
    arith,
    s.costs,
    root.pays,
    ap (d.cost d.n) v.here,
    sum_ext d.n (λ i. d.cost i (y i)) (λ i. d.cost i (x i)) (λ i l. ap (d.cost i) (old i l)),
  )

-- ---- the raise

-- the search has come to z, the nearest period that is not reached, and z has room
pub record Found (d : Instance) (x p root dist turn via : ℕ → ℕ) (t u z : ℕ) : Type 0 where
  pub near : Near d x p root dist turn via z t 0
  pub fresh : turn z ≡ 0
  pub here : dist z ≡ u
  pub least : (k : ℕ) → turn k ≡ 0 → u ≤ dist k
  pub free : count d.n x z < d.cap z
  pub full : (k : ℕ) → 0 < turn k → d.cap k ≤ count d.n x k
  pub rooted : (k : ℕ) → root k ≤ u → In d d.n k × (root k ≡ d.cost d.n k + p k)
  pub reach : (k : ℕ) → In d d.n k → root k ≤ d.cost d.n k + p k

-- The proof on paper. Each period nearer than z is raised by what it is nearer. A flight that lands in a reached period j is no nearer to k by
-- its offer than k is, so what it pays rises in j by no more than in k, or k is as far as z and does not rise. One that lands elsewhere has
-- its price unchanged, and no price falls. So every flight still pays least. A period with room was not reached and keeps price 0, z among
-- them. What was offered is now a tie: along `via` each flight pays the same in both periods, and the new flight pays u.
-- Held up: a period no farther than z by its tie along `via`; a farther one as before, and not from a period that rose, since then it would
-- be nearer. The order of the walk puts the periods as they were reached first, then those as far as z, then the rest by their heights.
module _ {d : Instance} {x p q root dist turn via : ℕ → ℕ} {t u z : ℕ} (f : Found d x p root dist turn via t u z) (s : Sound d x p)
    (rise : (k : ℕ) → q k ≡ p k + (u - dist k)) where
  close : (k : ℕ) → 0 < turn k → dist k ≤ u
  close k some = omega (arith, f.near.order k z some f.fresh, f.here)

  far_off : (k : ℕ) → turn k ≡ 0 → q k ≡ p k
  far_off k none = omega (arith, rise k, f.least k none)

  rise_settled : Settled d x q
  rise_settled = record {
    window = s.accepted.legal.window;
    best = λ i k l b. elim (lt? 0 (turn (x i))) [
      | inl some ↦ omega (arith, f.near.near i k l b some (inr (omega arith)), rise k, rise (x i), close (x i) some, f.here)
      | inr none ↦ omega (arith, s.accepted.best i k l b, rise k, far_off (x i) (omega arith))
    ];
  }

  pub z_free : q z ≡ 0
  z_free = far_off z f.fresh ∙ s.accepted.unsold z f.free

  pub ground : Ground d x q u z
  ground = record {
    room = s.accepted.legal.room;
    free = f.free;
    unsold = λ k less. elim (lt? 0 (turn k)) [
      | inl some ↦ absurd (omega (arith, f.full k some))
      | inr none ↦ far_off k (omega arith) ∙ s.accepted.unsold k less
    ];
    level = λ k b. omega (arith, rise k, f.reach k b, f.near.low k);
  }

  -- the order of the walk: as reached, then what is as far as z, then the rest as it is held up
  unfoldable pub order : ℕ → ℕ
  order k = gate (ltb u (dist k)) (suc (suc t) + s.height k) + gate (ltb (dist k) (suc u)) (turn k + gate (ltb (turn k) 1) (suc t))

  order_reached : (k : ℕ) → 0 < turn k → order k ≡ turn k
  unfolding order
  order_reached k some = omega (
    arith,
    close k some,
    gate_ge u (dist k) (suc (suc t) + s.height k) (close k some),
    gate_lt (dist k) (suc u) (turn k + gate (ltb (turn k) 1) (suc t)) (omega (arith, close k some)),
    gate_ge (turn k) 1 (suc t) some,
  )

  order_next : (k : ℕ) → turn k ≡ 0 → dist k ≤ u → order k ≡ suc t
  unfolding order
  order_next k none b = omega (
    arith,
    gate_ge u (dist k) (suc (suc t) + s.height k) b,
    gate_lt (dist k) (suc u) (turn k + gate (ltb (turn k) 1) (suc t)) (omega arith),
    gate_lt (turn k) 1 (suc t) (omega arith),
  )

  order_rest : (k : ℕ) → u < dist k → order k ≡ suc (suc t) + s.height k
  unfolding order
  order_rest k b = omega (
    arith,
    gate_lt u (dist k) (suc (suc t) + s.height k) b,
    gate_ge (dist k) (suc u) (turn k + gate (ltb (turn k) 1) (suc t)) b,
  )

  order_le : (k : ℕ) → dist k ≤ u → order k ≤ suc t
  order_le k b = elim (lt? 0 (turn k)) [
    | inl some ↦ omega (arith, order_reached k some, f.near.top k)
    | inr none ↦ omega (arith, order_next k (omega arith) b)
  ]

  tree : (k : ℕ) → dist k ≤ u → Tree d x q order via u k
  tree k b = elim (f.near.how k) [
    | inl e ↦
        let r = f.rooted k (omega (arith, e.0)) in
        inl (e.1 r.0 r.1, record { fits = r.0; pays = omega (arith, r.1, e.0, rise k) })
    | inr a ↦
        let i = via k in
        inr (record {
          who = a.who;
          fits = a.fits;
          lower = elim (lt? 0 (turn k)) [
            | inl some ↦ omega (arith, order_reached k some, order_reached (x i) a.from, a.lower some)
            | inr none ↦ omega (arith, order_next k (omega arith) b, order_reached (x i) a.from, f.near.top (x i))
          ];
          tie = omega (arith, a.far, rise k, rise (x i), close (x i) a.from);
        })
  ]

  chain : (k : ℕ) → (q k ≡ 0) ⊎ Root d q u k ⊎ Link d x q order k
  chain k = elim (lt? u (dist k)) [
    | inr b ↦ inr (elim (tree k b) [
      | inl r ↦ inl r.1
      | inr a ↦ inr (record { by = via k; who = a.who; fits = a.fits; lower = a.lower; tie = a.tie })
    ])
    | inl b ↦ elim (s.held k) [
      | inl e ↦ inl (omega (arith, rise k))
      | inr a ↦ inr (inr (rest k b a (not_near k b a)))
    ]
  ]
    where
      -- a price that does not rise is not held up by one that does
      not_near : (k : ℕ) → u < dist k → (a : Link d x p s.height k) → u ≤ dist (x a.by)
      not_near k b a = elim (lt? 0 (turn (x a.by))) [
        | inl some ↦ omega (arith, f.near.near a.by k a.who a.fits some (inr (omega arith)), a.tie, f.here)
        | inr none ↦ f.least (x a.by) (omega arith)
      ]

      rest : (k : ℕ) → u < dist k → (a : Link d x p s.height k) → u ≤ dist (x a.by) → Link d x q order k
      rest k b a c = record {
        by = a.by;
        who = a.who;
        fits = a.fits;
        tie = omega (arith, a.tie, rise k, rise (x a.by));
        lower = elim (lt? u (dist (x a.by))) [
          | inl e ↦ omega (arith, order_rest k b, order_rest (x a.by) e, a.lower)
          | inr e ↦ omega (arith, order_rest k b, order_le (x a.by) e)
        ];
      }

  -- the start of the walk back
  pub going : Going d x x q order via u z z
  going = going_start rise_settled z_free (λ k b. tree k (near_z k b)) chain
    where
      near_z : (k : ℕ) → order k ≤ order z → dist k ≤ u
      near_z k b = elim (lt? u (dist k)) [
        | inr e ↦ e
        | inl e ↦ absurd (omega (arith, order_rest k e, order_le z (omega (arith, f.here))))
      ]

-- no flights yet, and no prices
pub sound_start : {d : Instance} {x q : ℕ → ℕ} → d.n ≡ 0 → ((k : ℕ) → q k ≡ 0) → Sound d x q
sound_start {d} {x} {q} empty none = record {
  accepted = record {
    legal = record {
      window = λ i l. absurd (omega arith);
      room = λ k. omega (arith, ap (λ n. count n x k) empty, count_zero x k);
    };
    unsold = λ k _. none k;
    best = λ i k l w. absurd (omega arith);
  };
  height = λ _. 0;
  held = λ k. inl (none k);
}
