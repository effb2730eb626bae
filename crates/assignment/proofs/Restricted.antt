-- The search for a place for a new flight need look no farther than the first period f that has room. Costs rise along a window and the
-- price of f is 0, so whoever may land in f lands no later; and if nobody gains by going to f, nobody gains by going beyond it.
-- Assumes nothing.
use mathlib.Core.Path.{◌≡◌, ap}
use mathlib.Core.Logic.{◌⊎◌, inl, inr}
use mathlib.Core.Bool.{◌&&◌}
use Prim.Native.Nat.{ℕ, ◌+◌, ◌≤◌, ◌<◌, min}
use native.Mathlib.Omega.{arith}
use lib.Dec.{T, leb, leb→le, le→leb, not_T}
use Rattle.assignment.specs.Sum.{gate}
use Rattle.assignment.specs.Assignment.{Instance, In, must_land, room, Short}
use Rattle.assignment.specs.Instances.{until, until_le, restricted}
use Rattle.assignment.specs.Insertion.{Sound}
use Rattle.assignment.proofs.Tests.{lt?, cond_on, cond_off, gate_on, gate_le, and_t, T_and}
use Rattle.assignment.proofs.Sums.{sum_le}

-- a later landing costs more than one in an open period
pub record Rising (d : Instance) : Type 0 where
  pub dearer : (i j k : ℕ) → i < d.n → In d i j → In d i k → 0 < d.cap j → j < k → d.cost i j < d.cost i k

pub until_near : {f lo : ℕ} (hi : ℕ) → lo ≤ f → until f lo hi ≡ min hi f
unfolding until
until_near {f} {lo} hi l = ap (min hi) (cond_on (leb lo f) f hi (le→leb lo f l))

until_far : {f lo : ℕ} (hi : ℕ) → f < lo → until f lo hi ≡ hi
unfolding until
until_far {f} {lo} hi l = omega (arith, cond_off (leb lo f) f hi (not_T (leb lo f) (λ t. omega (arith, leb→le lo f t))))

module _ (d : Instance) (f : ℕ) where
  pub wider_in : {i k : ℕ} → In (restricted d f) i k → In d i k
  wider_in {i} {k} w = record { from = w.from; to = omega (arith, w.to, until_le f (d.lo i) (d.hi i)) }

  -- beyond f, the old window has f itself
  pub stay_in : {i k : ℕ} → In d i k → In (restricted d f) i k ⊎ (In (restricted d f) i f × (f < k))
  stay_in {i} {k} w = elim (lt? f (d.lo i)) [
    | inl a ↦ inl (record { from = w.from; to = omega (arith, w.to, until_far (d.hi i) a) })
    | inr a ↦ elim (lt? f k) [
      | inl b ↦ inr (record { from = a; to = omega (arith, w.to, until_near (d.hi i) a) }, b)
      | inr b ↦ inl (record { from = w.from; to = omega (arith, w.to, until_near (d.hi i) a) })
    ]
  ]

  module _ {x p : ℕ → ℕ} (rise : Rising d) (some : 0 < d.cap f) (free : p f ≡ 0) (s : Sound d x p) where
    -- The proof on paper. A flight that may land in f pays no more where it lands than f costs it, since the price of f is 0, and f costs it
    -- less than any later period. So it neither lands beyond f nor holds up a price there, and its window may as well end at f.
    -- nobody pays as much as beyond f
    less : (i k : ℕ) → i < d.n → In d i k → In (restricted d f) i f → f < k → d.cost i (x i) + p (x i) < d.cost i k
    less i k l w v b = omega (arith, s.accepted.best i f l (wider_in v), rise.dearer i f k l (wider_in v) w some b)

    fits : (i k : ℕ) → i < d.n → In d i k → d.cost i k + p k ≤ d.cost i (x i) + p (x i) → In (restricted d f) i k
    fits i k l w best = elim (stay_in w) [ inl a ↦ a | inr a ↦ absurd (omega (arith, less i k l w a.0 a.1)) ]

    pub restrict : Sound (restricted d f) x p
    restrict = record {
      accepted = record {
        legal = record {
          window = λ i l. fits i (x i) l (s.accepted.legal.window i l) (omega arith);
          room = s.accepted.legal.room;
        };
        unsold = s.accepted.unsold;
        best = λ i k l w. s.accepted.best i k l (wider_in w);
      };
      height = s.height;
      held = λ k. elim (s.held k) [
        | inl e ↦ inl e
        | inr a ↦ inr (record {
          by = a.by;
          who = a.who;
          fits = fits a.by k a.who a.fits (omega (arith, a.tie));
          lower = a.lower;
          tie = a.tie;
        })
      ];
    }

  -- and back: beyond f a landing costs more than in f, and in f the flight would pay no less than where it lands
  pub widen : {x p : ℕ → ℕ} → Rising d → 0 < d.cap f → p f ≡ 0 → Sound (restricted d f) x p → Sound d x p
  widen {x} {p} rise some free s = record {
    accepted = record {
      legal = record { window = λ i l. wider_in (s.accepted.legal.window i l); room = s.accepted.legal.room };
      unsold = s.accepted.unsold;
      best = λ i k l w. elim (stay_in w) [
        | inl a ↦ s.accepted.best i k l a
        | inr a ↦ omega (arith, s.accepted.best i f l a.0, rise.dearer i f k l (wider_in a.0) w some a.1)
      ];
    };
    height = s.height;
    held = λ k. elim (s.held k) [
      | inl e ↦ inl e
      | inr a ↦ inr (record { by = a.by; who = a.who; fits = wider_in a.fits; lower = a.lower; tie = a.tie })
    ];
  }

  -- a stretch before f is as short as it was
  pub widen_short : {a b : ℕ} → b < f → Short (restricted d f) a b → Short d a b
  unfolding room must_land
  widen_short {a} {b} l s = record {
    short = omega (
      arith,
      s.short,
      sum_le d.n (λ i. gate (leb a (d.lo i) && leb (until f (d.lo i) (d.hi i)) b) 1) (λ i. gate (leb a (d.lo i) && leb (d.hi i) b) 1)
          (λ i _. gate_le (leb a (d.lo i) && leb (until f (d.lo i) (d.hi i)) b) 1 _ (λ t. same i (and_t (leb a (d.lo i)) _ t))),
    );
  }
    where
      high : (i : ℕ) → until f (d.lo i) (d.hi i) ≤ b → d.hi i ≤ b
      high i h = elim (lt? f (d.lo i)) [
        | inl c ↦ omega (arith, until_far (d.hi i) c)
        | inr c ↦ omega (arith, until_near (d.hi i) c)
      ]

      same : (i : ℕ) → T (leb a (d.lo i)) × T (leb (until f (d.lo i) (d.hi i)) b) → 1 ≤ gate (leb a (d.lo i) && leb (d.hi i) b) 1
      same i t = omega (
        arith,
        gate_on (leb a (d.lo i) && leb (d.hi i) b) 1 (T_and (leb a (d.lo i)) (leb (d.hi i) b) t.0
            (le→leb (d.hi i) b (high i (leb→le (until f (d.lo i) (d.hi i)) b t.1)))),
      )
