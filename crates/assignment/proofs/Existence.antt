-- A legal plan exists, or a stretch is short.
-- Assumes nothing.
use mathlib.Core.Path.{◌≡◌, refl, ap, ◌∙◌}
use mathlib.Core.Logic.{◌⊎◌, inl, inr, ◌≢◌}
use mathlib.Core.Bool.{Bool, ◌&&◌}
use Prim.Native.Nat.{ℕ, zero, suc, ◌+◌, ◌≤◌, ◌<◌}
use native.Mathlib.Omega.{arith}
use lib.Dec.{T, leb, eqb, leb→le, le→leb}
use Rattle.assignment.specs.Sum.{gate, sum, count}
use Rattle.assignment.specs.Assignment.{Instance, In, Plan, Legal, must_land, room, Short}
use Rattle.assignment.specs.Moves.{Moved, put}
use Rattle.assignment.specs.Instances.{grown}
use Rattle.assignment.proofs.Tests.{gate_eq, gate_ne, and_t, T_and, lt?, eq?}
use Rattle.assignment.proofs.Sums.{count_ext, count_suc, count_zero}
use Rattle.assignment.proofs.Moves.{moved_count, moved_window, put_moved}
use Rattle.assignment.proofs.Stuck.{Stuck, ShortIn, stuck_is_short}

pub record HasPlan (d : Instance) : Type 0 where
  pub plan : Plan
  pub legal : Legal d plan

pub record HasShort (d : Instance) : Type 0 where
  pub a : ℕ
  pub b : ℕ
  pub from : 1 ≤ a
  pub stretch : a ≤ b
  pub to : b < d.m
  pub short : Short d a b

-- no window is empty, and none begins before period 1
pub record Proper (d : Instance) : Type 0 where
  pub from : (i : ℕ) → i < d.n → 1 ≤ d.lo i
  pub some : (i : ℕ) → i < d.n → d.lo i ≤ d.hi i

-- The proof on paper. Flights are added one by one; here is the step. Let x be the plan so far with the new flight in the first period c of
-- its window: c may have one landing too many, no other period has. If c has not, x is legal. Else start from the stretch c .. c and let
-- it grow. Of each stretch a .. b on the way two things hold. It is full. It is open: if any flight that lands in it can go to a period
-- that has room, a legal plan exists; for c .. c, because c is then rid of its extra landing.
-- Look for a flight i that lands in a .. b and may land beyond, so in p = a - 1 or p = b + 1.
-- * There is one and p has room: a .. b is open, so a legal plan exists.
-- * There is one and p is full: the stretch with p is full, and it is open. For let a flight that lands in p go to a period that has room.
--   Then p has room, flight i still lands in a .. b and can go to p, and a .. b is open.
-- * There is none: all who land in a .. b must land there, the new flight among them, and a .. b is full, so a stretch is short.
-- "Open" is said of every plan in which those who land in a .. b stand as in x; so a flight that was moved from p does no harm.
module _ (d : Instance) (x : Plan) (c : ℕ) where
  -- y keeps the windows, and no period has too many landings, but c at most one
  record Nearly (y : Plan) : Type 0 where
    window : (i : ℕ) → i < suc d.n → In (grown d) i (y i)
    room : (k : ℕ) → count (suc d.n) y k ≤ d.cap k + gate (eqb c k) 1

  -- flight i goes to k, which has room
  module _ {y : Plan} (s : Nearly y) (i k : ℕ) (l : i < suc d.n) (w : In (grown d) i k) (free : count (suc d.n) y k < d.cap k) where
    moved_room : (j : ℕ) → count (suc d.n) (put y i k) j + gate (eqb (y i) j) 1 ≤ d.cap j + gate (eqb c j) 1
    moved_room j =
        let counts = moved_count (grown d) (put_moved y i k) l j in
        elim (eq? k j) [
          | inl e ↦ omega (arith, gate_eq k j 1 e, rw e at free)
          | inr e ↦ omega (arith, gate_ne k j 1 e, s.room j)
        ]

    window : (o : ℕ) → o < suc d.n → In (grown d) o (put y i k o)
    window = moved_window (grown d) (put_moved y i k) l w s.window

    moved_nearly : Nearly (put y i k)
    moved_nearly = record { window = window; room = λ j. omega (arith, moved_room j) }

    -- from c
    moved_plan : y i ≡ c → HasPlan (grown d)
    moved_plan e = record {
      plan = put y i k;
      legal = record { window = window; room = λ j. omega (arith, moved_room j, ap (λ o. gate (eqb o j) 1) e) };
    }

    -- from another period, which has room then
    moved_free : (p : ℕ) → y i ≡ p → c ≢ p → count (suc d.n) (put y i k) p < d.cap p
    moved_free p e o = omega (arith, moved_room p, gate_eq (y i) p 1 e, gate_ne c p 1 o)

  -- if one of those who land in a .. b can go to a period k that has room, a legal plan exists
  abbrev Open : ℕ → ℕ → Type 0
  Open a b = (y : Plan) → Nearly y → ((o : ℕ) → a ≤ x o → x o ≤ b → y o ≡ x o)
      → (i k : ℕ) → i < suc d.n → a ≤ x i → x i ≤ b → In (grown d) i k → count (suc d.n) y k < d.cap k → HasPlan (grown d)

  record Growing (a b : ℕ) : Type 0 where
    low : a ≤ c
    high : c ≤ b
    from : 1 ≤ a
    to : b < d.m
    full : (k : ℕ) → a ≤ k → k ≤ b → d.cap k + gate (eqb c k) 1 ≤ count (suc d.n) x k
    opened : Open a b

  -- a flight that lands in a .. b, and may land beyond
  record Leaver (a b : ℕ) : Type 0 where
    i : ℕ
    who : i < suc d.n
    from : a ≤ x i
    to : x i ≤ b
    beyond : (d.lo i < a) ⊎ (b < d.hi i)

  -- none of the first n flights is such
  abbrev Closed : ℕ → ℕ → ℕ → Type 0
  Closed a b n = (i : ℕ) → i < n → a ≤ x i → x i ≤ b → (a ≤ d.lo i) × (d.hi i ≤ b)

  leaver : (a b n : ℕ) → n ≤ suc d.n → Leaver a b ⊎ Closed a b n
  leaver a b zero h = inr (λ i l. absurd (omega arith))
  leaver a b (suc n) h = elim (leaver a b n (omega arith)) [
    | inl f ↦ inl f
    | inr rest ↦ elim one [
      | inl f ↦ inl f
      | inr stays ↦ inr (λ i l. elim (eq? i n) [ inl e ↦ rw e stays | inr e ↦ rest i (omega arith) ])
    ]
  ]
    where
      one : Leaver a b ⊎ (a ≤ x n → x n ≤ b → (a ≤ d.lo n) × (d.hi n ≤ b))
      one = elim (lt? (x n) a) [
        | inl away ↦ inr (λ l m. absurd (omega arith))
        | inr from ↦ elim (lt? b (x n)) [
          | inl away ↦ inr (λ l m. absurd (omega arith))
          | inr to ↦ elim (lt? (d.lo n) a) [
            | inl down ↦ inl (record { i = n; who = h; from = from; to = to; beyond = inl down })
            | inr lo ↦ elim (lt? b (d.hi n)) [
              | inl up ↦ inl (record { i = n; who = h; from = from; to = to; beyond = inr up })
              | inr hi ↦ inr (λ l m. (lo, hi))
            ]
          ]
        ]
      ]

  module _ (proper : Proper (grown d)) (near : Nearly x) (new : x d.n ≡ c) where
    -- the stretch grows by the period p
    grow : {a b : ℕ} → Growing a b → (f : Leaver a b) (p a₂ b₂ : ℕ) → In (grown d) f.i p → (a ≤ p → p ≤ b → ⊥)
        → a₂ ≤ a → b ≤ b₂ → 1 ≤ a₂ → b₂ < d.m → ((k : ℕ) → a₂ ≤ k → k ≤ b₂ → (k ≡ p) ⊎ ((a ≤ k) × (k ≤ b)))
        → HasPlan (grown d) ⊎ Growing a₂ b₂
    grow {a} {b} t f p a₂ b₂ fits out down up from to cover = elim (lt? (count (suc d.n) x p) (d.cap p)) [
      | inl free ↦ inl (t.opened x near (λ o l h. refl) f.i p f.who f.from f.to fits free)
      | inr full ↦ inr (record {
        low = omega (arith, t.low);
        high = omega (arith, t.high);
        from = from;
        to = to;
        full = λ k l h. elim (cover k l h) [
          | inl e ↦ rw e (omega (arith, gate_ne c p 1 other))
          | inr m ↦ t.full k m.0 m.1
        ];
        opened = λ y fine stay o k l h m w free. elim (cover (x o) h m) [
          | inr old ↦ t.opened y fine (λ q u v. stay q (omega arith) (omega arith)) o k l old.0 old.1 w free
          | inl e ↦ t.opened (put y o k) (moved_nearly fine o k l w free)
              (λ q u v. (put_moved y o k).others q (λ same. out (rw (same, e) at u) (rw (same, e) at v)) ∙ stay q (omega arith) (omega arith))
              f.i p f.who f.from f.to fits (moved_free fine o k l w free p (stay o h m ∙ e) other)
        ];
      })
    ]
      where
        other : c ≢ p
        other e = out (omega (arith, t.low)) (omega (arith, t.high))

    -- the stretch grows no more
    closed_is_short : {a b : ℕ} → Growing a b → Closed a b (suc d.n) → HasShort (grown d)
    closed_is_short {a} {b} t closed = record {
      a = short.a;
      b = short.b;
      from = short.from;
      stretch = short.stretch;
      to = omega (arith, t.to, (inside short.b (short.inside short.b short.stretch (omega arith))).1);
      short = short.short;
    }
      where
        r : ℕ → Bool
        r k = leb a k && leb k b

        inside : (k : ℕ) → T (r k) → (a ≤ k) × (k ≤ b)
        inside k q = let both = and_t (leb a k) (leb k b) q in (leb→le a k both.0, leb→le k b both.1)

        must : (i k : ℕ) → i < suc d.n → a ≤ x i → x i ≤ b → In d i k → T (r k)
        must i k l h m w =
            let stays = closed i l h m in
            T_and (leb a k) (leb k b) (le→leb a k (omega (arith, w.from))) (le→leb k b (omega (arith, w.to)))

        stuck : Stuck d x r
        stuck = record {
          window = λ i l. let w = near.window i (omega arith) in record { from = w.from; to = w.to };
          within = λ k q. let w = inside k q in (omega (arith, t.from), omega (arith, t.to));
          full = λ k q. omega (
            arith,
            t.full k (inside k q).0 (inside k q).1,
            count_suc d.n x k,
            ap (λ o. gate (eqb o k) 1) new,
          );
          closed = λ i k l q w. must i k (omega arith) (inside (x i) q).0 (inside (x i) q).1 w;
          new = λ k w. must d.n k (omega arith) (omega (arith, new, t.low)) (omega (arith, new, t.high)) w;
          some = proper.some d.n (omega arith);
        }

        short : ShortIn d r
        short = stuck_is_short stuck

    -- f counts the periods that are left
    search_stretch : (f a b : ℕ) → a + d.m ≤ f + b → Growing a b → HasPlan (grown d) ⊎ HasShort (grown d)
    search_stretch zero a b fuel t = absurd (omega (arith, t.to))
    search_stretch (suc f) zero b fuel t = absurd (omega (arith, t.from))
    search_stretch (suc f) (suc p) b fuel t = elim (leaver (suc p) b (suc d.n) (omega arith)) [
      | inr closed ↦ inr (closed_is_short t closed)
      | inl g ↦
          let w = near.window g.i g.who in
          let positive = proper.from g.i g.who in
          elim g.beyond [
            | inl down ↦
                let fits : In (grown d) g.i p = record { from = omega arith; to = omega arith } in
                elim (grow t g p p b fits (omega arith) (omega arith) (omega arith) (omega arith) t.to
                (λ k l h. elim (eq? k p) [ inl e ↦ inl e | inr e ↦ inr (omega arith, h) ])) [
                  | inl plan ↦ inl plan
                  | inr more ↦ search_stretch f p b (omega arith) more
                ]
            | inr up ↦
                let fits : In (grown d) g.i (suc b) = record { from = omega arith; to = up } in
                elim (grow t g (suc b) (suc p) (suc b) fits (omega arith) (omega arith) (omega arith) (omega arith) (omega (arith, d.within g.i))
                (λ k l h. elim (eq? k (suc b)) [ inl e ↦ inl e | inr e ↦ inr (l, omega arith) ])) [
                  | inl plan ↦ inl plan
                  | inr more ↦ search_stretch f (suc p) (suc b) (omega arith) more
                ]
          ]
    ]

    insert_new : HasPlan (grown d) ⊎ HasShort (grown d)
    insert_new = elim (lt? (count (suc d.n) x c) (d.cap c + 1)) [
      | inl less ↦ inl (record {
        plan = x;
        legal = record {
          window = near.window;
          room = λ k. elim (eq? c k) [ inl e ↦ rw (← e) (omega arith) | inr e ↦ omega (arith, near.room k, gate_ne c k 1 e) ];
        };
      })
      | inr full ↦
          let w = near.window d.n (omega arith) in
          search_stretch d.m c c (omega arith) (record {
            low = omega arith;
            high = omega arith;
            from = omega (arith, proper.from d.n (omega arith), rw new at w.from);
            to = omega (arith, d.within d.n, rw new at w.to);
            full = λ k l h. let e : c ≡ k = omega arith in rw (← e) (omega (arith, gate_eq c c 1 refl));
            opened = λ y fine stay i k l h m fits free. moved_plan fine i k l fits free (stay i h m ∙ omega arith);
          })
    ]

insert : (d : Instance) → Proper (grown d) → HasPlan d → HasPlan (grown d) ⊎ HasShort (grown d)
insert d proper p = insert_new d x c proper (record { window = window; room = counts }) v.here
  where
    c : ℕ
    c = d.lo d.n

    x : Plan
    x = put p.plan d.n c

    v : Moved p.plan x d.n c
    v = put_moved p.plan d.n c

    old : (i : ℕ) → i < d.n → x i ≡ p.plan i
    old i l = v.others i (omega arith)

    counts : (k : ℕ) → count (suc d.n) x k ≤ d.cap k + gate (eqb c k) 1
    counts k = omega (
      arith,
      count_suc d.n x k,
      ap (λ o. gate (eqb o k) 1) v.here,
      count_ext d.n p.plan x old k,
      p.legal.room k,
    )

    window : (i : ℕ) → i < suc d.n → In (grown d) i (x i)
    window i l = elim (eq? i d.n) [
      | inl e ↦ rw (e, v.here) (record { from = omega arith; to = proper.some d.n (omega arith) })
      | inr e ↦ let w = p.legal.window i (omega arith) in rw (old i (omega arith)) (record { from = w.from; to = w.to })
    ]

short_grows : {d : Instance} → HasShort d → HasShort (grown d)
unfolding room must_land sum
short_grows s = record {
  a = s.a;
  b = s.b;
  from = s.from;
  stretch = s.stretch;
  to = s.to;
  short = record { short = omega (arith, s.short.short) };
}

-- the first n flights alone
abbrev first : Instance → ℕ → Instance
first d n = record { n = n; m = d.m; lo = d.lo; hi = d.hi; cost = d.cost; cap = d.cap; within = d.within }

pub plan_or_short : (d : Instance) → Proper d → HasPlan d ⊎ HasShort d
plan_or_short d proper = build d.n (omega arith)
  where
    build : (n : ℕ) → n ≤ d.n → HasPlan (first d n) ⊎ HasShort (first d n)
    build zero h = inl (record {
      plan = d.lo;
      legal = record { window = λ i l. absurd (omega arith); room = λ k. omega (arith, count_zero d.lo k) };
    })
    build (suc n) h =
        let fits : Proper (first d (suc n)) = record { from = λ i l. proper.from i (omega arith); some = λ i l. proper.some i (omega arith) } in
        elim (build n (omega arith)) [
          | inl p ↦ insert (first d n) fits p
          | inr s ↦ inr (short_grows s)
        ]
