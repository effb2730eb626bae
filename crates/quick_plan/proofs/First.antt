-- The order of the flights, and the m flights of a set that go first.
-- Assumes nothing.
use mathlib.Core.Path.{◌≡◌, refl, sym, ap, ◌∙◌}
use mathlib.Core.Logic.{◌⊎◌, inl, inr, ◌≢◌}
use mathlib.Core.Bool.{Bool, true, false, not, ◌&&◌, ◌||◌}
use Prim.Native.Nat.{ℕ, zero, suc, ◌+◌, ◌-◌, ◌≤◌, ◌<◌, zero-le}
use native.Mathlib.Omega.{arith}
use lib.Dec.{T, leb, ltb, eqb, ltb→lt, lt→ltb, le→leb, eqb→eq, eqb_refl, leb-suc-suc, not_T, T_not}
use borrow.Author.Tests.{eq-eqb, ne_eqb}
use Rattle.assignment.specs.Sum.{gate, sum}
use Rattle.assignment.proofs.Tests.{gate_on, gate_off, and_t, T_and, test, lt?, eq?, is_true as on, is_false as off, or_t, T-or-l, T-or-r}
use Rattle.assignment.proofs.Sums.{sum_zero, sum_set, sum_ext, sum_le}
use Rattle.day.specs.Day.{Day, N, due}
use Rattle.quick_plan.specs.Quick.{less, before, ahead_of, ahead, going_before, highest}
use Rattle.quick_plan.specs.Loop.{pick, best_to}

-- ---- the order

less_cases : (a b : ℕ) (x : Bool) → T (less a b x) → (a < b) ⊎ ((a ≡ b) × T x)
less_cases a b x t = elim (or_t (ltb a b) (eqb a b && x) t) [
  | inl l ↦ inl (ltb→lt a b l)
  | inr e ↦ inr (eqb→eq a b (and_t (eqb a b) x e).0, (and_t (eqb a b) x e).1)
]

less_lt : (a b : ℕ) (x : Bool) → a < b → T (less a b x)
less_lt a b x l = T-or-l (ltb a b) (eqb a b && x) (lt→ltb a b l)

less_eq : (a b : ℕ) (x : Bool) → a ≡ b → T x → T (less a b x)
less_eq a b x e t = T-or-r (ltb a b) (eqb a b && x) (T_and (eqb a b) x (rw e (eqb_refl b)) t)

less_trans : (a b c : ℕ) (x y z : Bool) → (T x → T y → T z) → T (less a b x) → T (less b c y) → T (less a c z)
less_trans a b c x y z h s t = elim (less_cases a b x s) [
  | inl l ↦ elim (less_cases b c y t) [ inl m ↦ less_lt a c z (omega arith) | inr m ↦ less_lt a c z (omega arith) ]
  | inr e ↦ elim (less_cases b c y t) [ inl m ↦ less_lt a c z (omega arith) | inr m ↦ less_eq a c z (omega arith) (h e.1 m.1) ]
]

less_asym : (a b : ℕ) (x y : Bool) → (T x → T y → ⊥) → T (less a b x) → T (less b a y) → ⊥
less_asym a b x y h s t = elim (less_cases a b x s) [
  | inl l ↦ elim (less_cases b a y t) [ inl m ↦ omega arith | inr m ↦ omega arith ]
  | inr e ↦ elim (less_cases b a y t) [ inl m ↦ omega arith | inr m ↦ h e.1 m.1 ]
]

less_total : (a b : ℕ) (x y : Bool) → T x ⊎ T y → T (less a b x) ⊎ T (less b a y)
less_total a b x y h = elim (lt? a b) [
  | inl l ↦ inl (less_lt a b x l)
  | inr g ↦ elim (eq? a b) [
    | inl e ↦ elim h [ inl s ↦ inl (less_eq a b x e s) | inr t ↦ inr (less_eq b a y (sym e) t) ]
    | inr ne ↦ inr (less_lt b a y (omega arith))
  ]
]

module _ (d : Day) (costs : ℕ → ℕ) where
  pub ahead_trans : (a b c : ℕ) → T (ahead d costs a b) → T (ahead d costs b c) → T (ahead d costs a c)
  unfolding before ahead_of
  ahead_trans a b c s t = less_trans (costs c) (costs b) (costs a) _ _ _
      (λ u v. less_trans (due d a) (due d b) (due d c) _ _ _ (λ p q. lt→ltb a c (omega (arith, ltb→lt a b p, ltb→lt b c q))) v u) t s

  pub ahead_asym : (a b : ℕ) → T (ahead d costs a b) → T (ahead d costs b a) → ⊥
  unfolding before ahead_of
  ahead_asym a b s t = less_asym (costs b) (costs a) _ _
      (λ u v. less_asym (due d a) (due d b) _ _ (λ p q. omega (arith, ltb→lt a b p, ltb→lt b a q)) u v) s t

  pub ahead_total : (a b : ℕ) → a ≢ b → T (ahead d costs a b) ⊎ T (ahead d costs b a)
  unfolding before ahead_of
  ahead_total a b ne = less_total (costs b) (costs a) _ _ (less_total (due d a) (due d b) _ _
      (elim (lt? a b) [ inl l ↦ inl (lt→ltb a b l) | inr g ↦ inr (lt→ltb b a (omega arith)) ]))

  pub ahead_cost : (a b : ℕ) → T (ahead d costs a b) → costs b ≤ costs a
  unfolding before ahead_of
  ahead_cost a b t = elim (less_cases (costs b) (costs a) _ t) [ inl l ↦ omega arith | inr e ↦ omega (arith, e.0) ]

-- ---- the best of a set

-- e without b
abbrev pub without : (ℕ → Bool) → ℕ → ℕ → Bool
without e b i = e i && not (eqb i b)

-- what is left of e where m land
abbrev pub rest : Day → (ℕ → ℕ) → ℕ → (ℕ → Bool) → ℕ → Bool
rest d costs m e i = e i && not (highest d costs m e i)

-- of the flights 0 .. n - 1 in e, b goes first
pub record Best (d : Day) (costs : ℕ → ℕ) (n : ℕ) (e : ℕ → Bool) (b : ℕ) : Type 0 where
  pub is_in : T (e b)
  pub below : b < n
  pub leads : (k : ℕ) → k < n → T (e k) → k ≢ b → T (ahead d costs b k)

module _ (d : Day) (costs : ℕ → ℕ) (e : ℕ → Bool) (b : ℕ) (best : Best d costs (N d) e b) where
  before_best : going_before d costs e b ≡ 0
  unfolding going_before
  before_best = sum_zero (N d) (λ k. gate (e k && ahead d costs k b) 1) (λ k l. gate_off (e k && ahead d costs k b) 1 (not_T (e k && ahead d costs k b) (λ t. none k l (and_t (e k) (ahead d costs k b) t))))
    where
      none : (k : ℕ) → k < N d → T (e k) × T (ahead d costs k b) → ⊥
      none k l t = elim (eq? k b) [
        | inl s ↦ ahead_asym d costs b b (rw s at t.1) (rw s at t.1)
        | inr ne ↦ ahead_asym d costs k b t.1 (best.leads k l t.0 ne)
      ]

  before_other : (i : ℕ) → i < N d → T (e i) → i ≢ b → going_before d costs e i ≡ suc (going_before d costs (without e b) i)
  unfolding going_before
  before_other i l t ne =
      omega (
        arith,
        sum_set (N d) b (λ k. gate (without e b k && ahead d costs k i) 1) (λ k. gate (e k && ahead d costs k i) 1) best.below other,
        gone (e b) (ahead d costs b i),
        gate_on (e b && ahead d costs b i) 1 (T_and (e b) (ahead d costs b i) best.is_in (best.leads i l t ne)),
      )
    where
      gone : (x y : Bool) → gate (x && not (eqb b b) && y) 1 ≡ 0
      gone true y = rw (eq-eqb b b refl)
      gone false y = refl

      kept : (x y : Bool) (k : ℕ) → k ≢ b → gate (x && y) 1 ≡ gate (x && not (eqb k b) && y) 1
      kept true y k o = rw (ne_eqb k b o)
      kept false y k o = refl

      other : (k : ℕ) → k < N d → k ≢ b → gate (e k && ahead d costs k i) 1 ≡ gate (without e b k && ahead d costs k i) 1
      other k m o = kept (e k) (ahead d costs k i) k o

  -- one of the first m + 1 is the best, or one of the first m without it
  pub first_step : (m i : ℕ) → i < N d → highest d costs (suc m) e i ≡ eqb i b || highest d costs m (without e b) i
  unfolding highest
  first_step m i l = elim (eq? i b) [
    | inl s ↦ rw (s, eq-eqb b b refl, on (e b) best.is_in, before_best, leb-suc-suc 0 m, le_leb0 m)
    | inr ne ↦ rw (ne_eqb i b ne) (other ne (e i) refl)
  ]
    where
      le_leb0 : (k : ℕ) → leb 0 k ≡ true
      le_leb0 k = on (leb 0 k) (le→leb 0 k zero-le)

      other : i ≢ b → (t : Bool) → e i ≡ t → (t && ltb (going_before d costs e i) (suc m)) ≡ (t && true && ltb (going_before d costs (without e b) i) m)
      other ne true q = rw (before_other i l (rw q tt) ne, leb-suc-suc)
      other ne false q = refl

  pub rest_step : (m i : ℕ) → i < N d → rest d costs (suc m) e i ≡ rest d costs m (without e b) i
  rest_step m i l = rw (first_step m i l) (go (e i) (eqb i b) (highest d costs m (without e b) i))
    where
      go : (x y z : Bool) → (x && not (y || z)) ≡ (x && not y && not z)
      go true true z = refl
      go true false z = refl
      go false y z = refl

pub first_in : (d : Day) (costs : ℕ → ℕ) (m : ℕ) (e : ℕ → Bool) (i : ℕ) → T (highest d costs m e i) → T (e i)
unfolding highest
first_in d costs m e i t = (and_t (e i) (ltb (going_before d costs e i) m) t).0

pub first_none : (d : Day) (costs : ℕ → ℕ) (e : ℕ → Bool) (i : ℕ) → highest d costs 0 e i ≡ false
unfolding highest
first_none d costs e i = off (e i && ltb (going_before d costs e i) 0) (λ t. omega (arith, ltb→lt (going_before d costs e i) 0 (and_t (e i) (ltb (going_before d costs e i) 0) t).1))

-- ---- a best one is found

abbrev pub None : ℕ → (ℕ → Bool) → Type 0
None n e = (k : ℕ) → k < n → T (e k) → ⊥

-- b is none, and nothing is in e; or the best of e
abbrev pub Found : Day → (ℕ → ℕ) → ℕ → (ℕ → Bool) → ℕ → ℕ → Type 0
Found d costs n e none b = ((b ≡ none) × None n e) ⊎ Best d costs n e b

pick_new : (d : Day) (costs : ℕ → ℕ) (e : ℕ → Bool) (none k b : ℕ) → T (e k) → T (eqb b none || ahead d costs k b) → pick d costs e none k b ≡ k
unfolding pick
pick_new d costs e none k b s t = rw (on (e k && (eqb b none || ahead d costs k b)) (T_and (e k) (eqb b none || ahead d costs k b) s t))

pick_old : (d : Day) (costs : ℕ → ℕ) (e : ℕ → Bool) (none k b : ℕ) → (T (e k) → T (eqb b none || ahead d costs k b) → ⊥) → pick d costs e none k b ≡ b
unfolding pick
pick_old d costs e none k b h = rw (off (e k && (eqb b none || ahead d costs k b)) (λ t. h (and_t (e k) _ t).0 (and_t (e k) (eqb b none || ahead d costs k b) t).1))

pub found : (d : Day) (costs : ℕ → ℕ) (e : ℕ → Bool) (none k : ℕ) → k ≤ none → Found d costs k e none (best_to d costs e none k)
unfolding best_to
found d costs e none zero l = inl (refl, λ k m t. omega arith)
found d costs e none (suc k) l = more (best_to d costs e none k) (found d costs e none k (omega arith)) (test (e k))
  where
    last : (P : ℕ → Type 0) → ((i : ℕ) → i < k → P i) → P k → (i : ℕ) → i < suc k → P i
    last P h p i m = elim (eq? i k) [ inl s ↦ rw s p | inr ne ↦ h i (omega arith) ]

    more : (b : ℕ) → Found d costs k e none b → T (e k) ⊎ T (not (e k)) → Found d costs (suc k) e none (pick d costs e none k b)
    more b (inl w) (inl t) = rw (pick_new d costs e none k b t (T-or-l (eqb b none) _ (rw w.0 (eqb_refl none)))) (inr record {
      is_in = t;
      below = omega arith;
      leads = λ i m s ne. absurd (w.1 i (omega arith) s);
    })
    more b (inl w) (inr t) = rw (pick_old d costs e none k b (λ s _. T_not (e k) t s)) (inl (w.0, last (λ i. T (e i) → ⊥) w.1 (T_not (e k) t)))
    more b (inr w) (inr t) = rw (pick_old d costs e none k b (λ s _. T_not (e k) t s)) (inr record {
      is_in = w.is_in;
      below = omega (arith, w.below);
      leads = last (λ i. T (e i) → i ≢ b → T (ahead d costs b i)) w.leads (λ s. absurd (T_not (e k) t s));
    })
    more b (inr w) (inl t) = elim (test (ahead d costs k b)) [
      | inl a ↦ rw (pick_new d costs e none k b t (T-or-r (eqb b none) _ a)) (inr record {
        is_in = t;
        below = omega arith;
        leads = last (λ i. T (e i) → i ≢ k → T (ahead d costs k i))
            (λ i m s ne. elim (eq? i b) [ inl q ↦ rw q a | inr o ↦ ahead_trans d costs k b i a (w.leads i m s o) ])
            (λ s ne. absurd (ne refl));
      })
      | inr a ↦ rw (pick_old d costs e none k b (λ s v. elim (or_t (eqb b none) (ahead d costs k b) v) [
        | inl q ↦ omega (arith, w.below, eqb→eq b none q)
        | inr q ↦ T_not (ahead d costs k b) a q
      ])) (inr record {
        is_in = w.is_in;
        below = omega (arith, w.below);
        leads = last (λ i. T (e i) → i ≢ b → T (ahead d costs b i)) w.leads
            (λ s ne. elim (ahead_total d costs k b ne) [ inl q ↦ absurd (T_not (ahead d costs k b) a q) | inr q ↦ q ]);
      })
    ]

-- ---- how many land, and how many are left

-- how many of the flights that u picks out are in e
unfoldable pub crowd : Day → (u e : ℕ → Bool) → ℕ
unfolding sum
crowd d u e = sum (N d) (λ i. gate (u i && e i) 1)

gate_sub : (x y z : Bool) → gate (x && (y && z)) 1 ≤ gate (x && y) 1
gate_sub true true true = omega arith
gate_sub true true false = omega arith
gate_sub true false z = omega arith
gate_sub false y z = omega arith

pub crowd_none : (d : Day) (u e : ℕ → Bool) → ((i : ℕ) → i < N d → T (u i) → T (e i) → ⊥) → crowd d u e ≡ 0
unfolding crowd
crowd_none d u e h = sum_zero (N d) (λ i. gate (u i && e i) 1) (λ i l.
    gate_off (u i && e i) 1 (not_T (u i && e i) (λ s. let w = and_t (u i) (e i) s in h i l w.0 w.1)))

crowd_without : (d : Day) (u e : ℕ → Bool) (b : ℕ) → b < N d → T (u b) → T (e b) → crowd d u e ≡ crowd d u (without e b) + 1
unfolding crowd
crowd_without d u e b l h s =
    omega (
      arith,
      sum_set (N d) b (λ i. gate (u i && without e b i) 1) (λ i. gate (u i && e i) 1) l (λ i m ne. kept (u i) (e i) i ne),
      gone (u b) (e b),
      gate_on (u b && e b) 1 (T_and (u b) (e b) h s),
    )
  where
    kept : (x y : Bool) (i : ℕ) → i ≢ b → gate (x && y) 1 ≡ gate (x && (y && not (eqb i b))) 1
    kept x true i ne = rw (ne_eqb i b ne)
    kept x false i ne = refl

    gone : (x y : Bool) → gate (x && (y && not (eqb b b))) 1 ≡ 0
    gone true true = rw (eq-eqb b b refl)
    gone true false = refl
    gone false y = refl

module _ (d : Day) (costs : ℕ → ℕ) where
  -- of the flights in e, whoever goes before one that u picks out is picked out too
  abbrev pub Upwards : (u e : ℕ → Bool) → Type 0
  Upwards u e = (k i : ℕ) → k < N d → i < N d → T (e k) → T (e i) → T (ahead d costs k i) → T (u i) → T (u k)

  rest_whole : (u e : ℕ → Bool) → crowd d u (rest d costs 0 e) ≤ crowd d u e
  unfolding crowd
  rest_whole u e = sum_le (N d) (λ i. gate (u i && rest d costs 0 e i) 1) (λ i. gate (u i && e i) 1) (λ i l. gate_sub (u i) (e i) (not (highest d costs 0 e i)))

  rest_less : (u : ℕ → Bool) (m : ℕ) (e : ℕ → Bool) (b : ℕ) → Best d costs (N d) e b → crowd d u (rest d costs (suc m) e) ≡ crowd d u (rest d costs m (without e b))
  unfolding crowd
  rest_less u m e b w = sum_ext (N d) (λ i. gate (u i && rest d costs (suc m) e i) 1) (λ i. gate (u i && rest d costs m (without e b) i) 1)
      (λ i l. ap (λ x. gate (u i && x) 1) (rest_step d costs e b w m i l))

  -- Flights of a set that is closed upwards never wait for others. The best of e is in the set if any flight of e is: then one of them has
  -- landed, and the rest goes on without it.
  pub left_over_lem : (u : ℕ → Bool) (m : ℕ) (e : ℕ → Bool) → Upwards u e → crowd d u (rest d costs m e) ≤ crowd d u e - m
  left_over_lem u zero e up = omega (arith, rest_whole u e)
  left_over_lem u (suc m) e up = by (best_to d costs e (N d) (N d)) (found d costs e (N d) (N d) (omega arith)) (left_over_lem u m)
    where
      was_in : (b k : ℕ) → T (without e b k) → T (e k)
      was_in b k t = (and_t (e k) (not (eqb k b)) t).0

      still_in : (i : ℕ) → T (rest d costs (suc m) e i) → T (e i)
      still_in i t = (and_t (e i) (not (highest d costs (suc m) e i)) t).0

      by : (b : ℕ) → Found d costs (N d) e (N d) b → ((e : ℕ → Bool) → Upwards u e → crowd d u (rest d costs m e) ≤ crowd d u e - m)
          → crowd d u (rest d costs (suc m) e) ≤ crowd d u e - suc m
      by b (inl w) ih = omega (arith, crowd_none d u (rest d costs (suc m) e) (λ i l h s. w.1 i l (still_in i s)))
      by b (inr w) ih = elim (test (u b)) [
        | inl high ↦ omega (
          arith,
          rest_less u m e b w,
          crowd_without d u e b w.below high w.is_in,
          ih (without e b) (λ k i l o s t. up k i l o (was_in b k s) (was_in b i t)),
        )
        | inr low ↦ omega (arith, crowd_none d u (rest d costs (suc m) e) (λ i l h s. T_not (u b) low (under i l h (still_in i s) (eq? i b))))
      ]
        where
          under : (i : ℕ) → i < N d → T (u i) → T (e i) → (i ≡ b) ⊎ (i ≢ b) → T (u b)
          under i l h s (inl q) = rw q at h
          under i l h s (inr ne) = up b i w.below l w.is_in s (w.leads i l s ne) h

  -- at most m land
  pub landed : (m : ℕ) (e : ℕ → Bool) → sum (N d) (λ i. gate (highest d costs m e i) 1) ≤ m
  landed zero e = omega (arith, sum_zero (N d) (λ i. gate (highest d costs 0 e i) 1) (λ i l. rw (first_none d costs e i)))
  landed (suc m) e = by (best_to d costs e (N d) (N d)) (found d costs e (N d) (N d) (omega arith)) (landed m)
    where
      by : (b : ℕ) → Found d costs (N d) e (N d) b → ((u : ℕ → Bool) → sum (N d) (λ i. gate (highest d costs m u i) 1) ≤ m)
          → sum (N d) (λ i. gate (highest d costs (suc m) e i) 1) ≤ suc m
      by b (inl w) ih = omega (arith, sum_zero (N d) (λ i. gate (highest d costs (suc m) e i) 1) (λ i l. rw (off (highest d costs (suc m) e i) (λ t. w.1 i l (first_in d costs (suc m) e i t)))))
      by b (inr w) ih =
          omega (
            arith,
            sum_set (N d) b (λ i. gate (highest d costs m (without e b) i) 1) (λ i. gate (highest d costs (suc m) e i) 1) w.below
                (λ i l ne. rw (first_step d costs e b w m i l, ne_eqb i b ne)),
            ih (without e b),
            ap (λ x. gate x 1) (first_step d costs e b w m b w.below ∙ ap (λ x. x || highest d costs m (without e b) b) (eq-eqb b b refl)),
          )
