-- No legal plan leaves fewer flights for the closing period than the quick plan, and none costs less. A plan costs the sum, over the
-- periods, of the next costs of those that wait; and of those whose next cost is t or more, as of all flights, the quick plan never has more
-- waiting than another legal plan.
-- Assumes nothing.
use mathlib.Core.Path.{◌≡◌, refl, sym, ap, ◌∙◌}
use mathlib.Core.Logic.{inl, inr}
use mathlib.Core.Bool.{Bool, true, false, not, ◌&&◌}
use mathlib.Core.List.{List}
use Prim.Native.Nat.{ℕ, zero, suc, ◌+◌, ◌-◌, ◌≤◌, ◌<◌, min}
use native.Mathlib.Omega.{arith}
use native.Mathlib.Nat.{zero-add, suc-add}
use lib.Dec.{T, leb, ltb, eqb, leb→le, le→leb}
use borrow.Author.Tests.{lt-ltb, le-ltb, le-leb, lt-leb, eq-eqb, ne_eqb}
use Rattle.assignment.specs.Sum.{gate, sum, count}
use Rattle.assignment.proofs.Tests.{and_t, lt?, eq?}
use Rattle.assignment.proofs.Sums.{sum_ext, sum_le, sum_add, sum_same, sum_swap, sum_member, count_le}
use Rattle.day.specs.Day.{Day, unlimited, P, N, due, rate, capacity, cost, hold, land, landings, total_of, total, valid}
use Rattle.day.specs.Plan.{Legal, HasPlan, Cheapest, first_jump_or_limit}
use Rattle.day.proofs.Costs.{takes_in, takes_closing, counted_line, counted_from, cost_plain}
use Rattle.day.proofs.Valid.{valid_means}
use Rattle.quick_plan.specs.NextCost.{next_cost}
use Rattle.quick_plan.specs.Quick.{ahead, eligible, operates, quick_by, left_over, rates, quick}
use Rattle.quick_plan.proofs.Applies.{no_jump}
use Rattle.quick_plan.proofs.First.{ahead_cost, rest, crowd, crowd_none, Upwards, left_over_lem}
use Rattle.quick_plan.proofs.Plan.{due_by_lem, end, end_from, end_to, eligible_end, operates_end, quick_land, quick_legal}

-- ---- sums

-- r, counted by its layers
layers : (m r : ℕ) (a : Bool) → r ≤ m → sum m (λ t. gate (leb (suc t) r && a) 1) ≡ gate a r
unfolding sum
layers m r a h = upto m ∙ ap (gate a) (low m h)
  where
    low : (m : ℕ) → r ≤ m → min r m ≡ r
    low m h = omega arith

    turn : (m : ℕ) (a : Bool) → gate a (min r m) + gate (leb (suc m) r && a) 1 ≡ gate a (min r (suc m))
    turn m true = elim (lt? m r) [
      | inl l ↦ rw (le-leb (suc m) r l) (omega arith)
      | inr g ↦ rw (lt-leb (suc m) r (omega arith)) (omega arith)
    ]
    turn m false = elim (lt? m r) [
      | inl l ↦ rw (le-leb (suc m) r l)
      | inr g ↦ rw (lt-leb (suc m) r (omega arith))
    ]

    zeros : (a : Bool) → 0 ≡ gate a (min r 0)
    zeros true = omega arith
    zeros false = refl

    upto : (m : ℕ) → sum m (λ t. gate (leb (suc t) r && a) 1) ≡ gate a (min r m)
    upto zero = zeros a
    upto (suc m) = omega (arith, upto m, turn m a)

-- a set has no higher sum of costs than another, if it has no more members of any cost t or more
crowds : (d : Day) (costs : ℕ → ℕ) (a b : ℕ → Bool) → ((t : ℕ) → crowd d (λ i. leb t (costs i)) a ≤ crowd d (λ i. leb t (costs i)) b)
    → sum (N d) (λ i. gate (a i) (costs i)) ≤ sum (N d) (λ i. gate (b i) (costs i))
unfolding crowd
crowds d costs a b h = omega (arith, by a, by b, sum_le most (reach a) (reach b) (λ t l. h (suc t)))
  where
    most : ℕ
    most = sum (N d) costs

    reach : (ℕ → Bool) → ℕ → ℕ
    reach e t = crowd d (λ i. leb (suc t) (costs i)) e

    by : (e : ℕ → Bool) → sum (N d) (λ i. gate (e i) (costs i)) ≡ sum most (reach e)
    by e = sum_ext (N d) (λ i. gate (e i) (costs i)) (λ i. sum most (λ t. gate (leb (suc t) (costs i) && e i) 1))
        (λ i l. sym (layers most (costs i) (e i) (sum_member (N d) i costs l)))
        ∙ sum_swap (N d) most (λ i t. gate (leb (suc t) (costs i) && e i) 1)

-- the sum of f over the periods from d to before l
stretch : (m d l : ℕ) (f : ℕ → ℕ) → l ≤ m → sum m (λ j. gate (leb d j && ltb j l) (f j)) ≡ sum (l - d) (λ t. f (d + t))
unfolding sum
stretch m d l f h = upto m ∙ ap (λ x. sum (x - d) (λ t. f (d + t))) (low m h)
  where
    low : (m : ℕ) → l ≤ m → min l m ≡ l
    low m h = omega arith

    nil : (x y : ℕ) → x ≡ y → sum x (λ t. f (d + t)) + 0 ≡ sum y (λ t. f (d + t))
    nil x y e = rw e (omega arith)

    one : (x y m : ℕ) → suc x ≡ y → d + x ≡ m → sum x (λ t. f (d + t)) + f m ≡ sum y (λ t. f (d + t))
    one x y m e q = rw (← e, ← q)

    zeros : (x : ℕ) → x ≡ 0 → 0 ≡ sum x (λ t. f (d + t))
    zeros x e = rw e

    turn : (m : ℕ) → sum (min l m - d) (λ t. f (d + t)) + gate (leb d m && ltb m l) (f m) ≡ sum (min l (suc m) - d) (λ t. f (d + t))
    turn m = elim (lt? m d) [
      | inl o ↦ rw (lt-leb d m o) (nil (min l m - d) (min l (suc m) - d) (omega arith))
      | inr o ↦ rw (le-leb d m o) (elim (lt? m l) [
        | inr g ↦ rw (le-ltb m l g) (nil (min l m - d) (min l (suc m) - d) (omega arith))
        | inl b ↦ rw (lt-ltb m l b) (one (min l m - d) (min l (suc m) - d) m (omega arith) (omega arith))
      ])
    ]

    upto : (m : ℕ) → sum m (λ j. gate (leb d j && ltb j l) (f j)) ≡ sum (min l m - d) (λ t. f (d + t))
    upto zero = zeros (min l 0 - d) (omega arith)
    upto (suc m) = omega (arith, upto m, turn m)

-- ---- who waits

-- by the landings l, flight i waits after period j
abbrev waits : Day → (ℕ → ℕ) → ℕ → ℕ → Bool
waits d l j i = leb (due d i) j && ltb j (l i)

-- by the landings l, flight i waits in period j + 1
abbrev waits_in : Day → (ℕ → ℕ) → ℕ → ℕ → Bool
waits_in d l j i = leb (due d i) (suc j) && ltb j (l i)

arrive : (x : Bool) (d l j : ℕ) → d ≤ l → gate (x && (leb d (suc j) && ltb j l)) 1 ≡ gate (x && (leb d j && ltb j l)) 1 + gate (x && eqb d (suc j)) 1
arrive false d l j h = refl
arrive true d l j h = elim (eq? d (suc j)) [
  | inl e ↦ rw (eq-eqb d (suc j) e, le-leb d (suc j) (omega arith), lt-leb d j (omega arith), lt-ltb j l (omega arith))
  | inr o ↦ rw (ne_eqb d (suc j) o) (elim (lt? j d) [
    | inl b ↦ rw (lt-leb d j b, lt-leb d (suc j) (omega arith))
    | inr g ↦ rw (le-leb d j g, le-leb d (suc j) (omega arith)) (omega arith)
  ])
]

depart : (x : Bool) (d l j : ℕ) → gate (x && (leb d (suc j) && ltb j l)) 1 ≤ gate (x && (leb d (suc j) && ltb (suc j) l)) 1 + gate (eqb l (suc j)) 1
depart false d l j = omega arith
depart true d l j = go (leb d (suc j))
  where
    go : (y : Bool) → gate (y && ltb j l) 1 ≤ gate (y && ltb (suc j) l) 1 + gate (eqb l (suc j)) 1
    go false = omega arith
    go true = elim (eq? l (suc j)) [
      | inl e ↦ rw (eq-eqb l (suc j) e, lt-ltb j l (omega arith)) (omega arith)
      | inr o ↦ rw (ne_eqb l (suc j) o) (elim (lt? j l) [
        | inl b ↦ rw (lt-ltb (suc j) l (omega arith), lt-ltb j l b) (omega arith)
        | inr g ↦ rw (le-ltb j l g) (omega arith)
      ])
    ]

module _ (d : Day) (l : ℕ → ℕ) where
  crowd_arrive : (u : ℕ → Bool) (j : ℕ) → ((i : ℕ) → i < N d → due d i ≤ l i)
      → crowd d u (waits_in d l j) ≡ crowd d u (waits d l j) + crowd d u (λ i. eqb (due d i) (suc j))
  unfolding crowd
  crowd_arrive u j h =
      sum_ext (N d) (λ i. gate (u i && waits_in d l j i) 1) (λ i. gate (u i && waits d l j i) 1 + gate (u i && eqb (due d i) (suc j)) 1)
      (λ i m. arrive (u i) (due d i) (l i) j (h i m))
      ∙ sum_add (N d) (λ i. gate (u i && waits d l j i) 1) (λ i. gate (u i && eqb (due d i) (suc j)) 1)

  crowd_depart : (u : ℕ → Bool) (j : ℕ) → crowd d u (waits_in d l j) ≤ crowd d u (waits d l (suc j)) + count (N d) l (suc j)
  unfolding crowd count
  crowd_depart u j =
      omega (
        arith,
        sum_le (N d) (λ i. gate (u i && waits_in d l j i) 1) (λ i. gate (u i && waits d l (suc j) i) 1 + gate (eqb (l i) (suc j)) 1)
            (λ i m. depart (u i) (due d i) (l i) j),
        sum_add (N d) (λ i. gate (u i && waits d l (suc j) i) 1) (λ i. gate (eqb (l i) (suc j)) 1),
      )

-- ---- what a plan costs

-- what flight i pays for a hold of h: the next cost of each period from its due on
abbrev pub paid : Day → (next : ℕ → ℕ → ℕ) → ℕ → ℕ → ℕ
paid d next i h = sum h (λ t. next (due d i + t) i)

-- what the flights pay together
unfoldable pub spent : Day → (next : ℕ → ℕ → ℕ) → List ℕ → ℕ
unfolding sum
spent d next holds = sum (N d) (λ i. paid d next i (hold holds i))

-- it is, added up by periods, the next costs of those who wait
waits_sum : (d : Day) (next : ℕ → ℕ → ℕ) (l : ℕ → ℕ) (m : ℕ) → ((i : ℕ) → i < N d → l i ≤ m)
    → sum (N d) (λ i. paid d next i (l i - due d i)) ≡ sum m (λ j. sum (N d) (λ i. gate (waits d l j i) (next j i)))
waits_sum d next l m h =
    sum_ext (N d) (λ i. paid d next i (l i - due d i)) (λ i. sum m (λ j. gate (waits d l j i) (next j i))) (λ i k. sym (stretch m (due d i) (l i) (λ j. next j i) (h i k)))
    ∙ sum_swap (N d) m (λ i j. gate (waits d l j i) (next j i))

-- ---- the quick plan against another

-- The proof on paper. Let a set of flights be closed upwards in every period up to one: who goes before one of them is one of them. In the
-- quick plan they never wait for others: as many of them land in a period as it takes, or all. In any legal plan no more than that land. So
-- the quick plan has the fewest of them waiting after that period.
module _ (d : Day) (next : ℕ → ℕ → ℕ) (v : valid d ≡ true) (y : List ℕ) (legal : Legal d y) where
  -- the landings of the quick plan
  abbrev lands_in : ℕ → ℕ
  lands_in = end d next v

  module _ (u : ℕ → Bool) (last : ℕ) (in_day : last ≤ P d) (closed : (j : ℕ) → j ≤ last → Upwards d (next j) u (eligible d next j)) where
    left_next : (j : ℕ) → j < last
        → crowd d u (waits d lands_in (suc j)) ≤ crowd d u (waits_in d lands_in j) - capacity d (suc j)
    unfolding crowd operates
    left_next j p =
        omega (
          arith,
          left_over_lem d (next (suc j)) u (capacity d (suc j)) (eligible d next (suc j)) (closed (suc j) p),
          sum_ext (N d) (λ i. gate (u i && rest d (next (suc j)) (capacity d (suc j)) (eligible d next (suc j)) i) 1) (λ i. gate (u i && waits d lands_in (suc j) i) 1)
              (λ i l. ap (λ x. gate (u i && x) 1) (still i l)),
          sum_ext (N d) (λ i. gate (u i && eligible d next (suc j) i) 1) (λ i. gate (u i && waits_in d lands_in j i) 1)
              (λ i l. ap (λ x. gate (u i && x) 1) (eligible_end d next v j i l (omega arith))),
        )
      where
        go : (x : Bool) (e : ℕ) → (x && ltb j e && not (eqb e (suc j))) ≡ (x && ltb (suc j) e)
        go false e = refl
        go true e = elim (lt? (suc j) e) [
          | inl b ↦ rw (lt-ltb (suc j) e b, lt-ltb j e (omega arith), ne_eqb e (suc j) (omega arith))
          | inr g ↦ rw (le-ltb (suc j) e g) (elim (eq? e (suc j)) [
            | inl q ↦ rw (eq-eqb e (suc j) q, lt-ltb j e (omega arith))
            | inr ne ↦ rw (le-ltb j e (omega arith))
          ])
        ]

        still : (i : ℕ) → i < N d → rest d (next (suc j)) (capacity d (suc j)) (eligible d next (suc j)) i ≡ waits d lands_in (suc j) i
        still i l = rw (operates_end d next v j i l (omega arith), eligible_end d next v j i l (omega arith)) (go (leb (due d i) (suc j)) (lands_in i))

    -- of them, the quick plan has no more waiting
    fewer : (j : ℕ) → j ≤ last → crowd d u (waits d lands_in j) ≤ crowd d u (waits d (land d y) j)
    fewer zero p = omega (arith, crowd_none d u (waits d lands_in 0) (λ i l h s. omega (arith, ((valid_means v).flight i l).due_from, leb→le (due d i) 0 (and_t (leb (due d i) 0) (ltb 0 (lands_in i)) s).0)))
    fewer (suc j) p =
        omega (
          arith,
          fewer j (omega arith),
          left_next j p,
          crowd_arrive d lands_in u j (end_from d next v),
          crowd_arrive d (land d y) u j (λ i l. omega arith),
          crowd_depart d (land d y) u j,
          legal.room (suc j) (omega arith) (omega (arith, counted_from (P d) d.closing)),
          takes_in d.capacities d.closing (suc j) (omega arith),
        )

  -- everyone is such a set: no legal plan leaves fewer flights for the closing period
  left_least : left_over d next ≤ landings d y (P d + 1)
  unfolding left_over crowd count
  left_least =
      omega (
        arith,
        fewer (λ i. true) (P d) (omega arith) (λ j l k i _ _ _ _ _ t. t) (P d) (omega arith),
        sum_ext (N d) (λ i. gate (eqb (land d (quick_by d next) i) (P d + 1)) 1) (λ i. gate (waits d lands_in (P d) i) 1)
            (λ i l. rw (quick_land d next v i l) (standing i (lands_in i) l (end_to d next v i l))),
        sum_ext (N d) (λ i. gate (eqb (land d y i) (P d + 1)) 1) (λ i. gate (waits d (land d y) (P d) i) 1)
            (λ i l. standing i (land d y i) l (legal.window i l).closing),
      )
    where
      standing : (i k : ℕ) → i < N d → k ≤ P d + 1 → gate (eqb k (P d + 1)) 1 ≡ gate (leb (due d i) (P d) && ltb (P d) k) 1
      standing i k l to = rw (le-leb (due d i) (P d) ((valid_means v).flight i l).due_to) (elim (eq? k (P d + 1)) [
        | inl e ↦ rw (eq-eqb k (P d + 1) e, lt-ltb (P d) k (omega arith))
        | inr o ↦ rw (ne_eqb k (P d + 1) o, le-ltb (P d) k (omega arith))
      ])

  -- so where there is a legal plan the closing period has room for those left
  pub left_fits : left_over d next ≤ d.closing
  left_fits = elim (lt? d.closing unlimited) [
    | inl line ↦ omega (
      arith,
      left_least,
      legal.room (P d + 1) (omega arith) (omega (arith, counted_line (P d) d.closing line)),
      takes_closing d.capacities d.closing,
    )
    | inr none ↦ omega (arith, left_least, count_le (N d) (land d y) (P d + 1), (valid_means v).flights_to)
  ]

-- the report's regular costs (section 2.2.1): who goes before whom among flights that are due goes before in the next period too
abbrev pub Regular : Day → (next : ℕ → ℕ → ℕ) → Type 0
Regular d next = (j k i : ℕ) → j < P d → k < N d → i < N d → due d k ≤ j → due d i ≤ j → T (ahead d (next j) k i) → T (ahead d (next (suc j)) k i)

-- Where the costs are regular, fix a period and a cost t, and look at the flights whose next cost in that period is t or more. Who goes
-- before one of them then is one of them; and who goes before whom was so in all periods up to it: they are such a set. A flight's next cost
-- is the number of those t that it reaches, so the next costs of all who wait add up to the least too; and a plan costs the sum of them over
-- the periods.
module _ (d : Day) (next : ℕ → ℕ → ℕ) (v : valid d ≡ true) (regular : Regular d next) (y : List ℕ) (legal : Legal d y) where
  -- who goes before whom in period j does so in every later one
  stays_ahead : (g j k i : ℕ) → g + j ≤ P d → k < N d → i < N d → due d k ≤ j → due d i ≤ j → T (ahead d (next j) k i) → T (ahead d (next (g + j)) k i)
  stays_ahead zero j k i p l m a b t = rw zero-add t
  stays_ahead (suc g) j k i p l m a b t =
      rw suc-add (regular (g + j) k i (omega arith) l m (omega arith) (omega arith) (stays_ahead g j k i (omega arith) l m a b t))

  module _ (t last : ℕ) (in_day : last ≤ P d) where
    -- the flights whose next cost in period `last` is t or more
    high : ℕ → Bool
    high i = leb t (next last i)

    high_upwards : (j : ℕ) → j ≤ last → Upwards d (next j) high (eligible d next j)
    unfolding high
    high_upwards j o k i l m s r a h =
        let all : last - j + j ≡ last = omega arith in
        let by = due_by_lem d next v j in
        let later = rw all at (stays_ahead (last - j) j k i (omega arith) l m (by k l s) (by i m r) a) in
        le→leb t (next last k) (omega (arith, leb→le t (next last i) h, ahead_cost d (next last) k i later))

    fewer_high : crowd d high (waits d (end d next v) last) ≤ crowd d high (waits d (land d y) last)
    fewer_high = fewer d next v y legal high last in_day high_upwards last (omega arith)

  spent_is : (h : List ℕ) → spent d next h ≡ sum (N d) (λ i. paid d next i (land d h i - due d i))
  unfolding spent
  spent_is h = sum_ext (N d) (λ i. paid d next i (hold h i)) (λ i. paid d next i (land d h i - due d i)) (λ i l.
      let e : hold h i ≡ land d h i - due d i = omega arith in ap (paid d next i) e)

  pub plan_least : spent d next (quick_by d next) ≤ spent d next y
  unfolding high
  plan_least =
      omega (
        arith,
        spent_is (quick_by d next),
        spent_is y,
        sum_ext (N d) (λ i. paid d next i (land d (quick_by d next) i - due d i)) (λ i. paid d next i (end d next v i - due d i)) (λ i l. ap (λ x. paid d next i (x - due d i)) (quick_land d next v i l)),
        waits_sum d next (end d next v) (P d + 1) (end_to d next v),
        waits_sum d next (land d y) (P d + 1) (λ i l. (legal.window i l).closing),
        sum_le (P d + 1) (λ j. sum (N d) (λ i. gate (waits d (end d next v) j i) (next j i))) (λ j. sum (N d) (λ i. gate (waits d (land d y) j i) (next j i)))
            (λ j l. crowds d (next j) (waits d (end d next v) j) (waits d (land d y) j) (λ t. fewer_high t j (omega arith))),
      )

-- ---- document 01's quick plan: the next cost is the rate

rates_regular : (d : Day) → Regular d (rates d)
unfolding next_cost
rates_regular d j k i p l m a b t = t

-- with no jumps a total is what the flights pay at their rates
plain_total : (d : Day) → first_jump_or_limit d.flights ≡ N d → (h : List ℕ) → total d h ≡ spent d (rates d) h
unfolding total_of spent next_cost
plain_total d applies h = sum_ext (N d) (λ i. cost d i (hold h i)) (λ i. sum (hold h i) (λ t. rate d i)) (λ i l.
    cost_plain d i (hold h i) (no_jump d applies i l) ∙ sym (sum_same (hold h i) (rate d i)))

-- where there is a legal plan, the quick plan is legal, and no legal plan costs less
pub quick_cheapest : (d : Day) → valid d ≡ true → first_jump_or_limit d.flights ≡ N d → HasPlan d → Cheapest d (quick d)
quick_cheapest d v applies some = record {
  legal = quick_legal d (rates d) v applies (left_fits d (rates d) v some.holds some.legal);
  least = λ y legal. omega (
    arith,
    plain_total d applies (quick d),
    plain_total d applies y,
    plan_least d (rates d) v (rates_regular d) y legal,
  );
}

-- so it costs as much as any other cheapest plan
pub same_total : (d : Day) → valid d ≡ true → first_jump_or_limit d.flights ≡ N d → (holds : List ℕ) → Cheapest d holds → total d (quick d) ≡ total d holds
same_total d v applies holds w = let q = quick_cheapest d v applies (record { holds = holds; legal = w.legal }) in omega (arith, q.least holds w.legal, w.least (quick d) q.legal)
