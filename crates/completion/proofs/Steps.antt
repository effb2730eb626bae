-- The steps that code takes with holds so far: a landing is taken or given back, and holds are taken back until the rest has a plan.
-- Assumes nothing.
use mathlib.Core.Path.{◌≡◌, sym, ap, ◌∙◌}
use mathlib.Core.Logic.{inl, inr, ◌≢◌}
use mathlib.Core.Bool.{Bool, true, false}
use mathlib.Core.List.{List, ◌++◌, append_assoc}
use Prim.Native.Nat.{ℕ, suc, ◌+◌, ◌-◌, ◌*◌, ◌≤◌, ◌<◌}
use native.Mathlib.Numerals.{add-one}
use native.Mathlib.Omega.{arith}
use lib.ListN.{length, get_or, set, take, drop, length-append, length-set, length-drop, get_or-append}
use lib.Seq.{take_all, take-suc, drop-cons, set_at, length-take-le, get_or-set_same, get_or-set_other}
use borrow.Author.Tests.{lt-ltb, le-ltb, le-leb, lt-leb}
use Rattle.answers.specs.Decides.{Decides}
use Rattle.answers.proofs.Decides.{say_yes, say_no}
use Rattle.assignment.specs.Sum.{count}
use Rattle.assignment.specs.Moves.{Moved}
use Rattle.assignment.proofs.Tests.{lt?, eq?, gate_eq, gate_ne}
use Rattle.assignment.proofs.Sums.{count_suc}
use Rattle.day.specs.Day.{Day, P, N, width, of_period, takes_of, takes, counted_of, counted, land, valid}
use Rattle.day.specs.Plan.{HasPlan, Picked, Short, too_long, over_capacity, breaks}
use Rattle.day.specs.Valid.{Valid}
use Rattle.day.proofs.Costs.{period_in, period_moved, takes_in, takes_closing, counted_to}
use Rattle.day.proofs.Existence.{plan_exactly}
use Rattle.day.proofs.Valid.{valid_means, means_valid}
use Rattle.legality.proofs.Meaning.{upto}
use Rattle.completion.specs.Rest.{Completed, places_left, rest_of}
use Rattle.completion.specs.Loop.{AllPlaces, Partial}
use Rattle.completion.proofs.Completion.{left_length, left_at, left_same, left_from, rest_valid, completed_by_rest}

-- ---- the places of the whole day

-- one entry more is copied
pub copy_step : (from to₀ to : List ℕ) (i : ℕ) → i < length from → i < length to₀ → to ≡ take i from ++ drop i to₀
    → set to i (get_or from i 0) ≡ take (i + 1) from ++ drop (i + 1) to₀
copy_step from to₀ to i h g e =
    rw (
      e,
      add-one,
      drop-cons to₀ i 0 g,
      set_at (take i from) (get_or to₀ i 0) (drop (suc i) to₀) (get_or from i 0) i (length-take-le i from (omega arith)),
      take-suc from i 0 h,
      append_assoc,
    )

-- all entries are copied
pub copied_whole : (from to₀ to : List ℕ) (i : ℕ) → i ≡ length from → to ≡ take i from ++ drop i to₀ → to ≡ from ++ drop (length from) to₀
copied_whole from to₀ to i end e = e ∙ rw (end, take_all (length from) from (omega arith))

-- the capacities are copied to the front of a row, and the closing number stands behind them
pub places_made : {c row : List ℕ} (left : List ℕ) (closing : ℕ) {n : ℕ} → row ≡ c ++ drop (length c) left → length c < length left
    → n ≡ counted_of (length c) closing → AllPlaces c closing (set row (length c) closing) n
places_made {c} {row} left closing {n} is long n-is = record { counted_is = n-is; there = there; each = each }
  where
    size : length row ≡ length left
    size = omega (arith, ap length is, length-append c (drop (length c) left), length-drop (length c) left)

    there : n ≤ length (set row (length c) closing)
    there = omega (arith, n-is, counted_to (length c) closing, length-set row (length c) closing, size)

    each : (k : ℕ) → 1 ≤ k → k ≤ n → of_period (set row (length c) closing) k ≡ takes_of c closing k
    each k from to = elim (lt? (length c) k) [
      | inl past ↦
          let e : k ≡ length c + 1 = omega (arith, n-is, counted_to (length c) closing) in
          let at : k - 1 ≡ length c = omega arith in
          period_in (set row (length c) closing) k (omega arith) ∙ ap (λ o. get_or (set row (length c) closing) o 0) at
          ∙ get_or-set_same row (length c) closing 0 (omega (arith, size)) ∙ sym (ap (takes_of c closing) e ∙ takes_closing c closing)
      | inr in_day ↦
          let l : k - 1 < length c = omega arith in
          period_in (set row (length c) closing) k (omega arith) ∙ get_or-set_other row (length c) (k - 1) closing 0 (omega arith)
          ∙ ap (λ r. get_or r (k - 1) 0) is ∙ get_or-append c (drop (length c) left) 0 (k - 1) l
          ∙ sym (takes_in c closing k in_day ∙ period_in c k (omega arith))
    ]

-- ---- one landing more

count_here : (x : ℕ → ℕ) (i k : ℕ) → k ≡ x i → count (i + 1) x k ≡ count i x k + 1
count_here x i k e = rw (add-one i) (omega (arith, count_suc i x k, gate_eq (x i) k 1 (sym e)))

count_other : (x : ℕ → ℕ) (i k : ℕ) → k ≢ x i → count (i + 1) x k ≡ count i x k
count_other x i k f = rw (add-one i) (omega (arith, count_suc i x k, gate_ne (x i) k 1 (λ e. f (sym e))))

-- the row with one period's entry stored is what the first n leave, if only that period's landings differ
left_set : (d : Day) (h left : List ℕ) (i n : ℕ) → left ≡ places_left d h i → (k v : ℕ) → 1 ≤ k → k ≤ counted d
    → ((o : ℕ) → o ≢ k → count n (land d h) o ≡ count i (land d h) o) → v ≡ takes d k - count n (land d h) k
    → set left (k - 1) v ≡ places_left d h n
left_set d h left i n is k v from to others here = left_from d h (set left (k - 1) v) n (length-set left (k - 1) v ∙ each) at
  where
    each : length left ≡ counted d
    each = ap length is ∙ left_length d h i

    moved : Moved (of_period left) (of_period (set left (k - 1) v)) k v
    moved = period_moved left k v from (omega (arith, each))

    at : (o : ℕ) → 1 ≤ o → o ≤ counted d → of_period (set left (k - 1) v) o ≡ takes d o - count n (land d h) o
    at o a b = elim (eq? o k) [
      | inl e ↦ rw e (moved.here ∙ here)
      | inr f ↦ omega (arith, moved.others o f, ap (λ row. of_period row o) is, left_at d h i o a b, others o f)
    ]

-- ---- the flight at table place i of a day whose first n holds break nothing

module _ {d : Day} {h left : List ℕ} {n i : ℕ} (s : Partial d h left n) (l : i < N d) where
  module _ {k : ℕ} (at-k : k ≡ land d h i) where
    pub lands_from : 1 ≤ k
    lands_from = omega (arith, ((valid_means s.good).flight i l).due_from)

    pub lands_in : k ≤ counted d → k - 1 < length left
    lands_in to = omega (arith, ap length s.left_is, left_length d h n, lands_from)

    left_here : k ≤ counted d → get_or left (k - 1) 0 ≡ takes d k - count n (land d h) k
    left_here to = sym (period_in left k (omega (arith, lands_from))) ∙ rw s.left_is (left_at d h n k lands_from to)

    pub left_fits : k ≤ counted d → get_or left (k - 1) 0 ≤ 256
    left_fits to = elim (lt? (P d) k) [
      | inr in_day ↦ omega (
        arith,
        left_here to,
        takes_in d.capacities d.closing k in_day,
        period_in d.capacities k (omega (arith, lands_from)),
        (valid_means s.good).capacity_to (k - 1) (omega (arith, lands_from)),
      )
      | inl past ↦
          let e : k ≡ P d + 1 = omega (arith, counted_to (P d) d.closing) in
          omega (arith, left_here to, ap (takes d) e, takes_closing d.capacities d.closing, (valid_means s.good).closing_to)
    ]

-- ---- a landing taken

module _ {d : Day} {h left : List ℕ} {i k : ℕ} (s : Partial d h left i) (l : i < N d) (at-k : k ≡ land d h i) where
  pub landing_long : too_long d i k ≡ true → (breaks d h i ≡ true) × Partial d h left i
  unfolding breaks
  landing_long e = (rw (← at-k, e), s)

  landed : {row : List ℕ} → breaks d h i ≡ false → row ≡ places_left d h (i + 1) → Partial d h row (i + 1)
  landed fine is = record { good = s.good; each = s.each; upto = omega arith; unbroken = record { none = none }; left_is = is }
    where
      none : (j : ℕ) → j < i + 1 → breaks d h j ≡ false
      none j b = elim (eq? j i) [ inl e ↦ rw e fine | inr f ↦ s.unbroken.none j (omega arith) ]

  module _ (short : too_long d i k ≡ false) where
    -- a closing period that is not counted takes any number
    pub landing_closing : counted d < k → Partial d h left (i + 1)
    unfolding breaks over_capacity
    landing_closing past =
        landed (rw (← at-k, short, lt-leb k (counted d) past))
        (s.left_is ∙ left_same d h h i (i + 1) (λ o a b. count_other (land d h) i o (λ e. omega arith)))

    module _ (to : k ≤ counted d) where
      pub landing_full : get_or left (k - 1) 0 ≡ 0 → (breaks d h i ≡ true) × Partial d h left i
      unfolding breaks over_capacity
      landing_full none = (rw (← at-k, short, le-leb k (counted d) to) (lt-ltb _ _ over), s)
        where
          over : takes d k < count (suc i) (land d h) k
          over = rw (← add-one i) (omega (arith, left_here s l at-k to, count_here (land d h) i k at-k))

      pub landing_taken : (get_or left (k - 1) 0 ≡ 0 → ⊥) → Partial d h (set left (k - 1) (get_or left (k - 1) 0 - 1)) (i + 1)
      unfolding breaks over_capacity
      landing_taken some =
          landed (rw (← at-k, short, le-leb k (counted d) to) (le-ltb _ _ within))
          (left_set d h left i (i + 1) s.left_is k _ (lands_from s l at-k) to (λ o f. count_other (land d h) i o (λ e. f (e ∙ sym at-k)))
          (omega (arith, left_here s l at-k to, count_here (land d h) i k at-k)))
        where
          within : count (suc i) (land d h) k ≤ takes d k
          within = rw (← add-one i) (omega (arith, left_here s l at-k to, count_here (land d h) i k at-k))

-- ---- a landing given back

pub last_in : {d : Day} {h left : List ℕ} {i : ℕ} → Partial d h left (i + 1) → i < N d
last_in s = omega (arith, s.upto)

module _ {d : Day} {h left : List ℕ} {i : ℕ} (s : Partial d h left (i + 1)) where
  given : {row : List ℕ} → row ≡ places_left d h i → Partial d h row i
  given is = record {
    good = s.good;
    each = s.each;
    upto = omega (arith, s.upto);
    unbroken = record { none = λ j b. s.unbroken.none j (omega arith) };
    left_is = is;
  }

  module _ {k : ℕ} (at-k : k ≡ land d h i) where
    pub back_closing : counted d < k → Partial d h left i
    back_closing past = given (s.left_is ∙ left_same d h h (i + 1) i (λ o a b. sym (count_other (land d h) i o (λ e. omega arith))))

    -- what was taken came from a place
    pub back_in : i < N d → k ≤ counted d → Partial d h (set left (k - 1) (get_or left (k - 1) 0 + 1)) i
    back_in l to =
        given (left_set d h left (i + 1) i s.left_is k _ (lands_from s l at-k) to (λ o f. sym (count_other (land d h) i o (λ e. f (e ∙ sym at-k))))
        (omega (arith, left_here s l at-k to, count_here (land d h) i k at-k, upto d h (i + 1) s.unbroken.none k to)))

-- ---- whether the rest has a plan

-- the front of a row and the flights from an entry on, as they are lent
pub part_is : (flights : List ℕ) (start : ℕ) → take (length flights - start) (drop start flights) ≡ drop start flights
part_is flights start = take_all (length flights - start) (drop start flights) (rw length-drop (omega arith))

pub short_found : {d : Day} {a b : ℕ} → valid d ≡ true → Picked d a b → Decides false (HasPlan d)
short_found {d} {a} {b} good found = say_no (λ p. (plan_exactly (valid_means good)).0 p a b found.short)

pub none_found : {d : Day} → valid d ≡ true → ((a b : ℕ) → Short d a b → ⊥) → Decides true (HasPlan d)
none_found good none = say_yes ((plan_exactly (valid_means good)).1 none)

-- ---- holds taken back from the last on

-- the first m holds and the places that they leave, and that no m of the first i holds can be completed
pub record Tried (d : Day) (h left : List ℕ) (m i : ℕ) : Type 0 where
  pub kept : Partial d h left m
  pub upto : m ≤ i
  pub over : Completed d h m → ⊥

module _ {d : Day} {h left : List ℕ} {m : ℕ} (s : Partial d h left m) where
  v : Valid d
  v = valid_means s.good

  pub rest_ready : (length left ≡ counted d) × (m * width ≤ length d.flights) × (valid (rest_of left d.flights (P d) d.closing m) ≡ true)
  rest_ready = (
    ap length s.left_is ∙ left_length d h m,
    omega (arith, v.whole, s.upto),
    rw s.left_is (means_valid (rest_valid v h m s.upto)),
  )

  module _ {r : Bool} (plans : Decides r (HasPlan (rest_of left d.flights (P d) d.closing m))) where
    pub rest_completes : r ≡ true → Completed d h m
    rest_completes e = (completed_by_rest v h m s.upto).1 (s.unbroken, rw s.left_is at (plans.yes e))

    pub rest_fails : r ≡ false → Completed d h m → ⊥
    rest_fails e c = plans.no e (rw s.left_is ((completed_by_rest v h m s.upto).0 c).1)
