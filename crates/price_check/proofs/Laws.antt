-- The laws of the price check's loops, and how its parts make up the whole.
-- Assumes nothing.
use mathlib.Core.Path.{◌≡◌, sym, ap, ◌∙◌}
use mathlib.Core.Logic.{inl, inr}
use mathlib.Core.Bool.{Bool, true, false}
use mathlib.Core.List.{List}
use Prim.Native.Nat.{ℕ, ◌+◌, ◌-◌, ◌*◌, ◌≤◌, ◌<◌}
use native.Mathlib.Numerals.{add-one}
use native.Mathlib.Omega.{arith}
use lib.ListN.{length}
use Rattle.assignment.specs.Sum.{count}
use Rattle.assignment.proofs.Tests.{eq?, gate_eq, gate_ne}
use Rattle.assignment.proofs.Sums.{count_suc, count_zero}
use Rattle.day.specs.declared.Flight.{Flight}
use Rattle.day.specs.Day.{Day, N, column, flight_at, hold_cost, last_of, due, of_period, takes, counted, cost, last, hold, land_of, land, landings, valid, width}
use Rattle.day.specs.Plan.{Legal, Cheapest, Accepted}
use Rattle.day.proofs.Flights.{due_read}
use Rattle.day.proofs.Instance.{hold_le, cost_le, accepted_is_cheapest}
use Rattle.day.specs.Instance.{last_to}
use Rattle.day.specs.Valid.{Valid}
use Rattle.day.proofs.Valid.{valid_means}
use Rattle.answers.specs.declared.Refusal.{Refusal}
use Rattle.legality.specs.Check.{plan_check}
use Rattle.std.specs.Prelude.{Result, Ok, Err, is_err}
use Rattle.legality.proofs.Found.{found_legal, found_refused}
use Rattle.answers.specs.Decides.{Decides}
use Rattle.answers.proofs.Decides.{true_false, say_no}
use Rattle.price_check.specs.Check.{Unsold, Least, Best}

-- ---- counts of landings

-- of the flights before place i, n land in period k
pub record Counted (f h : List ℕ) (k n i : ℕ) : Type 0 where
  pub rows : length h * width ≤ length f
  pub upto : i ≤ length h
  pub few : n ≤ i
  pub counts : n ≡ count i (land_of f h) k

pub counted_start : {f h : List ℕ} {k : ℕ} → length h * width ≤ length f → Counted f h k 0 0
counted_start {f} {h} {k} rows = record { rows = rows; upto = omega arith; few = omega arith; counts = sym (count_zero (land_of f h) k) }

module _ {f h : List ℕ} {k n i : ℕ} (s : Counted f h k n i) where
  pub counted_place : i < length h → (i + 1) * width ≤ length f
  counted_place l = omega (arith, s.rows)

  module _ (l : i < length h) {x : ℕ} (at : x ≡ land_of f h i) where
    pub counted_on : x ≡ k → Counted f h k (n + 1) (i + 1)
    counted_on e = record {
      rows = s.rows;
      upto = omega arith;
      few = omega (arith, s.few);
      counts = rw (add-one i) (omega (arith, s.counts, count_suc i (land_of f h) k, gate_eq (land_of f h i) k 1 (sym at ∙ e)));
    }

    pub counted_off : (x ≡ k → ⊥) → Counted f h k n (i + 1)
    counted_off e = record {
      rows = s.rows;
      upto = omega arith;
      few = omega (arith, s.few);
      counts = rw (add-one i) (omega (arith, s.counts, count_suc i (land_of f h) k, gate_ne (land_of f h i) k 1 (λ f. e (at ∙ f))));
    }

  pub counted_end : length h ≤ i → n ≡ count (length h) (land_of f h) k
  counted_end done = let e : i ≡ length h = omega (arith, s.upto) in s.counts ∙ ap (λ m. count m (land_of f h) k) e

-- ---- periods that are not full

abbrev pub UnsoldTo : Day → (h p : List ℕ) → ℕ → Type 0
UnsoldTo d h p k = (j : ℕ) → 1 ≤ j → j < k → Unsold d h p j

-- the landings that the hold row counts
all_counted : (d : Day) (h : List ℕ) (k : ℕ) {n : ℕ} → length h ≡ N d → n ≡ count (length h) (land d h) k → n ≡ landings d h k
all_counted d h k each e = e ∙ ap (λ m. count m (land d h) k) each

module _ {d : Day} {h p : List ℕ} {k : ℕ} where
  unsold_more : UnsoldTo d h p k → Unsold d h p k → UnsoldTo d h p (k + 1)
  unsold_more upto here j a b = elim (eq? j k) [ inl e ↦ rw e here | inr o ↦ upto j a (omega arith) ]

  pub unsold_free_lem : UnsoldTo d h p k → {x : ℕ} → x ≡ of_period p k → x ≡ 0 → UnsoldTo d h p (k + 1)
  unsold_free_lem upto e none = unsold_more upto (record { free = λ _. sym e ∙ none })

  pub unsold_full : UnsoldTo d h p k → {n c : ℕ} → length h ≡ N d → n ≡ count (length h) (land d h) k → c ≡ takes d k → c ≤ n → UnsoldTo d h p (k + 1)
  unsold_full upto each e f full = unsold_more upto (record { free = λ less. absurd (omega (arith, all_counted d h k each e)) })

  pub unsold_not : 1 ≤ k → k ≤ counted d → {x n c : ℕ} → x ≡ of_period p k → (x ≡ 0 → ⊥) → length h ≡ N d → n ≡ count (length h) (land d h) k
      → c ≡ takes d k → n < c
      → ((j : ℕ) → 1 ≤ j → j ≤ counted d → Unsold d h p j) → ⊥
  unsold_not a b e some each f g less said = some (e ∙ (said k a b).free (omega (arith, all_counted d h k each f)))

-- ---- least cost and price

pub record Bests (d : Day) (h p : List ℕ) (i k : ℕ) : Type 0 where
  pub good : valid d ≡ true
  pub legal : Legal d h
  pub place : i < length h
  pub from : due d i ≤ k
  pub passed : (j : ℕ) → due d i ≤ j → j < k → Least d h p i j

-- a flight's numbers that the program has read by value
module _ (f : Flight) (row : List ℕ) (i : ℕ) (read : f ≡ flight_at row i) where
  pub due_made : {u : ℕ} → u ≡ f.due → u ≡ column 1 row i
  due_made e = e ∙ due_read f row i read

  pub cost_made : {x : ℕ} (z : ℕ) → x ≡ hold_cost f z → x ≡ hold_cost (flight_at row i) z
  cost_made z e = e ∙ ap (λ g. hold_cost g z) read

  -- what it pays where it lands
  pub here_made : {u x y z : ℕ} (h p : List ℕ) → u ≡ f.due → z ≡ hold h i → x ≡ hold_cost f z → y ≡ of_period p (u + z)
      → x + y ≡ hold_cost (flight_at row i) (hold h i) + of_period p (land_of row h i)
  here_made h p e hold_is cost_is price_is = rw (cost_made _ cost_is, price_is, due_made e, hold_is)

  pub last_made : {x : ℕ} (p : ℕ) → x ≡ last_of p f → x ≡ last_of p (flight_at row i)
  last_made p e = e ∙ ap (last_of p) read

-- the landing itself: at a cost that is small
module _ {d : Day} {h : List ℕ} {i : ℕ} (good : valid d ≡ true) (legal : Legal d h) (place : i < length h) where
  v : Valid d
  v = valid_means good

  l : i < N d
  l = omega (arith, legal.each)

  pub here_cost : cost d i (hold h i) ≤ 1960000
  here_cost = cost_le v i (hold h i) l (hold_le v legal l)

module _ {d : Day} {h p : List ℕ} {i k : ℕ} (s : Bests d h p i k) where
  w : Valid d
  w = valid_means s.good

  m : i < N d
  m = omega (arith, s.legal.each, s.place)

  -- what the program adds up, in the definitions' words
  pub there_made : {u x y : ℕ} → u ≡ due d i → x ≡ cost d i (k - u) → y ≡ of_period p k → x + y ≡ cost d i (k - due d i) + of_period p k
  there_made at f g = rw (f, g, at)

  pub best_near : k ≤ last d i → k ≤ 97
  best_near b = omega (arith, last_to d i, w.periods_to)

  pub best_fits : {u x : ℕ} → u ≡ due d i → x ≡ cost d i (k - u) → k ≤ last d i → x ≤ 1960000
  best_fits at f b = rw (f, at) (cost_le w i (k - due d i) m (omega (arith, (w.flight i m).due_from, best_near b)))

  pub best_next : {here there : ℕ} → here ≡ cost d i (hold h i) + of_period p (land d h i) → there ≡ cost d i (k - due d i) + of_period p k
      → here ≤ there → Bests d h p i (k + 1)
  best_next e f less = record {
    good = s.good;
    legal = s.legal;
    place = s.place;
    from = omega (arith, s.from);
    passed = λ j a b. elim (eq? j k) [ inl same ↦ rw same (omega arith) | inr o ↦ s.passed j a (omega arith) ];
  }

  pub best_not : k ≤ last d i → {here there : ℕ} → here ≡ cost d i (hold h i) + of_period p (land d h i)
      → there ≡ cost d i (k - due d i) + of_period p k → there < here → Best d h p i → ⊥
  unfolding last_of
  best_not b e f less said = omega (arith, said.least k (record { from = s.from; closing = omega arith; limited = omega arith }))

  pub best_end : last d i < k → Best d h p i
  unfolding last_of
  best_end b = record { least = λ j win. s.passed j win.from (omega (arith, win.closing, win.limited)) }

-- ---- the whole check

-- a plan that is not refused, and one that is
pub plan_legal : {d : Day} {h : List ℕ} {found : Result ℕ Refusal} → found ≡ plan_check d h → false ≡ is_err found → Legal d h
plan_legal {d} {h} {found = Ok t} e f = (found_legal d h (sym e)).legal
plan_legal {found = Err a} e f = absurd (true_false (sym f))

module _ {d : Day} {h p : List ℕ} where
  pub no_plan_lem : {found : Result ℕ Refusal} → found ≡ plan_check d h → true ≡ is_err found → Decides false ((valid d ≡ true) × Accepted d h p)
  no_plan_lem {found = Ok t} e f = absurd (true_false f)
  no_plan_lem {found = Err a} e f = say_no (λ s. found_refused d h (sym e) s.0 s.1.legal)

  pub by_best : valid d ≡ true → Legal d h → length p ≡ counted d → ((k : ℕ) → 1 ≤ k → k ≤ counted d → Unsold d h p k) → {r : Bool}
      → Decides r ((i : ℕ) → i < length h → Best d h p i) → Decides r ((valid d ≡ true) × Accepted d h p) × (r ≡ true → Cheapest d h)
  by_best good legal each unsold {r} best = (
    record { yes = λ e. (good, accept (best.yes e)); no = λ e s. best.no e (λ i b. record { least = λ k win. s.1.least i k (omega (arith, legal.each)) win }) },
    λ e. accepted_is_cheapest (valid_means good) (accept (best.yes e)),
  )
    where
      accept : ((i : ℕ) → i < length h → Best d h p i) → Accepted d h p
      accept all = record {
        legal = legal;
        each = each;
        unsold = λ k a b. (unsold k a b).free;
        least = λ i k b win. (all i (omega (arith, legal.each))).least k win;
      }
