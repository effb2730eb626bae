-- What one more landing saves: at most the price that the check accepts. Prices that are saved in full are therefore the smallest, and a
-- day has only one row of them.
-- Assumes nothing.
use mathlib.Core.Path.{◌≡◌, refl, sym, ap, ◌∙◌}
use mathlib.Core.Logic.{◌≢◌, inl, inr}
use mathlib.Core.List.{List}
use Prim.Native.Nat.{ℕ, suc, ◌+◌, ◌≤◌}
use native.Mathlib.Omega.{arith}
use lib.ListN.{length, length-set}
use lib.Seq.{ext_get_or}
use lib.Dec.{ltb, eqb}
use Rattle.assignment.specs.Sum.{gate}
use Rattle.assignment.specs.Assignment as A
use Rattle.assignment.specs.Instances.{more}
use Rattle.assignment.specs.Insertion.{Sound}
use Rattle.assignment.proofs.Tests.{lt?, eq?, gate_eq, gate_ne, gate_le}
use Rattle.assignment.proofs.Duality.{legal_in, dual}
use Rattle.assignment.proofs.Saving.{saved, saved_legal}
use Rattle.day.specs.Day.{Day, P, N, of_period, capacity, takes, counted, land, total, last_of, last}
use Rattle.day.specs.Plan.{Legal, Accepted, Smallest, one_more, Saves, PricesSave}
use Rattle.day.specs.Valid.{ValidFlights, Valid}
use Rattle.day.specs.Instance.{instance}
use Rattle.day.proofs.Costs.{period_out, period_moved, period_set_out, takes_closing, takes_other, counted_to}
use Rattle.day.proofs.Valid.{valid_flights}
use Rattle.day.proofs.Instance.{total_instance, legal_instance, instance_legal, holds_legal, holds_total, accepted_instance, instance_accepted, accepted_is_cheapest}

-- ---- the day with one more landing in period k, as an assignment problem

module _ (d : Day) (k : ℕ) where
  pub same_periods : P (one_more d k) ≡ P d
  same_periods = length-set d.capacities _ _

  same_last : (i : ℕ) → last (one_more d k) i ≡ last d i
  unfolding last_of
  same_last i = rw same_periods refl

  module _ (from : 1 ≤ k) (to : k ≤ counted d) where
    more_capacity : (j : ℕ) → j ≢ P d + 1 → capacity (one_more d k) j ≡ capacity d j + gate (eqb k j) 1
    more_capacity j other = elim (lt? (P d) k) [
      | inl past ↦ omega (
        arith,
        period_set_out d.capacities k (capacity d k + 1) j past,
        gate_ne k j 1 (λ e. other (omega (arith, counted_to (P d) d.closing))),
      )
      | inr in_day ↦
          let v = period_moved d.capacities k (capacity d k + 1) from (omega arith) in
          elim (eq? k j) [
            | inl e ↦ rw (← e) (omega (arith, v.here, gate_eq k k 1 refl))
            | inr e ↦ omega (arith, v.others j (λ f. e (sym f)), gate_ne k j 1 e)
          ]
    ]

    more_takes : (j : ℕ) → takes (one_more d k) j ≡ takes d j + gate (eqb k j) 1
    more_takes j = elim (eq? j (P d + 1)) [
      | inl e ↦ rw e (omega (
        arith,
        takes_closing d.capacities d.closing,
        ap (λ p. takes (one_more d k) (p + 1)) same_periods,
        takes_closing (one_more d k).capacities (one_more d k).closing,
      ))
      | inr other ↦ omega (
        arith,
        more_capacity j other,
        takes_other d.capacities d.closing j other,
        takes_other (one_more d k).capacities (one_more d k).closing j (λ e. other (omega (arith, same_periods))),
      )
    ]

    -- one more place in the assignment problem
    more_places : {x : ℕ → ℕ} → A.Legal (instance (one_more d k)) x → A.Legal (more (instance d) k) x
    more_places = legal_in (instance (one_more d k)) (more (instance d) k) refl (λ i. omega arith) (λ i. omega (arith, same_last i)) (λ j. omega (arith, more_takes j))

    places_more : {x : ℕ → ℕ} → A.Legal (more (instance d) k) x → A.Legal (instance (one_more d k)) x
    places_more = legal_in (more (instance d) k) (instance (one_more d k)) refl (λ i. omega arith) (λ i. omega (arith, same_last i)) (λ j. omega (arith, more_takes j))

    -- what is legal stays so with one more place
    pub legal_more : {h : List ℕ} → ValidFlights (P d) d.flights → Legal d h → Legal (one_more d k) h
    legal_more {h} v legal =
        instance_legal legal.each (legal_in (instance d) (instance (one_more d k)) refl (λ i. omega arith) (λ i. omega (arith, same_last i))
        (λ j. omega (arith, more_takes j)) (legal_instance v legal))

-- ---- savings

module _ {d : Day} (v : Valid d) {h p : List ℕ} (said : Accepted d h p) where
  module _ {k : ℕ} (from : 1 ≤ k) (to : k ≤ counted d) where
    -- with one more landing in period k no legal plan saves more than its price
    pub saves_most : {z : List ℕ} → Legal (one_more d k) z → total d h ≤ total d z + of_period p k
    saves_most {z} legal = omega (
      arith,
      dual (instance d) (land d h) (of_period p) (land d z) k (accepted_instance v said) (more_places d k from to (legal_instance flights legal)),
      total_instance d h,
      total_instance d z,
      gate_le (ltb k (P d + 2)) (of_period p k) (of_period p k) (λ _. omega arith),
    )
      where
        flights : ValidFlights (P (one_more d k)) d.flights
        flights = rw (same_periods d k) (valid_flights v)

    -- so one that saves the price is cheapest
    pub saves_price : {z : List ℕ} → Legal (one_more d k) z → total d z + of_period p k ≡ total d h → Saves d (total d h) k (of_period p k)
    saves_price {z} legal falls = record {
      plan = z;
      cheapest = record { legal = legal; least = λ other l. omega (arith, saves_most l) };
      falls_by = falls;
    }

-- Prices that are saved in full are the smallest. Let a row be accepted for another plan. Both plans are cheapest, so their totals are the
-- same. The plan that saves the price of k with one more landing there saves at most the price that the other row has for k.
pub saved_smallest : {d : Day} → Valid d → {h p : List ℕ} → Accepted d h p
    → PricesSave d (total d h) p → Smallest d h p
saved_smallest {d} v {h} {p} said saves = record { accepted = said; lowest = lowest }
  where
    lowest : (g r : List ℕ) → Accepted d g r → (k : ℕ) → of_period p k ≤ of_period r k
    lowest g r other k = elim (eq? k 0) [
      | inl e ↦ rw e (omega arith)
      | inr some ↦ elim (lt? (counted d) k) [
        | inl past ↦ omega (arith, period_out p k (omega (arith, said.each)))
        | inr to ↦
            let s = saves k (omega arith) to in
            omega (
              arith,
              s.falls_by,
              saves_most v other (omega arith) to s.cheapest.legal,
              (accepted_is_cheapest v said).least g other.legal,
            )
      ]
    ]

-- only one row is smallest, whichever plans it is accepted for
pub one_row : {d : Day} {h p g r : List ℕ} → Smallest d h p → Smallest d g r → p ≡ r
one_row {d} {h} {p} {g} {r} a b =
    ext_get_or 0 p r (a.accepted.each ∙ sym b.accepted.each) (λ k _. omega (arith, a.lowest g r b.accepted (suc k), b.lowest h p a.accepted (suc k)))

-- ---- prices that are held up are accepted, and saved in full

module _ {d : Day} (v : Valid d) (h p : List ℕ) (holds : length h ≡ N d) (prices : length p ≡ counted d)
    (s : Sound (instance d) (land d h) (of_period p)) where
  sound_accepted : Accepted d h p
  sound_accepted = instance_accepted holds prices s.accepted

  pub sound_saves : PricesSave d (total d h) p
  unfolding A.total
  sound_saves k from to =
      let legal = places_more d k from to (saved_legal s k) in
      saves_price v sound_accepted from to (holds_legal (one_more d k) legal)
      (omega (arith, holds_total (one_more d k) legal, (saved s k).saves, total_instance d h))

  pub sound_smallest : Smallest d h p
  sound_smallest = saved_smallest v sound_accepted sound_saves
