-- The row of periods in the air by weight: how one forecast's part comes to it, and how all of them do.
-- Assumes nothing.
use mathlib.Core.Path.{◌≡◌, refl, ap, sym, ◌∙◌}
use mathlib.Core.List.{List}
use Prim.Native.Nat.{ℕ, ◌+◌, ◌-◌, ◌*◌, ◌≤◌, ◌<◌}
use native.Mathlib.Nat.{mul-le-mul}
use native.Mathlib.Omega.{arith}
use native.Mathlib.Numerals.{add-one}
use lib.ListN.{length, take, drop}
use Rattle.assignment.specs.Sum.{sum}
use Rattle.assignment.specs.Rows.{el}
use Rattle.assignment.proofs.Sums.{sum_most}
use Rattle.forecast_plan.specs.Forecast.{forecast_at, first_room}
use Rattle.forecast_plan.specs.Loop.{Adding, waits_of, airborne, Weighed}
use Rattle.forecast_plan.proofs.Landing.{room_closing, room_from, room_to, room_same}
use Rattle.forecast_plan.proofs.Parts.{parted_days, parted_part, part_size, part_at}

-- ---- one forecast

module _ {capacities waits : List ℕ} {weight due : ℕ} {air₀ air : List ℕ} {j : ℕ} (a : Adding capacities waits weight due air₀ air j) where
  module _ {lands : ℕ} (e : lands ≡ first_room (el waits) capacities (j - 1)) (l : due < j) where
    pub adding_lands : j - 1 ≤ lands
    adding_lands = omega (arith, e, room_from (el waits) capacities (j - 1))

    pub adding_fits : weight * (lands - (j - 1)) ≤ 97000
    adding_fits =
        omega (arith, mul-le-mul {n₁ = weight} {m₁ = lands - (j - 1)} {n₂ = 1000} {m₂ = 97} a.odds (omega (arith, e, a.periods, room_to (el waits) capacities (j - 1) (omega (arith, a.upto)))))

    pub adding_low : el air (j - 1) ≤ 768000
    adding_low = omega (arith, a.others (j - 1) (omega arith), a.low (j - 1) (omega arith) (omega (arith, a.upto)))

-- ---- all forecasts

module _ {p : ℕ} {weights rows waits : List ℕ} {due : ℕ} {air : List ℕ} {s : ℕ} (w : Weighed p weights rows waits due air s) where
  -- the periods in the air under s forecasts are at most 96 for each thousandth
  pub weighed_low : (q : ℕ) → due ≤ q → q ≤ p + 1 → el air q ≤ s * 96000
  weighed_low q from to =
      omega (
        arith,
        w.sums q from to,
        sum_most s 96000 (λ t. el weights t * (first_room (waits_of waits t) (forecast_at p rows t) q - q)) (λ t b.
            let days = parted_days w.parted {s = t} (omega (arith, w.upto)) in
            omega (arith, mul-le-mul {n₁ = el weights t} {m₁ = first_room (waits_of waits t) (forecast_at p rows t) q - q} {n₂ = 1000} {m₂ = 96} (w.odds t) (omega (arith, days, w.from, w.parted.periods, room_to (waits_of waits t) (forecast_at p rows t) q (omega (arith, days)))))),
      )

-- the next forecast
module _ {p : ℕ} {weights rows waits : List ℕ} {due : ℕ} {air : List ℕ} {s : ℕ} (w : Weighed p weights rows waits due air s) (l : s < length weights) where
  module _ {capacities : List ℕ} (is : capacities ≡ forecast_at p rows s) {v : ℕ} (odds : v ≡ el weights s) where
    days : length capacities ≡ p
    days = ap length is ∙ parted_days w.parted l

    -- the next forecast's part is yet to be added
    pub weighed_adding : Adding capacities (take (s * 98 + 98 - s * 98) (drop (s * 98) waits)) v due air air (length capacities + 1)
    weighed_adding = rw (part_size s) (record {
      periods = omega (arith, days, w.parted.periods);
      waited = parted_part w.parted l;
      sizes = w.sizes;
      odds = omega (arith, odds, w.odds s);
      low = λ q from to. omega (arith, weighed_low w q from (omega (arith, days)), w.parted.forecasts);
      from = w.from;
      downto = omega (arith, days, w.to);
      upto = omega arith;
      added = λ q from to. let last = room_closing (el (take 98 (drop (s * 98) waits))) capacities q (omega arith) in let none : first_room (el (take 98 (drop (s * 98) waits))) capacities q - q ≡ 0 = omega (arith, last) in rw none (omega arith);
      others = λ q b. refl;
    })

    -- and has been
    pub weighed_next : {air₂ : List ℕ} → Adding capacities (take (s * 98 + 98 - s * 98) (drop (s * 98) waits)) v due air air₂ due → Weighed p weights rows waits due air₂ (s + 1)
    unfolding sum
    weighed_next a = record {
      parted = w.parted;
      odds = w.odds;
      from = w.from;
      to = w.to;
      sizes = a.sizes;
      upto = omega arith;
      sums = λ q from to. a.added q from (omega (arith, days)) ∙ next q from to;
    }
      where
        next : (q : ℕ) → due ≤ q → q ≤ p + 1
            → el air q + v * (first_room (el (take (s * 98 + 98 - s * 98) (drop (s * 98) waits))) capacities q - q) ≡ airborne p weights rows waits (s + 1) q
        next q from to =
            let same = room_same (el (take 98 (drop (s * 98) waits))) (waits_of waits s) (forecast_at p rows s) q (λ k f t. part_at (s * 98) 98 waits k (omega (arith, sym (ap length is) ∙ days, w.parted.periods))) in
            rw (part_size s, odds, is, same, w.sums q from to, add-one)
