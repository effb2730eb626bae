-- The rows of all forecasts, brought up to date one after another.
-- Assumes nothing.
use mathlib.Core.Path.{◌≡◌, ap, sym, ◌∙◌}
use mathlib.Core.Logic.{◌≢◌, inl, inr}
use mathlib.Core.List.{List, ◌++◌}
use Prim.Native.Nat.{ℕ, ◌+◌, ◌-◌, ◌*◌, ◌≤◌, ◌<◌}
use native.Mathlib.Omega.{arith}
use lib.ListN.{length, take, drop}
use borrow.Rule.Slice.PartMut.{put_mid, same_len_mid}
use Rattle.assignment.specs.Rows.{el}
use Rattle.assignment.proofs.Tests.{eq?}
use Rattle.day.specs.Day.{period_row}
use Rattle.forecast_plan.specs.Forecast.{forecast_at}
use Rattle.forecast_plan.specs.Loop.{Parted, Counts, Known, Behind, Turn, waits_of}
use Rattle.forecast_plan.proofs.Landing.{room_same}
use Rattle.forecast_plan.proofs.Parts.{parted_days, parted_waits, parted_part, part_size, part_at, put_here, put_others}

-- those of the first s forecasts are known to the end, the others before `from`
pub record Refreshed (p n : ℕ) (rows held_to waits : List ℕ) (from s : ℕ) : Type 0 where
  pub some : 1 ≤ p
  pub first : 1 ≤ from
  pub last : from ≤ p + 1
  pub parted : Parted p n rows waits
  pub counts : Counts held_to
  pub upto : s ≤ n
  pub done : (t : ℕ) → t < s → Known (el held_to) (forecast_at p rows t) (waits_of waits t) (p + 1)
  pub others : (t : ℕ) → s ≤ t → t < n → Known (el held_to) (forecast_at p rows t) (waits_of waits t) from
  pub behind : (t : ℕ) → s ≤ t → t < n → Behind (el held_to) (forecast_at p rows t) (waits_of waits t) from

-- a row that has the same entries knows as much
module _ {held_to : ℕ → ℕ} {capacities : List ℕ} {waits other : ℕ → ℕ} {from : ℕ} (short : length capacities < period_row)
    (same : (k : ℕ) → k < period_row → other k ≡ waits k) where
  known_same : Known held_to capacities waits from → Known held_to capacities other from
  known_same known = record { each = λ k some b in_day. same k (omega arith) ∙ known.each k some b in_day }

  behind_same : Behind held_to capacities waits from → Behind held_to capacities other from
  behind_same behind = record {
    each = λ k b in_day. same k (omega arith) ∙ behind.each k (rw (room_same other waits capacities from (λ j l to. same j (omega arith))) at b) in_day;
  }

module _ {p n : ℕ} {rows held_to waits : List ℕ} {from : ℕ} where
  module _ {s : ℕ} (r : Refreshed p n rows held_to waits from s) where
    module _ (l : s < n) {capacities : List ℕ} (is : capacities ≡ forecast_at p rows s) where
      days : length capacities ≡ p
      days = ap length is ∙ parted_days r.parted l

      -- the next forecast's row
      pub refreshed_one : Turn held_to capacities (take (s * 98 + 98 - s * 98) (drop (s * 98) waits)) from
          × Behind (el held_to) capacities (el (take (s * 98 + 98 - s * 98) (drop (s * 98) waits))) from
          × (1 ≤ from) × (from ≤ length capacities + 1) × (1 ≤ length capacities)
      refreshed_one = rw (part_size s) (
        record {
          periods = omega (arith, days, r.parted.periods);
          counts = r.counts;
          sizes = parted_part r.parted l;
          known = known_same short (λ k b. part_at (s * 98) 98 waits k b) (rw is (r.others s (omega arith) l));
        },
        behind_same short (λ k b. part_at (s * 98) 98 waits k b) (rw is (r.behind s (omega arith) l)),
        r.first,
        omega (arith, days, r.last),
        omega (arith, days, r.some),
      )
        where
          short : length capacities < period_row
          short = omega (arith, days, r.parted.periods)

      pub refreshed_next : {part : List ℕ} → Turn held_to capacities part (length capacities + 1)
          → Refreshed p n rows held_to (put_mid (s * 98) (s * 98 + 98 - s * 98) waits part) from (s + 1)
      refreshed_next {part} t = rw (part_size s) (record {
        some = r.some;
        first = r.first;
        last = r.last;
        parted = record {
          periods = r.parted.periods;
          forecasts = r.parted.forecasts;
          whole = r.parted.whole;
          sizes = same_len_mid (s * 98) 98 waits part (t.sizes ∙ sym (parted_part r.parted l)) ∙ r.parted.sizes;
        };
        counts = r.counts;
        upto = omega arith;
        done = λ o b. elim (eq? o s) [
          | inl e ↦ rw e (known_same (short s l) (λ k c. put_here (s * 98) 98 waits part room t.sizes k c) (rw (sym is, sym days) t.known))
          | inr other ↦ known_same (short o (omega arith)) (stay o other) (r.done o (omega arith))
        ];
        others = λ o b c. known_same (short o c) (stay o (λ y. omega arith)) (r.others o (omega arith) c);
        behind = λ o b c. behind_same (short o c) (stay o (λ y. omega arith)) (r.behind o (omega arith) c);
      })
        where
          room : s * 98 + 98 ≤ length waits
          room = parted_waits r.parted l

          short : (o : ℕ) → o < n → length (forecast_at p rows o) < period_row
          short o b = omega (arith, r.parted.periods, parted_days r.parted b)

          stay : (o : ℕ) → o ≢ s → (k : ℕ) → k < period_row
              → waits_of (take (s * 98) waits ++ (part ++ drop 98 (drop (s * 98) waits))) o k ≡ waits_of waits o k
          stay o other k c = put_others 98 s o waits part room t.sizes other k c
