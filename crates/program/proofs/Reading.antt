-- A sheet that was read left its day at the front of the two rows.
-- Assumes nothing.
use Rattle.std.proofs.Common.{Result, Ok, Err}
use Prim.Native.Nat.{ℕ, ◌≤◌, ◌*◌}
use native.Mathlib.Omega.{arith}
use mathlib.Core.Path.{◌≡◌, refl, ap, sym, ◌∙◌}
use mathlib.Core.Bool.{true}
use mathlib.Core.List.{List}
use lib.ListN.{replicate, length-replicate, length, take, drop, length-append}
use lib.Seq.{take_at, length-take-le}
use borrow.Author.Tests.{eq-eqb}
use Rattle.answers.specs.declared.Refusal.{Refusal}
use Rattle.sheet.specs.declared.SheetRead.{SheetRead}
use Rattle.day.specs.Day.{day, flight_count, counted_of, counted, N, most_periods, most_flights, valid, width}
use Rattle.day.proofs.Costs.{counted_to}
use Rattle.day.proofs.Valid.{valid_means}
use Rattle.day.specs.declared.Flight.{Flight}
use Rattle.day.specs.Flights.{row_of}
use Rattle.sheet.specs.Sheet.{Reading, read, refused, read_sheet, reading, answer_of, capacities_after, flights_after}
use Rattle.sheet.proofs.Good.{row_whole, count_row}
use Rattle.sheet.proofs.RoundTrip.{read_is_valid}
use Rattle.program.specs.Program.{Front, refusal_of, PrintsDay, InRows, Prints}

-- the sheet's day, of p periods, n flights and this closing number, stands at the front of the rows
pub record Held (sheet : List ℕ) (p n closing : ℕ) (capacity-row flight-row : List ℕ) : Type 0 where
  pub capacities : List ℕ
  pub flights : List Flight
  pub is_read : read_sheet sheet ≡ read capacities flights closing
  pub good : valid (day capacities (row_of flights) closing) ≡ true
  pub periods : length capacities ≡ p
  pub count : length flights ≡ n
  pub row : length (row_of flights) ≡ n * width
  pub few_periods : p ≤ most_periods
  pub few_flights : n ≤ most_flights
  pub capacities_there : take p capacity-row ≡ capacities
  pub flights_there : take (n * width) flight-row ≡ row_of flights
  pub capacities_within : p ≤ length capacity-row
  pub flights_within : n * width ≤ length flight-row

-- rows of the most periods and flights are never refused for their length
opened : (sheet c f : List ℕ) → most_periods ≡ length c → most_flights * width ≡ length f → reading sheet c f ≡ read_sheet sheet
unfolding reading
opened sheet c f p q = rw (eq-eqb (length c) most_periods (sym p), eq-eqb (length f) (most_flights * width) (sym q))

ok_same : {a b : SheetRead} → ◌≡◌ {A = Result SheetRead Refusal} (Ok a) (Ok b) → a ≡ b
ok_same e = cc

err_same : {a b : Refusal} → ◌≡◌ {A = Result SheetRead Refusal} (Err a) (Err b) → a ≡ b
err_same e = cc

module _ (sheet c f : List ℕ) (p : most_periods ≡ length c) (q : most_flights * width ≡ length f) where
  pub held : {r : SheetRead} {c' f' : List ℕ} → Ok r ≡ answer_of (reading sheet c f) → c' ≡ capacities_after (reading sheet c f) c
      → f' ≡ flights_after (reading sheet c f) f → Held sheet r.periods r.flights r.closing c' f'
  held {r} {c'} {f'} is caps rows =
      let o = opened sheet c f p q in
      go (read_sheet sheet) refl (rw o at is) (rw o at caps) (rw o at rows)
    where
      go : (x : Reading) → read_sheet sheet ≡ x → Ok r ≡ answer_of x → c' ≡ capacities_after x c → f' ≡ flights_after x f
          → Held sheet r.periods r.flights r.closing c' f'
      go (refused a) e is caps rows = absurd (let z : ◌≡◌ {A = ℕ} 0 1 = cc in omega (arith, z))
      go (read C F k) e is caps rows =
          let good = read_is_valid sheet C F k e in
          let v = valid_means good in
          let line : r.closing ≡ k = ap (λ (x : SheetRead). x.closing) (ok_same is) in
          let periods : length C ≡ r.periods = sym (ap (λ (x : SheetRead). x.periods) (ok_same is)) in
          let count : length F ≡ r.flights = sym (ap (λ (x : SheetRead). x.flights) (ok_same is)) in
          let row : length (row_of F) ≡ r.flights * width = omega (arith, row_whole (day C (row_of F) k) good, count_row C F k) in
          record {
            capacities = C;
            flights = F;
            is_read = rw line e;
            good = rw line good;
            periods = periods;
            count = count;
            row = row;
            few_periods = omega (arith, v.periods_to);
            few_flights = omega (arith, v.flights_to, count_row C F k);
            capacities_there = rw caps (take_at C (drop (length C) c) r.periods periods);
            flights_there = rw rows (take_at (row_of F) (drop (length (row_of F)) f) (r.flights * width) row);
            capacities_within = rw (caps, length-append) (omega arith);
            flights_within = rw (rows, length-append) (omega arith);
          }

  pub prints_refusal : (buffer : List ℕ) {refusal : Refusal} {r : ℕ} → Err refusal ≡ answer_of (reading sheet c f)
      → Front buffer r (refusal_of refusal) → (r ≤ length buffer) × Prints sheet (take r buffer)
  unfolding Prints
  prints_refusal buffer {refusal} {r} is front = (front.within, go (read_sheet sheet) refl (rw (opened sheet c f p q) at is))
    where
      go : (x : Reading) → read_sheet sheet ≡ x → Err refusal ≡ answer_of x → Prints sheet (take r buffer)
      go (read C F k) e is = absurd (let z : ◌≡◌ {A = ℕ} 0 1 = cc in omega (arith, z))
      go (refused a) e is = rw e (front.bytes ∙ ap refusal_of (err_same is))

-- the parts of the rows that are lent on are the day
module _ {sheet c f : List ℕ} {p n closing : ℕ} (h : Held sheet p n closing c f) where
  day_is : day (take p c) (take (n * width) f) closing ≡ day h.capacities (row_of h.flights) closing
  day_is = rw (h.capacities_there, h.flights_there)

  pub in_rows : InRows p n closing c f
  in_rows = record {
    few_periods = h.few_periods;
    few_flights = h.few_flights;
    capacities_within = h.capacities_within;
    flights_within = h.flights_within;
    good = ap valid day_is ∙ h.good;
  }

  pub prints_day : (buffer : List ℕ) {r : ℕ} → (r ≤ length buffer) × PrintsDay (day (take p c) (take (n * width) f) closing) (take r buffer)
      → (r ≤ length buffer) × Prints sheet (take r buffer)
  unfolding Prints
  prints_day buffer done = (done.0, rw h.is_read (rw day_is at done.1))

-- rows that are lent for a plan of that day have its lengths
module _ {c f : List ℕ} {p n closing : ℕ} (r : InRows p n closing c f) where
  -- a row of 97 entries has one for each period that has a price, with a closing line or without
  pub priced_within : {priced : ℕ} → priced ≡ counted_of p closing → priced ≤ 97
  priced_within is = omega (arith, counted_to p closing, r.few_periods)

  pub priced_length : {priced : ℕ} → priced ≡ counted_of p closing → length (take priced (replicate {A = ℕ} 97 0)) ≡ priced
  priced_length {priced} is = length-take-le priced (replicate {A = ℕ} 97 0) (rw length-replicate (priced_within is))

  pub can_plan : (buffer : List ℕ) {priced : ℕ} → priced ≡ counted_of p closing → 4096 ≤ length buffer
      → (valid (day (take p c) (take (n * width) f) closing) ≡ true)
      × (length (take n (replicate {A = ℕ} 128 0)) ≡ N (day (take p c) (take (n * width) f) closing))
      × (length (take priced (replicate {A = ℕ} 97 0)) ≡ counted (day (take p c) (take (n * width) f) closing))
      × (4096 ≤ length buffer)
  unfolding flight_count
  can_plan buffer {priced} is room =
      let holds = length-take-le n (replicate {A = ℕ} 128 0) (rw length-replicate r.few_flights) in
      let flights = length-take-le (n * width) f r.flights_within in
      (r.good, omega (arith, holds, flights), priced_length is ∙ is ∙ ap (λ k. counted_of k closing) (sym (length-take-le p c r.capacities_within)), room)
