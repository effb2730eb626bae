-- What the steps of the code come to, a law for each way through a loop or a call.
-- Assumes nothing.
use Rattle.std.proofs.Common.{Ok, Err}
use mathlib.Core.Path.{◌≡◌, refl, sym, ap, ◌∙◌}
use mathlib.Core.Logic.{◌⊎◌, inl, inr}
use mathlib.Core.Bool.{Bool, true, false}
use mathlib.Core.List.{List}
use Prim.Native.Nat.{ℕ, suc, ◌≤◌, ◌<◌, ◌+◌, ◌-◌, ◌^◌, min}
use native.Mathlib.Omega.{arith}
use Rattle.std.specs.Prelude.{Option, Some, None}
use lib.ListN.{length, take, length-take}
use lib.Bits.{bit_or}
use lib.Count.{ones}
use borrow.Author.Tests.{lt-ltb, le-ltb, le-leb, lt-leb}
use Rattle.assignment.specs.Sum.{gate}
use Rattle.assignment.proofs.Sums.{sum_ext}
use Rattle.answers.specs.declared.Refusal.TheVariants.{BadDay, JumpOrLimit, NoSuchPeriod}
use Rattle.day.specs.Day.{Day, P, N, valid, most_flights}
use Rattle.day.specs.Plan.{first_jump_or_limit}
use Rattle.day.proofs.Valid.{valid_means}
use Rattle.quick_plan.specs.Quick.{eligible, rates}
use Rattle.quick_plan.specs.Calls.{place_if}
use Rattle.quick_plan.specs.Loop.{without_line, waiting, row_to}
use Rattle.quick_plan.proofs.Places.{some_place, no_place}
use Rattle.quick_plan.proofs.Rows.{row_eligible, row_to_length}
use Rattle.quick_plan.proofs.Same.{eligible_any}
use Rattle.period_card.specs.PeriodCard.{word, marks, size, card, period_card}
use Rattle.period_card.specs.declared.Marks.{Marks}
use Rattle.period_card.specs.declared.Card.{Card}
use Rattle.period_card.proofs.Words.{lo_on, hi_on, lo_past, hi_before, lo_off, hi_off, size_of, marks_ext}

-- ---- the marks

-- the words mark who waits among the first i flights
pub record Marked (d : Day) (h : List ℕ) (j i low high : ℕ) : Type 0 where
  pub is_valid : valid d ≡ true
  pub rows : length h ≡ N d
  pub within : i ≤ length h
  pub low_marks : low ≡ word (waiting d h j) 0 (min i 64)
  pub high_marks : high ≡ word (waiting d h j) 64 (i - 64)

pub marked_start : {d : Day} {h : List ℕ} {j : ℕ} → valid d ≡ true → length h ≡ N d → Marked d h j 0 0 0
unfolding word
marked_start v e = record { is_valid = v; rows = e; within = omega arith; low_marks = refl; high_marks = refl }

module _ {d : Day} {h : List ℕ} {j i low high : ℕ} (s : Marked d h j i low high) where
  pub marked_there : i < length h → i < N d
  marked_there l = omega (arith, s.rows)

  pub marked_small : length h ≤ most_flights
  marked_small = omega (arith, s.rows, (valid_means s.is_valid).flights_to)

  module _ (l : i < length h) {r : Bool} (er : r ≡ waiting d h j i) where
    pub marked_low : r ≡ true → i < 64 → {x : ℕ} → x ≡ bit_or low (2 ^ i) → Marked d h j (i + 1) x high
    marked_low t b q = record {
      is_valid = s.is_valid;
      rows = s.rows;
      within = omega arith;
      low_marks = q ∙ ap (λ w. bit_or w (2 ^ i)) s.low_marks ∙ lo_on (waiting d h j) i b (sym er ∙ t);
      high_marks = s.high_marks ∙ hi_before (waiting d h j) i b;
    }

    pub marked_high : r ≡ true → 64 ≤ i → {x : ℕ} → x ≡ bit_or high (2 ^ (i - 64)) → Marked d h j (i + 1) low x
    marked_high t g q = record {
      is_valid = s.is_valid;
      rows = s.rows;
      within = omega arith;
      low_marks = s.low_marks ∙ lo_past (waiting d h j) i g;
      high_marks = q ∙ ap (λ w. bit_or w (2 ^ (i - 64))) s.high_marks ∙ hi_on (waiting d h j) i g (sym er ∙ t);
    }

    pub marked_skip : r ≡ false → Marked d h j (i + 1) low high
    marked_skip t = record {
      is_valid = s.is_valid;
      rows = s.rows;
      within = omega arith;
      low_marks = s.low_marks ∙ lo_off (waiting d h j) i (sym er ∙ t);
      high_marks = s.high_marks ∙ hi_off (waiting d h j) i (sym er ∙ t);
    }

  pub marked_end : length h ≤ i → ◌≡◌ {A = Marks} (record { low = low; high = high }) (marks (waiting d h j) (length h))
  unfolding marks
  marked_end g = let q : i ≡ length h = omega (arith, s.within) in rw (s.low_marks, s.high_marks, q)

-- ---- the card

pub part_length : (row : List ℕ) (n : ℕ) → n ≤ length row → length (take n row) ≡ n
part_length row n l = simp length-take (omega arith)

-- who waits after the periods before j is who is eligible in j
pub card_is : (d : Day) {h : List ℕ} {j : ℕ} {s : Marks} → valid d ≡ true → 1 ≤ j → j ≤ P d → h ≡ row_to d (rates d) (j - 1)
    → s ≡ marks (waiting d h j) (length h)
    → ◌≡◌ {A = Card} (record { low = s.low; high = s.high; size = ones s.low + ones s.high }) (card d j)
unfolding card
card_is d {h = h} {j = j} v a b eh es =
    rw (es, eh, row_to_length d (rates d) v (j - 1) (omega arith), marks_ext (waiting d (row_to d (rates d) (j - 1)) j) (eligible d (rates d) j) (N d) who, size_of (eligible d (rates d) j) (N d))
  where
    up : suc (j - 1) ≡ j
    up = omega arith

    who : (i : ℕ) → i < N d → waiting d (row_to d (rates d) (j - 1)) j i ≡ eligible d (rates d) j i
    who i l = rw up at (row_eligible d (rates d) v (j - 1) (omega arith) i l)

-- the closing line changes nothing on it
pub card_any : (d : Day) {j : ℕ} → j ≤ P d → card (without_line d) j ≡ card d j
unfolding card size
card_any d {j = j} l =
    let same = eligible_any d (rates d) j l in
    rw (
      marks_ext (eligible (without_line d) (rates d) j) (eligible d (rates d) j) (N d) same,
      sum_ext (N d) (λ i. gate (eligible (without_line d) (rates d) j i) 1) (λ i. gate (eligible d (rates d) j i) 1) (λ i b. ap (λ t. gate t 1) (same i b)),
    )

-- so the card may be made of the day without its line
pub card_opened : (d : Day) {opened : Day} {j : ℕ} → opened ≡ without_line d → j ≤ P d → card opened j ≡ card d j
card_opened d same l = rw same (card_any d l)

-- ---- the call

module _ (d : Day) (j : ℕ) where
  pub bad_day : valid d ≡ false → period_card d j ≡ Err BadDay
  unfolding period_card
  bad_day e = rw e

  module _ (v : valid d ≡ true) {found : Option ℕ} (e : found ≡ place_if (N d) (first_jump_or_limit d.flights)) where
    pub jump_or_limit_lem : {place : ℕ} → found ≡ Some place → period_card d j ≡ Err (JumpOrLimit place)
    unfolding period_card
    jump_or_limit_lem q = let w = some_place (sym e ∙ q) in rw (v, w.0, lt-ltb (first_jump_or_limit d.flights) (N d) w.1)

    module _ (none : found ≡ None) where
      g : N d ≤ first_jump_or_limit d.flights
      g = no_place (sym e ∙ none)

      pub no_period : (j ≡ 0) ⊎ (P d < j) → period_card d j ≡ Err (NoSuchPeriod (P d))
      unfolding period_card
      no_period (inl q) = rw (v, le-ltb (first_jump_or_limit d.flights) (N d) g, q)
      no_period (inr l) = rw (v, le-ltb (first_jump_or_limit d.flights) (N d) g, le-leb 1 j (omega arith), lt-leb j (P d) l)

      pub is_card : 1 ≤ j → j ≤ P d → period_card d j ≡ Ok (card d j)
      unfolding period_card
      is_card a b = rw (v, le-ltb (first_jump_or_limit d.flights) (N d) g, le-leb 1 j a, le-leb j (P d) b)
