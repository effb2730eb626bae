-- A flight's line read: the hold that it shows, and that the line of a legal plan is short enough to be read.
-- Assumes nothing.
use Prim.Native.Nat.{ℕ, ◌<◌, ◌+◌}
use native.Mathlib.Omega.{arith}
use mathlib.Core.Path.{◌≡◌, refl, sym, ap, ap₂, ◌∙◌}
use mathlib.Core.List.{List, ◌++◌}
use lib.ListN.{length, get_or, drop}
use lib.Dec.{lit<}
use Rattle.text.specs.Digits.{line}
use Rattle.text.specs.Reading.{some_number, separated_at, row_after, values, last_of, line_at}
use Rattle.std.specs.Prelude.{None}
use Rattle.text.proofs.Digits.{count_le}
use Rattle.text.proofs.Lines.{line_read, line_write, line_row}
use Rattle.day.specs.Day.{Day, N, number, due, hold, land, cost}
use Rattle.day.specs.Plan.{Legal}
use Rattle.day.specs.Valid.{Valid}
use Rattle.day.proofs.Instance.{hold_le, cost_le}
use Rattle.plan_reader.specs.Loop.{line_values, line_cost, Shows, ShortLine, HoldRead}

-- ---- the line at a place

module _ (f s : List ℕ) (at i : ℕ) where
  -- no line of five numbers stands there
  pub hold_no_line : last_of (line_at 4 7 s at) ≡ None → HoldRead f s at i None
  hold_no_line e h next short a =
      let w = line_write {k = 4} {most = 7} {s = s} {at = at} (record { count = refl; short = short.values; last_short = short.cost; stands = a }) in
      let q : None ≡ some_number (line_cost f i h) next = sym e ∙ ap last_of w in
      let z : ◌≡◌ {A = ℕ} 0 1 = cc in
      omega (arith, z)

  module _ (row₀ row : List ℕ) (c next : ℕ) (long : length row₀ ≡ 4) (is : row ≡ row_after (separated_at 4 7 s at) row₀)
      (e : last_of (line_at 4 7 s at) ≡ some_number c next) where
    here : line_at 4 7 s at ≡ values row c next
    here = rw is (line_row 4 7 s at row₀ c next long e)

    pub row_long : length row ≡ 4
    row_long = (line_read here).count

    pub hold_shown : Shows f i row c → HoldRead f s at i (some_number (get_or row 3 0) next)
    hold_shown w =
        let a = (line_read here).stands in
        let g : line row c ≡ line (line_values f i (get_or row 3 0)) (line_cost f i (get_or row 3 0)) = ap₂ line w.values w.cost_is in
        record { text = a.text ∙ ap (λ (l : List ℕ). l ++ drop next s) g; place = a.place ∙ ap (λ (l : List ℕ). at + length l) g }

    pub hold_not_shown : (Shows f i row c → ⊥) → HoldRead f s at i None
    hold_not_shown other h x short a =
        let w = line_write {k = 4} {most = 7} {s = s} {at = at} (record { count = refl; short = short.values; last_short = short.cost; stands = a }) in
        let q : values row c next ≡ values (line_values f i h) (line_cost f i h) x = sym here ∙ w in
        let p : row ≡ line_values f i h = cc in
        let r : c ≡ line_cost f i h = cc in
        let g : get_or row 3 0 ≡ h = ap (λ (l : List ℕ). get_or l 3 0) p in
        other (record { values = p ∙ ap (line_values f i) (sym g); cost_is = r ∙ ap (line_cost f i) (sym g) })

-- ---- a legal plan's lines are short

pub legal_short : {d : Day} {h : List ℕ} → Valid d → Legal d h → (i : ℕ) → i < N d → ShortLine d.flights i (hold h i)
legal_short {d} {h} v legal i l =
    let w = legal.window i l in
    record {
      values = (
        count_le (number d i) 7 (lit< tt) (omega (arith, (v.flight i l).number_to)),
        (
          count_le (due d i) 7 (lit< tt) (omega (arith, (v.flight i l).due_to, v.periods_to)),
          (
            count_le (land d h i) 7 (lit< tt) (omega (arith, w.closing, v.periods_to)),
            (count_le (hold h i) 7 (lit< tt) (omega (arith, hold_le v legal l)), tt),
          ),
        ),
      );
      cost = count_le (cost d i (hold h i)) 7 (lit< tt) (omega (arith, cost_le v i (hold h i) l (hold_le v legal l)));
    }
