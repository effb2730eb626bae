-- A line read is the line written, and back; and one law for each way through the functions that read a line.
-- Assumes nothing.
use Prim.Native.Nat.{ℕ, suc, ◌≤◌, ◌<◌, ◌+◌}
use native.Mathlib.Omega.{arith}
use native.Mathlib.Numerals.{add-one}
use mathlib.Core.Logic.{◌⊎◌, inl, inr}
use mathlib.Core.Path.{◌≡◌, refl, ap, sym, ◌∙◌}
use mathlib.Core.List.{List, [], ◌∷◌, ◌++◌}
use mathlib.Core.Bool.{Bool, true, false, cond, ◌||◌}
use lib.ListN.{length, get_or, drop, take-append-drop, get_or-eq_default}
use lib.Seq.{drop-cons, drop-drop}
use lib.Dec.{leb, eqb, lit<}
use borrow.Author.Tests.{le-leb, lt-leb, leb-true, eq-eqb, ne_eqb, eqb-true, lt-ltb, le-ltb}
use Rattle.text.specs.Digits.{digits, ended, separated, line}
use Rattle.text.specs.Reading.{some_number, field, Numbers, whole, upto, place_of, separated_at, row_after, Line, values, no_line, last_of, line_at}
use Rattle.text.specs.Fixed.{starts_with}
use Rattle.text.specs.declared.Number.{Number}
use Rattle.std.specs.Prelude.{Option, Some, None}
use Rattle.std.proofs.lemmas.Option.{same_Some}
use Rattle.text.proofs.Digits.{first_digit, count_le}
use Rattle.text.proofs.Fixed.{starts_is, starts_with_lem}
use Rattle.text.specs.Standing.{Stands, FieldsHere, LineHere}
use Rattle.text.proofs.Reading.{same_read, within, join, parted, picked, at_place, there, field_read, field_write, open_up, end_no_digit, comma_no_digit}
use Rattle.text.proofs.Lines.{separated_read, separated_write, line_read, line_write, all_read, none_read, row_read, line_row}
use Rattle.day.specs.declared.Flight.{Flight}
use Rattle.day.specs.Day.{unlimited, most_periods, flight_fits}
use Rattle.assignment.proofs.Tests.{and_true}
use Rattle.day.proofs.Valid.{inside_means}
use Rattle.sheet.specs.Text.{closing_name, closing_text, limit_text, period_text, before_limit, flight_text}
use Rattle.sheet.specs.Good.{limit_fits, Small}
use Rattle.sheet.specs.declared.PeriodLine.{PeriodLine}
use Rattle.sheet.specs.declared.FlightLine.{FlightLine}
use Rattle.sheet.specs.Lines.{some_period_line, some_flight_line, most_digits, period_of, period_line, closing_line, limit_read, with_limit, limit_field, flight_with, row_with, then_late, then_limit, flight_line}

-- the limit

pub limit_cases : (l : ℕ) → limit_fits l ≡ true → (l ≤ 96) ⊎ (l ≡ 255)
limit_cases l = go (leb l 96) (eqb l 255) refl refl
  where
    go : (a b : Bool) → leb l 96 ≡ a → eqb l 255 ≡ b → a || b ≡ true → (l ≤ 96) ⊎ (l ≡ 255)
    go true b p q e = inl (leb-true l 96 p)
    go false true p q e = inr (eqb-true l 255 q)
    go false false p q e = let z : ◌≡◌ {A = ℕ} 0 1 = cc in absurd (omega arith)

pub text_missing : (l : ℕ) → l ≡ 255 → limit_text l ≡ 45 ∷ 44 ∷ []
unfolding limit_text
text_missing l e = rw e

pub text_number : (l : ℕ) → (l ≡ 255 → ⊥) → limit_text l ≡ ended 44 l
unfolding limit_text
text_number l e = rw (ne_eqb l 255 e)

-- a limit of the table's range is no missing one
pub present : (l : ℕ) → l ≤ 96 → l ≡ 255 → ⊥
present l h e = omega arith

written_fits : (n : ℕ) → limit_fits (limit_read n) ≡ true → (n ≤ 96) × (limit_read n ≡ n)
unfolding limit_read
written_fits n = go (leb n 96) refl
  where
    go : (b : Bool) → leb n 96 ≡ b → leb (cond b n 256) 96 || eqb (cond b n 256) 255 ≡ true → (n ≤ 96) × (cond b n 256 ≡ n)
    go true p e = (leb-true n 96 p, refl)
    go false p e = let z : ◌≡◌ {A = ℕ} 0 1 = cc in absurd (omega arith)

from_number : (s : List ℕ) (at l next : ℕ) → with_limit (field most_digits 44 s at) ≡ some_number l next → limit_fits l ≡ true → Stands (limit_text l) s at next
from_number s at l next e h = go (field most_digits 44 s at) refl e
  where
    go : (p : Option Number) → field most_digits 44 s at ≡ p → with_limit p ≡ some_number l next → Stands (limit_text l) s at next
    go None q r = let z : ◌≡◌ {A = ℕ} 0 1 = cc in absurd (omega arith)
    go (Some p) q r =
        let a = same_read r in
        let w = written_fits p.n (rw (a.0) h) in
        let c : p.n ≡ l = sym w.1 ∙ a.0 in
        let k : l ≤ 96 = omega (arith, w.0) in
        rw (text_number l (present l k)) (rw (c, a.1) at (field_read (lit< tt) q).stands)

from_dash : (s : List ℕ) (at l next : ℕ) → get_or s at 0 ≡ 45 → cond (eqb (get_or s (at + 1) 0) 44) (some_number 255 (at + 2)) None ≡ some_number l next
    → Stands (limit_text l) s at next
from_dash s at l next e r =
    let p = picked (eqb (get_or s (at + 1) 0) 44) 255 (at + 2) l next r in
    let g : get_or s (at + 1) 0 ≡ 44 = eqb-true _ _ p.0 in
    let t : at + 1 < length s = there s (at + 1) (omega arith) in
    let k : suc (at + 1) ≡ at + 2 = omega arith in
    let d : drop (at + 1) s ≡ 44 ∷ drop (at + 2) s = drop-cons s (at + 1) 0 t ∙ rw (g, k) in
    let t2 : at < length s = omega arith in
    let d2 : drop at s ≡ 45 ∷ drop (at + 1) s = rw add-one (drop-cons s at 0 t2 ∙ rw e) in
    rw (text_missing l (sym p.1)) (record { text = d2 ∙ rw (d, p.2); place = omega (arith, p.2) })

pub limit_read_lem : (s : List ℕ) (at l next : ℕ) → limit_field s at ≡ some_number l next → limit_fits l ≡ true → Stands (limit_text l) s at next
unfolding limit_field
limit_read_lem s at l next = go (eqb (get_or s at 0) 45) refl
  where
    go : (b : Bool) → eqb (get_or s at 0) 45 ≡ b
        → cond b (cond (eqb (get_or s (at + 1) 0) 44) (some_number 255 (at + 2)) None) (with_limit (field most_digits 44 s at)) ≡ some_number l next
        → limit_fits l ≡ true → Stands (limit_text l) s at next
    go true q r h = from_dash s at l next (eqb-true _ _ q) r
    go false q r h = from_number s at l next r h

-- a limit, whatever its number, ends inside the text
pub limit_within : (s : List ℕ) (at l next : ℕ) → at ≤ length s → limit_field s at ≡ some_number l next → next ≤ length s
unfolding limit_field
limit_within s at l next h = go (eqb (get_or s at 0) 45) refl
  where
    number : (p : Option Number) → field most_digits 44 s at ≡ p → with_limit p ≡ some_number l next → next ≤ length s
    number None q e = let z : ◌≡◌ {A = ℕ} 0 1 = cc in absurd (omega arith)
    number (Some p) q e = omega (arith, (same_read e).1, within (field_read (lit< tt) q).stands h)

    go : (b : Bool) → eqb (get_or s at 0) 45 ≡ b
        → cond b (cond (eqb (get_or s (at + 1) 0) 44) (some_number 255 (at + 2)) None) (with_limit (field most_digits 44 s at)) ≡ some_number l next → next ≤ length s
    go false q e = number (field most_digits 44 s at) refl e
    go true q e =
        let p = picked (eqb (get_or s (at + 1) 0) 44) 255 (at + 2) l next e in
        let g : get_or s (at + 1) 0 ≡ 44 = eqb-true _ _ p.0 in
        omega (arith, there s (at + 1) (omega arith), p.2)

limit_write : (s : List ℕ) (at l next : ℕ) → limit_fits l ≡ true → Stands (limit_text l) s at next → limit_field s at ≡ some_number l next
unfolding limit_field limit_read
limit_write s at l next h t = elim (limit_cases l h) [
  | inl k ↦ number k (rw (text_number l (present l k)) at t)
  | inr e ↦ rw e (dash (rw (text_missing l e) at t))
]
  where
    here : (xs : List ℕ) → drop at s ≡ xs → get_or s at 0 ≡ get_or xs 0 0
    here xs q = let z : at + 0 ≡ at = omega arith in rw z at (at_place s at 0 xs q)

    number : l ≤ 96 → Stands (ended 44 l) s at next
        → cond (eqb (get_or s at 0) 45) (cond (eqb (get_or s (at + 1) 0) 44) (some_number 255 (at + 2)) None) (with_limit (field most_digits 44 s at)) ≡ some_number l next
    number k t =
        let f = field_write {most = most_digits} comma_no_digit (record { short = count_le l 7 (lit< tt) (omega arith); stands = t }) in
        let g = here _ (t.text ∙ open_up 44 l (drop next s)) in
        let d = first_digit l (44 ∷ drop next s) in
        rw (ne_eqb (get_or s at 0) 45 (λ e. omega arith), f, le-leb l 96 k)

    dash : Stands (45 ∷ 44 ∷ []) s at next
        → cond (eqb (get_or s at 0) 45) (cond (eqb (get_or s (at + 1) 0) 44) (some_number 255 (at + 2)) None) (with_limit (field most_digits 44 s at)) ≡ some_number 255 next
    dash t = rw (here _ t.text, at_place s at 1 _ t.text, t.place)

-- lines, read

pub period_read : (s : List ℕ) (at j c next : ℕ) → period_line s at ≡ some_period_line j c next → Stands (period_text j c) s at next
unfolding period_line period_text
period_read s at j c next = go (line_at 1 most_digits s at) refl
  where
    one : (ns : List ℕ) (l x : ℕ) → LineHere 1 most_digits s at ns l x → some_period_line (get_or ns 0 0) l x ≡ some_period_line j c next → Stands (line (j ∷ []) c) s at next
    one [] l x h e = absurd (omega (arith, h.count))
    one (n ∷ m ∷ ns) l x h e = absurd (omega (arith, h.count))
    one (n ∷ []) l x h e =
        let same = same_Some _ _ e in
        let p : n ≡ j = ap (λ (l : PeriodLine). l.number) same in
        let q : l ≡ c = ap (λ (l : PeriodLine). l.capacity) same in
        let r : x ≡ next = ap (λ (l : PeriodLine). l.next) same in
        rw (p, q, r) at h.stands

    go : (x : Line) → line_at 1 most_digits s at ≡ x → period_of x ≡ some_period_line j c next → Stands (line (j ∷ []) c) s at next
    go no_line q e = let z : ◌≡◌ {A = ℕ} 0 1 = cc in absurd (omega arith)
    go (values ns l x) q e = one ns l x (line_read q) e

-- five numbers are those before the limit of their flight
five : (ns : List ℕ) (l t : ℕ) → length ns ≡ 5 → before_limit (flight_with ns l t) ≡ ns
five [] l t h = absurd (omega arith)
five (a ∷ []) l t h = absurd (omega arith)
five (a ∷ b ∷ []) l t h = absurd (omega arith)
five (a ∷ b ∷ c ∷ []) l t h = absurd (omega arith)
five (a ∷ b ∷ c ∷ d ∷ []) l t h = absurd (omega arith)
five (a ∷ b ∷ c ∷ d ∷ e ∷ []) l t h = refl
five (a ∷ b ∷ c ∷ d ∷ e ∷ f ∷ ns) l t h = absurd (omega arith)

pub flight_read : (s : List ℕ) (at : ℕ) (f : Flight) (next : ℕ) → flight_line s at ≡ some_flight_line f next → limit_fits f.limit ≡ true
    → Stands (flight_text f) s at next
unfolding flight_line flight_text
flight_read s at f next e h = go (separated_at 5 most_digits s at) refl e
  where
    lates : (ns : List ℕ) (l x y : ℕ) → FieldsHere 5 most_digits s at ns x → limit_field s x ≡ some_number l y
        → (p : Option Number) → field most_digits 10 s y ≡ p → row_with ns l p ≡ some_flight_line f next
        → Stands (separated (before_limit f) ++ (limit_text f.limit ++ ended 10 f.late)) s at next
    lates ns l x y n q None r e = let z : ◌≡◌ {A = ℕ} 0 1 = cc in absurd (omega arith)
    lates ns l x y n q (Some p) r e =
        let same = same_Some _ _ e in
        let g : flight_with ns l p.n ≡ f = ap (λ (l : FlightLine). l.flight) same in
        let z : p.next ≡ next = ap (λ (l : FlightLine). l.next) same in
        let k : limit_fits l ≡ true = ap (λ (f : Flight). limit_fits f.limit) g ∙ h in
        let b : separated (before_limit (flight_with ns l p.n)) ≡ separated ns = ap separated (five ns l p.n n.count) in
        rw (← g, ← z, b) (join n.stands (join (limit_read_lem s x l y q k) (field_read (lit< tt) r).stands))

    limits : (ns : List ℕ) (x : ℕ) → FieldsHere 5 most_digits s at ns x → (p : Option Number) → limit_field s x ≡ p
        → then_late ns p (field most_digits 10 s) ≡ some_flight_line f next
        → Stands (separated (before_limit f) ++ (limit_text f.limit ++ ended 10 f.late)) s at next
    limits ns x n None q e = let z : ◌≡◌ {A = ℕ} 0 1 = cc in absurd (omega arith)
    limits ns x n (Some p) q e = lates ns p.n x p.next n q (field most_digits 10 s p.next) refl e

    go : (x : Numbers) → separated_at 5 most_digits s at ≡ x → then_limit x (limit_field s) (field most_digits 10 s) ≡ some_flight_line f next
        → Stands (separated (before_limit f) ++ (limit_text f.limit ++ ended 10 f.late)) s at next
    go (upto ns) q e = let z : ◌≡◌ {A = ℕ} 0 1 = cc in absurd (omega arith)
    go (whole ns x) q e = limits ns x (separated_read q) (limit_field s x) refl e

-- lines, written

pub short : (n : ℕ) → n < 10000000 → length (digits n) ≤ most_digits
short n h = count_le n most_digits (lit< tt) (omega arith)

pub period_write : (s : List ℕ) (at j c next : ℕ) → j < 10000000 → c < 10000000 → Stands (period_text j c) s at next → period_line s at ≡ some_period_line j c next
unfolding period_line period_text
period_write s at j c next hj hc t =
    rw (line_write {k = 1} {most = most_digits} {ns = j ∷ []} (record { count = refl; short = (short j hj, tt); last_short = short c hc; stands = t }))

pub fits_small : (p : ℕ) (f : Flight) → p ≤ most_periods → flight_fits p f ≡ true → Small f
unfolding flight_fits
fits_small p f h e =
    let t = and_true e in
    let l = and_true t.0 in
    let j = and_true l.0 in
    let a = and_true j.0 in
    let r = and_true a.0 in
    let d = and_true r.0 in
    let number = inside_means 1 9999 f.number d.0 in
    let due = inside_means 1 p f.due d.1 in
    let rate = inside_means 1 10000 f.rate r.1 in
    let after = leb-true f.after 96 a.1 in
    let jump = leb-true f.jump 1000000 j.1 in
    record {
      numbers = (
        short f.number (omega arith),
        (short f.due (omega arith), (short f.rate (omega arith), (short f.after (omega arith), (short f.jump (omega arith), tt)))),
      );
      limit = l.1;
      late = count_le f.late 3 (lit< tt) (omega (arith, leb-true f.late 255 t.1));
    }

pub flight_write : (s : List ℕ) (at : ℕ) (f : Flight) (next : ℕ) → Small f → Stands (flight_text f) s at next → flight_line s at ≡ some_flight_line f next
unfolding flight_line flight_text
flight_write s at f next h t =
    let numbers = parted t in
    let rest = parted numbers.1 in
    let a = separated_write {k = 5} {most = most_digits} (record { count = refl; short = h.numbers; stands = numbers.0 }) in
    let x = at + length (separated (before_limit f)) in
    let b = limit_write s x f.limit (x + length (limit_text f.limit)) h.limit rest.0 in
    let c = field_write {most = most_digits} end_no_digit (record { short = omega (arith, h.late); stands = rest.1 }) in
    rw (a, b, c)

-- the closing line

-- fixed bytes in front
pub names_front : (s w : List ℕ) (at : ℕ) → starts_with (drop at s) w ≡ true → drop at s ≡ w ++ drop (at + length w) s
names_front s w at e = let t = starts_is (drop at s) w e in sym (take-append-drop (length w) (drop at s)) ∙ rw (t, drop-drop)

pub text_line : (c : ℕ) → c < unlimited → closing_text c ≡ closing_name ++ ended 10 c
unfolding closing_text
text_line c h = rw (lt-ltb c unlimited h)

pub text_none : (c : ℕ) → unlimited ≤ c → closing_text c ≡ []
unfolding closing_text
text_none c h = rw (le-ltb c unlimited h)

pub closing_read : (s : List ℕ) (at c next : ℕ) → starts_with (drop at s) closing_name ≡ true → closing_line s at ≡ some_number c next
    → Stands (closing_name ++ ended 10 c) s at next
unfolding closing_line
closing_read s at c next n e =
    let a : Stands closing_name s at (at + length closing_name) = record { text = names_front s closing_name at n; place = refl } in
    join a (field_read (lit< tt) e).stands

pub closing_write : (s : List ℕ) (at c next : ℕ) → c < unlimited → Stands (closing_name ++ ended 10 c) s at next
    → (starts_with (drop at s) closing_name ≡ true) × (closing_line s at ≡ some_number c next)
unfolding closing_line
closing_write s at c next h t =
    let p = parted {t = closing_name} t in (
      rw p.0.text (starts_with_lem closing_name (drop (at + length closing_name) s)),
      field_write {most = most_digits} end_no_digit (record { short = short c (omega arith); stands = p.1 }),
    )

-- one law for each way

module _ (s : List ℕ) (at : ℕ) where
  pub dash_end : get_or s at 0 ≡ 45 → length s ≤ at + 1 → None ≡ limit_field s at
  unfolding limit_field
  dash_end d g = let q = get_or-eq_default s 0 {n = at + 1} g in rw (eq-eqb (get_or s at 0) 45 d, ne_eqb (get_or s (at + 1) 0) 44 (λ z. omega arith))

  pub dash_hit : get_or s at 0 ≡ 45 → get_or s (at + 1) 0 ≡ 44 → some_number 255 (at + 2) ≡ limit_field s at
  unfolding limit_field
  dash_hit d g = rw (eq-eqb (get_or s at 0) 45 d, eq-eqb (get_or s (at + 1) 0) 44 g)

  pub dash_miss : get_or s at 0 ≡ 45 → (get_or s (at + 1) 0 ≡ 44 → ⊥) → None ≡ limit_field s at
  unfolding limit_field
  dash_miss d g = rw (eq-eqb (get_or s at 0) 45 d, ne_eqb (get_or s (at + 1) 0) 44 g)

  pub no_dash : length s ≤ at → get_or s at 0 ≡ 45 → ⊥
  no_dash h d = let q = get_or-eq_default s 0 {n = at} h in omega arith

  pub limit_bad : (get_or s at 0 ≡ 45 → ⊥) → field most_digits 44 s at ≡ None → None ≡ limit_field s at
  unfolding limit_field
  limit_bad d f = rw (ne_eqb (get_or s at 0) 45 d, f)

  pub limit_low : (get_or s at 0 ≡ 45 → ⊥) → (p : Number) → field most_digits 44 s at ≡ Some p → p.n ≤ 96 → some_number p.n p.next ≡ limit_field s at
  unfolding limit_field limit_read
  limit_low d p f h = rw (ne_eqb (get_or s at 0) 45 d, f, le-leb p.n 96 h)

  pub limit_high : (get_or s at 0 ≡ 45 → ⊥) → (p : Number) → field most_digits 44 s at ≡ Some p → 96 < p.n → some_number 256 p.next ≡ limit_field s at
  unfolding limit_field limit_read
  limit_high d p f h = rw (ne_eqb (get_or s at 0) 45 d, f, lt-leb p.n 96 h)

  pub period_no : last_of (line_at 1 most_digits s at) ≡ None → None ≡ period_line s at
  unfolding period_line
  period_no = go (line_at 1 most_digits s at)
    where
      go : (x : Line) → last_of x ≡ None → None ≡ period_of x
      go (values ns c next) e = let z : ◌≡◌ {A = ℕ} 0 1 = cc in absurd (omega arith)
      go no_line e = refl

  -- the numbers stand in a row of one entry
  pub period_yes : (row₀ row : List ℕ) (p : Number) → length row₀ ≡ 1 → row ≡ row_after (separated_at 1 most_digits s at) row₀
      → last_of (line_at 1 most_digits s at) ≡ Some p → some_period_line (get_or row 0 0) p.n p.next ≡ period_line s at
  unfolding period_line
  period_yes row₀ row p l w e = rw (w, line_row 1 most_digits s at row₀ p.n p.next l e)

  pub flight_no : place_of (separated_at 5 most_digits s at) ≡ None → None ≡ flight_line s at
  unfolding flight_line
  flight_no e = rw (none_read (separated_at 5 most_digits s at) e)

  module _ (x : ℕ) (e : place_of (separated_at 5 most_digits s at) ≡ Some x) where
    pub flight_no_limit : limit_field s x ≡ None → None ≡ flight_line s at
    unfolding flight_line
    flight_no_limit p = rw (all_read (separated_at 5 most_digits s at) x e, p)

    module _ (limit : Number) (p : limit_field s x ≡ Some limit) where
      pub flight_no_late : field most_digits 10 s limit.next ≡ None → None ≡ flight_line s at
      unfolding flight_line
      flight_no_late q = rw (all_read (separated_at 5 most_digits s at) x e, p, q)

      -- the numbers stand in a row of five entries
      pub flight_yes : (row₀ row : List ℕ) (late : Number) → length row₀ ≡ 5 → row ≡ row_after (separated_at 5 most_digits s at) row₀
          → field most_digits 10 s limit.next ≡ Some late → some_flight_line (flight_with row limit.n late.n) late.next ≡ flight_line s at
      unfolding flight_line
      flight_yes row₀ row late l w q =
          sym (ap (λ (z : Numbers). then_limit z (limit_field s) (field most_digits 10 s)) (row_read 5 most_digits s at row₀ x l e) ∙ rw (p, q, w))
