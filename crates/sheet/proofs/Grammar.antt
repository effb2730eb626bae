-- The round trips on lists of flights: a sheet read is the sheet of its day, and the sheet of a good day is read as that day.
-- Assumes nothing.
use Prim.Native.Nat.{ℕ, zero, suc, ◌≤◌, ◌<◌, ◌+◌, ◌-◌, ◌*◌}
use native.Mathlib.Omega.{arith}
use mathlib.Core.Logic.{◌⊎◌, inl, inr}
use mathlib.Core.Path.{◌≡◌, refl, ap, sym, ◌∙◌}
use mathlib.Core.List.{List, [], ◌∷◌, ◌++◌, append_assoc, append-nil}
use mathlib.Core.Bool.{Bool, true, false, not, cond, ◌&&◌, ◌||◌}
use lib.ListN.{length, get_or, drop, length-append, length-drop, drop_of_length-le}
use lib.Seq.{drop-append_seam}
use lib.Dec.{ltb, leb, eqb, lit≤, lit<}
use borrow.Author.Tests.{le-leb, leb-true, eq-eqb, ne_eqb, eqb-true, eqb-false, le-ltb, not-true}
use Rattle.answers.specs.declared.Refusal.{Refusal}
use Rattle.answers.specs.declared.Refusal.TheVariants.{NumberUsed}
use Rattle.text.specs.Digits.{ended, separated}
use Rattle.text.specs.Fixed.{starts_with}
use Rattle.text.specs.declared.Number.{Number}
use Rattle.std.specs.Prelude.{Option, Some, None}
use Rattle.text.proofs.Digits.{split, length_ended, ended_short, count_le}
use Rattle.text.proofs.Reading.{past, stand, within}
use Rattle.text.proofs.Lines.{separated_short, line_first}
use Rattle.text.proofs.Writing.{length_line}
use Rattle.text.proofs.Fixed.{starts_with_lem}
use Rattle.day.specs.declared.Flight.{Flight}
use Rattle.day.specs.Day.{unlimited, most_periods, most_flights, flight_fits}
use Rattle.assignment.proofs.Tests.{and_true, true_and}
use Rattle.sheet.specs.declared.PeriodLine.{PeriodLine}
use Rattle.sheet.specs.declared.FlightLine.{FlightLine}
use Rattle.sheet.specs.Text.{period_names, flight_names, closing_name, closing_text, limit_text, period_text, before_limit, flight_text, periods_text, flights_text, sheet_text}
use Rattle.sheet.specs.Lines.{some_period_line, some_flight_line, most_digits, period_line, closing_line, flight_line, used}
use Rattle.sheet.specs.Sheet.{Reading, read, refused, on_flight, on_period, on_closing, read_flights, named, ends_periods, periods_end, read_periods, read_sheet}
use Rattle.sheet.specs.Good.{distinct, caps_fit, flights_fit, Good, limit_fits}
use Rattle.sheet.proofs.Lines.{short, names_front, text_line, text_none, closing_read, closing_write, limit_cases, text_missing, text_number, present, period_read, flight_read, period_write, flight_write, fits_small}

-- one line more

pub flights_snoc : (fs : List Flight) (f : Flight) → flights_text (fs ++ (f ∷ [])) ≡ flights_text fs ++ flight_text f
unfolding flights_text
flights_snoc [] f = append-nil (flight_text f)
flights_snoc (g ∷ fs) f = rw (flights_snoc fs f, append_assoc)

pub periods_snoc : (j : ℕ) (cs : List ℕ) (c : ℕ) → periods_text j (cs ++ (c ∷ [])) ≡ periods_text j cs ++ period_text (j + length cs) c
unfolding periods_text
periods_snoc j [] c = let z : j + 0 ≡ j = omega arith in rw (append-nil, z)
periods_snoc j (b ∷ cs) c = let z : suc j + length cs ≡ j + suc (length cs) = omega arith in rw (periods_snoc (suc j) cs c, append_assoc, z)

sheet_flight : (caps : List ℕ) (fs : List Flight) (k : ℕ) (f : Flight) → sheet_text caps (fs ++ (f ∷ [])) k ≡ sheet_text caps fs k ++ flight_text f
unfolding sheet_text
sheet_flight caps fs k f = rw (flights_snoc fs f) (simp append_assoc)

caps_more : (cs : List ℕ) (c : ℕ) → caps_fit cs ≡ true → leb c 255 ≡ true → caps_fit (cs ++ (c ∷ [])) ≡ true
unfolding caps_fit
caps_more [] c p q = rw q
caps_more (b ∷ cs) c p q = let a = and_true {a = leb b 255} p in true_and a.0 (caps_more cs c a.1 q)

pub fits_more : (p : ℕ) (fs : List Flight) (f : Flight) → flights_fit p fs ≡ true → flight_fits p f ≡ true → flights_fit p (fs ++ (f ∷ [])) ≡ true
unfolding flights_fit
fits_more p [] f a b = rw b
fits_more p (g ∷ fs) f a b = let e = and_true {a = flight_fits p g} a in true_and e.0 (fits_more p fs f e.1 b)

pub distinct_more : (above fs : List Flight) (f : Flight) → distinct above fs ≡ true → used f.number (above ++ fs) ≡ false → distinct above (fs ++ (f ∷ [])) ≡ true
unfolding distinct
distinct_more above [] f a b = rw (rw append-nil at b)
distinct_more above (g ∷ fs) f a b = let e = and_true {a = not (used g.number above)} a in true_and e.0 (distinct_more (above ++ (g ∷ [])) fs f e.1 (rw append_assoc b))

-- a sheet read is the sheet of its day, and the day is good

never : (a : Refusal) (C : List ℕ) (F : List Flight) (K : ℕ) → refused a ≡ read C F K → ⊥
never a C F K e = let z : ◌≡◌ {A = ℕ} 0 1 = cc in omega arith

picked : (b : Bool) (x y : Reading) (C : List ℕ) (F : List Flight) (K : ℕ) → cond b x y ≡ read C F K
    → ((b ≡ true) × (x ≡ read C F K)) ⊎ ((b ≡ false) × (y ≡ read C F K))
picked true x y C F K e = inl (refl, e)
picked false x y C F K e = inr (refl, e)

-- the day read, and the sheet as the text before `at` and what stands from there on
record Back (front s : List ℕ) (at : ℕ) (C : List ℕ) (F : List Flight) (K : ℕ) : Type 0 where
  text : sheet_text C F K ≡ front ++ drop at s
  good : Good C F K

record Went (at : ℕ) (caps : List ℕ) (fs : List Flight) (l : Option FlightLine) (go : Flight → ℕ → Reading) (C : List ℕ) (F : List Flight) (K : ℕ) : Type 0 where
  f : Flight
  next : ℕ
  line : l ≡ some_flight_line f next
  fits : flight_fits (length caps) f ≡ true
  new : used f.number fs ≡ false
  on : go f next ≡ read C F K

went : (at : ℕ) (caps : List ℕ) (fs : List Flight) (l : Option FlightLine) (go : Flight → ℕ → Reading) (C : List ℕ) (F : List Flight) (K : ℕ)
    → on_flight at caps fs l go ≡ read C F K → Went at caps fs l go C F K
went at caps fs None go C F K e = absurd (never _ C F K e)
went at caps fs (Some l) go C F K e = elim (picked (flight_fits (length caps) l.flight) _ _ C F K e) [ inl a ↦ inner a | inr a ↦ absurd (never _ C F K a.1) ]
  where
    inner : (flight_fits (length caps) l.flight ≡ true) × (cond (used l.flight.number fs) (refused (NumberUsed at)) (go l.flight l.next) ≡ read C F K) → Went at caps fs (Some l) go C F K
    inner a = elim (picked (used l.flight.number fs) _ _ C F K a.1) [
      | inl b ↦ absurd (never _ C F K b.1)
      | inr b ↦ record { f = l.flight; next = l.next; line = refl; fits = a.0; new = b.0; on = b.1 }
    ]

at_end : (s : List ℕ) (at : ℕ) (caps C : List ℕ) (fs F : List Flight) (k K : ℕ) → Good caps fs k → eqb at (length s) ≡ true → read caps fs k ≡ read C F K
    → Back (sheet_text caps fs k) s at C F K
at_end s at caps C fs F k K g e d =
    let p : caps ≡ C = cc in
    let q : fs ≡ F = cc in
    let r : k ≡ K = cc in
    let n : at ≡ length s = eqb-true at (length s) e in
    record { text = rw (drop_of_length-le s {i = at} (omega arith), append-nil, p, q, r); good = rw (p, q, r) at g }

flights_back : (m : ℕ) (s : List ℕ) (at : ℕ) (caps : List ℕ) (k : ℕ) (fs : List Flight) (C : List ℕ) (F : List Flight) (K : ℕ) → Good caps fs k
    → length fs + m ≤ most_flights → read_flights m s at caps k fs ≡ read C F K → Back (sheet_text caps fs k) s at C F K
unfolding read_flights
flights_back zero s at caps k fs C F K g h e = elim (picked (eqb at (length s)) _ _ C F K e) [
  | inl a ↦ at_end s at caps C fs F k K g a.0 a.1
  | inr a ↦ absurd (never _ C F K a.1)
]
flights_back (suc m) s at caps k fs C F K g h e = elim (picked (eqb at (length s)) _ _ C F K e) [
  | inl a ↦ at_end s at caps C fs F k K g a.0 a.1
  | inr a ↦
      let w = went at caps fs (flight_line s at) _ C F K a.1 in
      let t = flight_read s at w.f w.next w.line (fits_small (length caps) w.f g.periods w.fits).limit in
      let n : length (fs ++ (w.f ∷ [])) + m ≤ most_flights = simp length-append (omega arith) in
      let r : Good caps (fs ++ (w.f ∷ [])) k = record {
        some_period = g.some_period;
        periods = g.periods;
        flights = omega arith;
        closing_to = g.closing_to;
        caps_fit_in = g.caps_fit_in;
        flights_fit_in = fits_more (length caps) fs w.f g.flights_fit_in w.fits;
        apart = distinct_more [] fs w.f g.apart w.new;
      } in
      let b = flights_back m s w.next caps k (fs ++ (w.f ∷ [])) C F K r n w.on in
      record { text = b.text ∙ rw (sheet_flight caps fs k w.f, t.text, append_assoc); good = b.good }
]

regroup : (caps : List ℕ) (k : ℕ) (l : List ℕ) → sheet_text caps [] k ++ l ≡ (period_names ++ (periods_text 1 caps ++ closing_text k)) ++ (flight_names ++ l)
unfolding sheet_text flights_text
regroup caps k l = simp (append_assoc, append-nil)

module _ (s : List ℕ) (caps : List ℕ) (h : length caps ≤ most_periods) (some : 0 < length caps) (f : caps_fit caps ≡ true) (C : List ℕ) (F : List Flight) (K : ℕ) where
  named_back : (at k : ℕ) → k ≤ unlimited → named s at caps k ≡ read C F K → Back (period_names ++ (periods_text 1 caps ++ closing_text k)) s at C F K
  unfolding named flights_fit distinct
  named_back at k u e = elim (picked (starts_with (drop at s) flight_names) _ _ C F K e) [
    | inl a ↦
        let g : Good caps [] k = record { some_period = some; periods = h; flights = lit≤ tt; closing_to = u; caps_fit_in = f; flights_fit_in = refl; apart = refl } in
        let b = flights_back most_flights s (at + length flight_names) caps k [] C F K g (lit≤ tt) a.1 in
        record { text = b.text ∙ rw (names_front s flight_names at a.0) (regroup caps k (drop (at + length flight_names) s)); good = b.good }
    | inr a ↦ absurd (never _ C F K a.1)
  ]

  closing_back : (at : ℕ) (l : Option Number) → closing_line s at ≡ l → starts_with (drop at s) closing_name ≡ true
      → on_closing at l (λ c next. named s next caps c) ≡ read C F K → Back (period_names ++ periods_text 1 caps) s at C F K
  closing_back at None q n e = absurd (never _ C F K e)
  closing_back at (Some p) q n e = elim (picked (leb p.n 255) _ _ C F K e) [
    | inl a ↦
        let z : p.n ≤ 255 = leb-true p.n 255 a.0 in
        let b = named_back p.next p.n (omega arith) a.1 in
        record { text = b.text ∙ rw (text_line p.n (omega arith), (closing_read s at p.n p.next n q).text) (simp append_assoc); good = b.good }
    | inr a ↦ absurd (never _ C F K a.1)
  ]

end_back : (s : List ℕ) (at : ℕ) (caps C : List ℕ) (F : List Flight) (K : ℕ) → length caps ≤ most_periods → caps_fit caps ≡ true
    → periods_end s at caps ≡ read C F K → Back (period_names ++ periods_text 1 caps) s at C F K
unfolding periods_end
end_back s at caps C F K h f e = elim (picked (eqb (length caps) 0) _ _ C F K e) [
  | inl a ↦ absurd (never _ C F K a.1)
  | inr a ↦
      let z : length caps ≡ 0 → ⊥ = eqb-false (length caps) 0 a.0 in
      let some : 0 < length caps = omega arith in
      elim (picked (starts_with (drop at s) closing_name) _ _ C F K a.1) [
        | inl b ↦ closing_back s caps h some f C F K at (closing_line s at) refl b.0 b.1
        | inr b ↦
            let t = named_back s caps h some f C F K at unlimited (lit≤ tt) b.1 in
            record { text = rw (text_none unlimited (lit≤ tt), append-nil) at t.text; good = t.good }
      ]
]

record Step (at : ℕ) (caps : List ℕ) (l : Option PeriodLine) (go : ℕ → ℕ → Reading) (C : List ℕ) (F : List Flight) (K : ℕ) : Type 0 where
  c : ℕ
  next : ℕ
  line : l ≡ some_period_line (length caps + 1) c next
  fits : leb c 255 ≡ true
  on : go c next ≡ read C F K

stepped : (at : ℕ) (caps : List ℕ) (l : Option PeriodLine) (go : ℕ → ℕ → Reading) (C : List ℕ) (F : List Flight) (K : ℕ)
    → on_period at caps l go ≡ read C F K → Step at caps l go C F K
stepped at caps None go C F K e = absurd (never _ C F K e)
stepped at caps (Some l) go C F K e = elim (picked (eqb l.number (length caps + 1) && leb l.capacity 255) _ _ C F K e) [
  | inl a ↦ inner (and_true a.0) a.1
  | inr a ↦ absurd (never _ C F K a.1)
]
  where
    inner : (eqb l.number (length caps + 1) ≡ true) × (leb l.capacity 255 ≡ true) → go l.capacity l.next ≡ read C F K → Step at caps (Some l) go C F K
    inner b o = record { c = l.capacity; next = l.next; line = rw (eqb-true l.number (length caps + 1) b.0); fits = b.1; on = o }

periods_back : (m : ℕ) (s : List ℕ) (at : ℕ) (caps C : List ℕ) (F : List Flight) (K : ℕ) → length caps + m ≤ most_periods → caps_fit caps ≡ true
    → read_periods m s at caps ≡ read C F K → Back (period_names ++ periods_text 1 caps) s at C F K
unfolding read_periods
periods_back zero s at caps C F K h f e = elim (picked (ends_periods s at) _ _ C F K e) [
  | inl a ↦ end_back s at caps C F K (omega arith) f a.1
  | inr a ↦ elim (picked (eqb at (length s)) _ _ C F K a.1) [ inl b ↦ absurd (never _ C F K b.1) | inr b ↦ absurd (never _ C F K b.1) ]
]
periods_back (suc m) s at caps C F K h f e = elim (picked (ends_periods s at) _ _ C F K e) [
  | inl a ↦ end_back s at caps C F K (omega arith) f a.1
  | inr a ↦
      let w = stepped at caps (period_line s at) _ C F K a.1 in
      let t = period_read s at (length caps + 1) w.c w.next w.line in
      let g : length (caps ++ (w.c ∷ [])) + m ≤ most_periods = simp length-append (omega arith) in
      let z : 1 + length caps ≡ length caps + 1 = omega arith in
      let b = periods_back m s w.next (caps ++ (w.c ∷ [])) C F K g (caps_more caps w.c f w.fits) w.on in
      record { text = b.text ∙ rw (periods_snoc 1 caps w.c, z, t.text) (simp append_assoc); good = b.good }
]

-- A sheet that is read as a day is the sheet of that day, and the day is good. By induction on the lines still allowed, from the top: what is
-- read so far, as text, and what stands behind it are the sheet; each line read stands where it begins. Where no closing line is read the number
-- is 256, whose text is empty.
sheet_back : (s C : List ℕ) (F : List Flight) (K : ℕ) → read_sheet s ≡ read C F K → Back [] s 0 C F K
unfolding read_sheet caps_fit periods_text
sheet_back s C F K e = elim (picked (ltb 8192 (length s)) _ _ C F K e) [
  | inl a ↦ absurd (never _ C F K a.1)
  | inr a ↦ elim (picked (starts_with s period_names) _ _ C F K a.1) [
    | inl b ↦
        let t = periods_back most_periods s (length period_names) [] C F K (lit≤ tt) refl b.1 in
        let z : 0 + length period_names ≡ length period_names = omega arith in
        let n : s ≡ period_names ++ drop (length period_names) s = rw z at (names_front s period_names 0 b.0) in
        record { text = t.text ∙ rw append-nil (sym n); good = t.good }
    | inr b ↦ absurd (never _ C F K b.1)
  ]
]

pub read_text : (s C : List ℕ) (F : List Flight) (K : ℕ) → read_sheet s ≡ read C F K → sheet_text C F K ≡ s
read_text s C F K e = (sheet_back s C F K e).text

pub read_good : (s C : List ℕ) (F : List Flight) (K : ℕ) → read_sheet s ≡ read C F K → Good C F K
read_good s C F K e = (sheet_back s C F K e).good

-- the sheet of a good day is read as that day

pub length_names : length flight_names ≡ 38
unfolding flight_names
length_names = refl

pub length_top : length period_names ≡ 16
unfolding period_names
length_top = refl

pub length_closing : length closing_name ≡ 8
unfolding closing_name
length_closing = refl

closing_short : (k : ℕ) → length (closing_text k) ≤ 16
closing_short k = elim (split k unlimited) [
  | inl h ↦ rw (text_line k h, length-append) (omega (arith, length_closing, ended_short 10 k (omega arith)))
  | inr h ↦ rw (text_none k h) (omega arith)
]

limit_short : (l : ℕ) → limit_fits l ≡ true → length (limit_text l) ≤ 3
limit_short l h = elim (limit_cases l h) [
  | inl k ↦ rw (text_number l (present l k)) (omega (arith, length_ended 44 l, count_le l 2 (lit< tt) (omega arith)))
  | inr e ↦ rw (text_missing l e) (lit≤ tt)
]

pub flight_length : (f : Flight) → length (flight_text f) ≡ length (separated (before_limit f)) + length (limit_text f.limit) + length (ended 10 f.late)
unfolding flight_text
flight_length f = simp length-append (omega arith)

flight_pos : (f : Flight) → 0 < length (flight_text f)
unfolding separated
flight_pos f = rw (flight_length f, length-append) (omega (arith, length_ended 44 f.number))

flights_short : (p : ℕ) (fs : List Flight) → p ≤ most_periods → flights_fit p fs ≡ true → length (flights_text fs) ≤ 47 * length fs
unfolding flights_text flights_fit
flights_short p [] h e = omega arith
flights_short p (f ∷ fs) h e =
    let a = and_true {a = flight_fits p f} e in
    let s = fits_small p f h a.0 in
    simp length-append (omega (arith, flights_short p fs h a.1, flight_length f, separated_short most_digits (before_limit f) s.numbers, limit_short f.limit s.limit, length_ended 10 f.late, s.late))

periods_short : (j : ℕ) (cs : List ℕ) → j + length cs ≤ 1000 → caps_fit cs ≡ true → length (periods_text j cs) ≤ 16 * length cs
unfolding periods_text period_text caps_fit
periods_short j [] p h = omega arith
periods_short j (c ∷ cs) p h =
    let a = and_true {a = leb c 255} h in
    let b = leb-true c 255 a.0 in
    let n = separated_short most_digits (j ∷ []) (short j (omega arith), tt) in
    simp length-append (omega (arith, length_line (j ∷ []) c, ended_short 10 c (omega arith), periods_short (suc j) cs (omega arith) a.1))

-- lengths and places
pub front_length : (s : List ℕ) (at : ℕ) (xs ys : List ℕ) → drop at s ≡ xs ++ ys → length s - at ≡ length xs + length ys
front_length s at xs ys e = sym (length-drop at s) ∙ rw (e, length-append)

none_left : (s : List ℕ) (at : ℕ) → at ≤ length s → drop at s ≡ [] → eqb at (length s) ≡ true
none_left s at h e = eq-eqb at (length s) (omega (arith, length-drop at s, ap length e))

some_left : (s : List ℕ) (at : ℕ) (xs ys : List ℕ) → 0 < length xs → drop at s ≡ xs ++ ys → eqb at (length s) ≡ false
some_left s at xs ys p e = ne_eqb at (length s) (λ z. omega (arith, front_length s at xs ys e))

flights_forth : (m : ℕ) (s : List ℕ) (at : ℕ) (caps : List ℕ) (k : ℕ) (above fs : List Flight) → length caps ≤ most_periods → at ≤ length s
    → drop at s ≡ flights_text fs → length fs ≤ m → flights_fit (length caps) fs ≡ true → distinct above fs ≡ true
    → read_flights m s at caps k above ≡ read caps (above ++ fs) k
unfolding read_flights flights_text flights_fit distinct
flights_forth zero s at caps k above [] p h e n f d = rw (none_left s at h e, append-nil)
flights_forth zero s at caps k above (g ∷ fs) p h e n f d = absurd (omega arith)
flights_forth (suc m) s at caps k above [] p h e n f d = rw (none_left s at h e, append-nil)
flights_forth (suc m) s at caps k above (g ∷ fs) p h e n f d =
    let a = and_true {a = flight_fits (length caps) g} f in
    let b = and_true {a = not (used g.number above)} d in
    let l = flight_write s at g _ (fits_small (length caps) g p a.0) (stand s (flight_text g) (flights_text fs) at e) in
    let q = flights_forth m s (at + length (flight_text g)) caps k (above ++ (g ∷ [])) fs p (omega (arith, front_length s at (flight_text g) (flights_text fs) e, flight_pos g)) (past s at (flight_text g) (flights_text fs) e) (omega arith) a.1 b.1 in
    rw (some_left s at (flight_text g) (flights_text fs) (flight_pos g) e, l, a.0, not-true (used g.number above) b.0) (q ∙ rw append_assoc)

-- a line that begins with a digit ends no period lines
no_end : (s : List ℕ) (at : ℕ) → get_or (drop at s) 0 0 ≤ 57 → ends_periods s at ≡ false
unfolding ends_periods starts_with flight_names closing_name
no_end s at = go (drop at s)
  where
    go : (l : List ℕ) → get_or l 0 0 ≤ 57 → starts_with l flight_names || starts_with l closing_name ≡ false
    go [] h = refl
    go (x ∷ xs) h = rw (ne_eqb 102 x (λ e. omega arith), ne_eqb 99 x (λ e. omega arith))

begins_with_digit : (j c : ℕ) (ys : List ℕ) → get_or (period_text j c ++ ys) 0 0 ≤ 57
unfolding period_text
begins_with_digit j c ys = line_first j [] c ys

-- the second names line is no closing line
names_no_closing : (ys : List ℕ) → starts_with (flight_names ++ ys) closing_name ≡ false
unfolding starts_with flight_names closing_name
names_no_closing ys = refl

module _ (s : List ℕ) (caps : List ℕ) (fs : List Flight) (k : ℕ) (g : Good caps fs k) where
  named_forth : (at : ℕ) → at ≤ length s → drop at s ≡ flight_names ++ flights_text fs → named s at caps k ≡ read caps fs k
  unfolding named
  named_forth at h e =
      let p = past s at flight_names (flights_text fs) e in
      let l = front_length s at flight_names (flights_text fs) e in
      let here : starts_with (drop at s) flight_names ≡ true = rw e (starts_with_lem flight_names (flights_text fs)) in
      rw here
      (flights_forth most_flights s (at + length flight_names) caps k [] fs g.periods (omega (arith, length_names)) p g.flights g.flights_fit_in g.apart)

  some_caps : eqb (length caps) 0 ≡ false
  some_caps = ne_eqb (length caps) 0 (λ z. omega (arith, g.some_period))

  -- where the closing line stands, and where there is none
  line_forth : (at : ℕ) → at ≤ length s → k < unlimited → drop at s ≡ (closing_name ++ ended 10 k) ++ (flight_names ++ flights_text fs)
      → (ends_periods s at ≡ true) × (periods_end s at caps ≡ read caps fs k)
  unfolding ends_periods periods_end
  line_forth at h u e =
      let t = stand s (closing_name ++ ended 10 k) (flight_names ++ flights_text fs) at e in
      let w = closing_write s at k _ u t in
      let n = named_forth (at + length (closing_name ++ ended 10 k)) (within t h) (past s at (closing_name ++ ended 10 k) (flight_names ++ flights_text fs) e) in
      (rw w.0 (go (starts_with (drop at s) flight_names)), rw (some_caps, w.0, w.1, le-leb k 255 (omega arith)) n)
    where
      go : (b : Bool) → b || true ≡ true
      go true = refl
      go false = refl

  none_forth : (at : ℕ) → at ≤ length s → k ≡ unlimited → drop at s ≡ flight_names ++ flights_text fs
      → (ends_periods s at ≡ true) × (periods_end s at caps ≡ read caps fs k)
  unfolding ends_periods periods_end
  none_forth at h u e =
      (rw (e, starts_with_lem flight_names (flights_text fs)), rw (some_caps, ap (λ (l : List ℕ). starts_with l closing_name) e, names_no_closing (flights_text fs)) (ap (named s at caps) (sym u) ∙ named_forth at h e))

  end_forth : (m at : ℕ) → at ≤ length s → drop at s ≡ closing_text k ++ (flight_names ++ flights_text fs) → read_periods m s at caps ≡ read caps fs k
  unfolding read_periods
  end_forth m at h e = elim (split k unlimited) [
    | inl u ↦ go m (line_forth at h u (rw (text_line k u) at e))
    | inr u ↦ go m (none_forth at h (omega (arith, g.closing_to)) (rw (text_none k u) at e))
  ]
    where
      go : (m : ℕ) → (ends_periods s at ≡ true) × (periods_end s at caps ≡ read caps fs k) → read_periods m s at caps ≡ read caps fs k
      go zero w = rw w.0 w.1
      go (suc m) w = rw w.0 w.1

period_on : (m : ℕ) (s : List ℕ) (at : ℕ) (caps : List ℕ) (c next : ℕ) → ends_periods s at ≡ false
    → period_line s at ≡ some_period_line (length caps + 1) c next → leb c 255 ≡ true
    → read_periods (suc m) s at caps ≡ read_periods m s next (caps ++ (c ∷ []))
unfolding read_periods
period_on m s at caps c next n l f = rw (n, l, eq-eqb (length caps + 1) (length caps + 1) refl, f)

periods_forth : (m : ℕ) (s : List ℕ) (at : ℕ) (caps cs : List ℕ) (fs : List Flight) (k : ℕ) → at ≤ length s
    → drop at s ≡ periods_text (length caps + 1) cs ++ (closing_text k ++ (flight_names ++ flights_text fs)) → length cs ≤ m → caps_fit cs ≡ true
    → Good (caps ++ cs) fs k → read_periods m s at caps ≡ read (caps ++ cs) fs k
unfolding periods_text caps_fit
periods_forth m s at caps [] fs k h e n fit g = rw append-nil (end_forth s caps fs k (rw append-nil at g) m at h e)
periods_forth zero s at caps (c ∷ cs) fs k h e n fit g = absurd (omega arith)
periods_forth (suc m) s at caps (c ∷ cs) fs k h e n fit g =
    let j = length caps + 1 in
    let rest = periods_text (suc j) cs ++ (closing_text k ++ (flight_names ++ flights_text fs)) in
    let a = and_true {a = leb c 255} fit in
    let b : c ≤ 255 = leb-true c 255 a.0 in
    let few = g.periods in
    let both = length-append caps (c ∷ cs) in
    let q : drop at s ≡ period_text j c ++ rest = e ∙ append_assoc (period_text j c) (periods_text (suc j) cs) _ in
    let l = period_write s at j c _ (omega arith) (omega arith) (stand s (period_text j c) rest at q) in
    let x : length (caps ++ (c ∷ [])) ≡ length caps + 1 = simp length-append in
    let z : length caps + 1 + 1 ≡ suc (length caps + 1) = omega arith in
    let on = periods_forth m s (at + length (period_text j c)) (caps ++ (c ∷ [])) cs fs k (omega (arith, front_length s at (period_text j c) rest q))
    (rw (x, z) (past s at (period_text j c) rest q)) (omega arith) a.1 (rw append_assoc g) in
    period_on m s at caps c (at + length (period_text j c)) (no_end s at (rw q (begins_with_digit j c rest))) l a.0 ∙ on ∙ rw append_assoc

pub sheet_short : (caps : List ℕ) (fs : List Flight) (k : ℕ) → Good caps fs k → length (sheet_text caps fs k) ≤ 8192
unfolding sheet_text
sheet_short caps fs k g =
    let p = periods_short 1 caps (omega (arith, g.periods)) g.caps_fit_in in
    let f = flights_short (length caps) fs g.periods g.flights_fit_in in
    simp length-append (omega (arith, length_top, length_names, closing_short k, g.periods, g.flights))

-- A good day's sheet is read as that day. By induction on the lines: each is read as its values, by the law of a line, and the rest stands behind
-- it. Some the period lines stands the closing line or, if the number is 256, the second names line.
pub text_read : (caps : List ℕ) (fs : List Flight) (k : ℕ) → Good caps fs k → read_sheet (sheet_text caps fs k) ≡ read caps fs k
unfolding read_sheet sheet_text
text_read caps fs k g =
    let rest = periods_text 1 caps ++ (closing_text k ++ (flight_names ++ flights_text fs)) in
    let long : length period_names ≤ length (period_names ++ rest) = simp length-append (omega arith) in
    rw (le-ltb 8192 (length (period_names ++ rest)) (sheet_short caps fs k g), starts_with_lem period_names rest)
    (periods_forth most_periods (period_names ++ rest) (length period_names) [] caps fs k long (drop-append_seam period_names rest) g.periods g.caps_fit_in g)
