-- Separated numbers and lines: what is read at a place is what is written there, and back; and one law for each way through the readers.
-- Assumes nothing.
use Prim.Native.Nat.{ℕ, zero, suc, ◌≤◌, ◌<◌, ◌+◌, ◌-◌, ◌*◌}
use native.Mathlib.Omega.{arith}
use native.Mathlib.Numerals.{add-one}
use native.Mathlib.Nat.{mul-suc}
use mathlib.Core.Path.{◌≡◌, refl, ap, sym, ◌∙◌}
use mathlib.Core.Logic.{◌↔◌}
use mathlib.Core.List.{List, [], ◌∷◌, ◌++◌, append_assoc, append-nil}
use lib.ListN.{length, get_or, take, drop, set, length-append, length-set, drop_of_length-le, take-append-drop}
use lib.Seq.{take-suc-set, drop-set-lt, drop-cons, length-take-le}
use lib.Dec.{lit<}
use Rattle.text.specs.Digits.{ended, separated, line}
use Rattle.text.specs.Reading.{some_number, field, Numbers, whole, upto, numbers_read, place_of, with_front, then_numbers, separated_at, row_after, values, last_of, with_last, then_last, line_at}
use Rattle.text.specs.Standing.{AllShort, FieldsHere, LineHere}
use Rattle.text.specs.Loops.{Walk}
use Rattle.text.specs.declared.Number.{Number}
use Rattle.std.specs.Prelude.{Option, Some, None}
use Rattle.text.proofs.Reading.{within, join, parted, field_read, field_write, open_up, end_no_digit, comma_no_digit}
use Rattle.text.proofs.Digits.{length_ended, first_digit}

read_all : (k most : ℕ) (s : List ℕ) (at : ℕ) (ns : List ℕ) (next : ℕ) → separated_at k most s at ≡ whole ns next → FieldsHere k most s at ns next
unfolding separated_at separated
read_all zero most s at ns next = λ e.
    let a : [] ≡ ns = cc in
    let b : at ≡ next = cc in
    rw (← a, ← b) (record { count = refl; short = tt; stands = record { text = refl; place = omega arith } })
read_all (suc k) most s at ns next = go (λ x ms y. read_all k most s x ms y) (field most 44 s at) refl
  where
    onto : (n x : ℕ) → field most 44 s at ≡ some_number n x → (y : Numbers) → with_front (n ∷ []) y ≡ whole ns next
        → ((ms : List ℕ) (m : ℕ) → y ≡ whole ms m → FieldsHere k most s x ms m) → FieldsHere (suc k) most s at ns next
    onto n x q (upto ms) e ih = let z : ◌≡◌ {A = ℕ} 0 1 = cc in absurd (omega arith)
    onto n x q (whole ms y) e ih =
        let a : n ∷ ms ≡ ns = cc in
        let b : y ≡ next = cc in
        let f = field_read (lit< tt) q in
        let r = ih ms y refl in
        rw (← a, ← b) (record { count = ap suc r.count; short = (f.short, r.short); stands = join f.stands r.stands })

    go : ((x : ℕ) (ms : List ℕ) (m : ℕ) → separated_at k most s x ≡ whole ms m → FieldsHere k most s x ms m)
        → (p : Option Number) → field most 44 s at ≡ p → then_numbers p (λ n x. with_front (n ∷ []) (separated_at k most s x)) ≡ whole ns next → FieldsHere (suc k) most s at ns next
    go ih None q e = let z : ◌≡◌ {A = ℕ} 0 1 = cc in absurd (omega arith)
    go ih (Some p) q e = onto p.n p.next q (separated_at k most s p.next) e (ih p.next)

write_all : (k most : ℕ) (s : List ℕ) (at : ℕ) (ns : List ℕ) (next : ℕ) → FieldsHere k most s at ns next → separated_at k most s at ≡ whole ns next
unfolding separated_at separated
write_all zero most s at [] next f = let z : at ≡ next = omega (arith, f.stands.place) in rw z
write_all zero most s at (n ∷ ns) next f = absurd (omega (arith, f.count))
write_all (suc k) most s at [] next f = absurd (omega (arith, f.count))
write_all (suc k) most s at (n ∷ ns) next f =
    let p = parted f.stands in
    let a = field_write comma_no_digit (record { short = f.short.0; stands = p.0 }) in
    let b = write_all k most s (at + length (ended 44 n)) ns next (record { count = omega (arith, f.count); short = f.short.1; stands = p.1 }) in
    rw (a, b)

-- Reading k separated numbers at a place gives the numbers ns and the place behind them exactly if those are k short numbers and their text stands there.
-- By induction on k, with the same law of one field: what is read joins the texts, and what stands there is parted after its first field.
pub separated_law : (k most : ℕ) (s : List ℕ) (at : ℕ) (ns : List ℕ) (next : ℕ)
    → (separated_at k most s at ≡ whole ns next) ↔ FieldsHere k most s at ns next
separated_law k most s at ns next = (read_all k most s at ns next, write_all k most s at ns next)

pub separated_read : {k most : ℕ} {s : List ℕ} {at : ℕ} {ns : List ℕ} {next : ℕ} → separated_at k most s at ≡ whole ns next → FieldsHere k most s at ns next
separated_read e = (separated_law _ _ _ _ _ _).0 e

pub separated_write : {k most : ℕ} {s : List ℕ} {at : ℕ} {ns : List ℕ} {next : ℕ} → FieldsHere k most s at ns next → separated_at k most s at ≡ whole ns next
separated_write f = (separated_law _ _ _ _ _ _).1 f

-- The same of a line: its numbers and then its last field.
pub line_law : (k most : ℕ) (s : List ℕ) (at : ℕ) (ns : List ℕ) (last next : ℕ)
    → (line_at k most s at ≡ values ns last next) ↔ LineHere k most s at ns last next
unfolding line_at line
line_law k most s at ns last next = (go (separated_at k most s at) refl, back)
  where
    ends : (ms : List ℕ) (x : ℕ) → separated_at k most s at ≡ whole ms x → (p : Option Number) → field most 10 s x ≡ p → with_last ms p ≡ values ns last next
        → LineHere k most s at ns last next
    ends ms x q None r e = let z : ◌≡◌ {A = ℕ} 0 1 = cc in absurd (omega arith)
    ends ms x q (Some p) r e =
        let a : ms ≡ ns = cc in
        let b : p.n ≡ last = cc in
        let d : p.next ≡ next = cc in
        let f = separated_read q in
        let g = field_read (lit< tt) r in
        rw (← a, ← b, ← d) (record { count = f.count; short = f.short; last_short = g.short; stands = join f.stands g.stands })

    go : (x : Numbers) → separated_at k most s at ≡ x → then_last x (field most 10 s) ≡ values ns last next → LineHere k most s at ns last next
    go (upto ms) q e = let z : ◌≡◌ {A = ℕ} 0 1 = cc in absurd (omega arith)
    go (whole ms x) q e = ends ms x q (field most 10 s x) refl e

    back : LineHere k most s at ns last next → then_last (separated_at k most s at) (field most 10 s) ≡ values ns last next
    back f =
        let p = parted f.stands in
        let a = separated_write {k = k} {most = most} {s = s} {at = at} {ns = ns} (record { count = f.count; short = f.short; stands = p.0 }) in
        let b = field_write end_no_digit (record { short = f.last_short; stands = p.1 }) in
        rw (a, b)

pub line_read : {k most : ℕ} {s : List ℕ} {at : ℕ} {ns : List ℕ} {last next : ℕ} → line_at k most s at ≡ values ns last next
    → LineHere k most s at ns last next
line_read e = (line_law _ _ _ _ _ _ _).0 e

pub line_write : {k most : ℕ} {s : List ℕ} {at : ℕ} {ns : List ℕ} {last next : ℕ} → LineHere k most s at ns last next
    → line_at k most s at ≡ values ns last next
line_write f = (line_law _ _ _ _ _ _ _).1 f

no_front : (x : Numbers) → x ≡ with_front [] x
no_front (whole ns next) = refl
no_front (upto ns) = refl

front_front : (xs ys : List ℕ) (x : Numbers) → with_front xs (with_front ys x) ≡ with_front (xs ++ ys) x
front_front xs ys (whole ns next) = rw append_assoc
front_front xs ys (upto ns) = rw append_assoc

pub walk_start : {s : List ℕ} {at : ℕ} (most : ℕ) (row : List ℕ) → at ≤ length s → Walk s at most row row 0 at
walk_start {s} {at} most row h =
    let z : length row - 0 ≡ length row = omega arith in
    record { upto = omega arith; long = refl; within = h; rest = refl; so_far = rw z (no_front (separated_at (length row) most s at)) }

module _ {s : List ℕ} {at most : ℕ} {row₀ row : List ℕ} {i next : ℕ} (w : Walk s at most row₀ row i next) where
  full : i ≤ length row
  full = omega (arith, w.upto, w.long)

  -- the row, where the reading ends with the numbers read so far
  filled : row ≡ (take i row ++ []) ++ drop (length (take i row ++ [])) row₀
  filled =
      let l : length (take i row) ≡ i = length-take-le i row full in
      rw (append-nil, l, ← w.rest, take-append-drop)

  pub walk_end : length row ≤ i
      → (Some next ≡ place_of (separated_at (length row₀) most s at)) × (row ≡ row_after (separated_at (length row₀) most s at) row₀)
  unfolding separated_at
  walk_end h = let z : length row₀ - i ≡ 0 = omega (arith, w.long) in rw (w.so_far, z) (refl, filled)

  module _ (h : i < length row) where
    one_more : length row₀ - i ≡ suc (length row₀ - (i + 1))
    one_more = omega (arith, w.long)

    pub walk_stop : field most 44 s next ≡ None
        → (None ≡ place_of (separated_at (length row₀) most s at)) × (row ≡ row_after (separated_at (length row₀) most s at) row₀)
    unfolding separated_at
    walk_stop e = rw (w.so_far, one_more, e) (refl, filled)

    pub walk_next : (p : Number) → field most 44 s next ≡ Some p → Walk s at most row₀ (set row i p.n) (i + 1) p.next
    unfolding separated_at
    walk_next p e =
        let t : take (suc i) (set row i p.n) ≡ take i row ++ (p.n ∷ []) = take-suc-set row i p.n h in
        let k : i < length row₀ = omega (arith, w.long) in
        record {
          upto = omega (arith, w.long);
          long = rw length-set w.long;
          within = within (field_read (lit< tt) e).stands w.within;
          rest = rw (add-one, drop-set-lt (suc i) row i p.n (omega arith)) (rest_cons h k w.rest);
          so_far = w.so_far ∙ rw (one_more, e, front_front, add-one, t);
        }
      where
        rest_cons : i < length row → i < length row₀ → drop i row ≡ drop i row₀ → drop (suc i) row ≡ drop (suc i) row₀
        rest_cons h k e = let a = drop-cons row i 0 h in let b = drop-cons row₀ i 0 k in cc

-- where all numbers are read, and where not
pub all_read : (x : Numbers) (next : ℕ) → place_of x ≡ Some next → x ≡ whole (numbers_read x) next
all_read (whole ns y) next e = cc
all_read (upto ns) next e = let z : ◌≡◌ {A = ℕ} 0 1 = cc in absurd (omega arith)

pub none_read : (x : Numbers) → place_of x ≡ None → x ≡ upto (numbers_read x)
none_read (whole ns y) e = let z : ◌≡◌ {A = ℕ} 0 1 = cc in absurd (omega arith)
none_read (upto ns) e = refl

-- the readers of a line, after the separated numbers
module _ (k most : ℕ) (s : List ℕ) (at : ℕ) where
  pub line_bad : place_of (separated_at k most s at) ≡ None → None ≡ last_of (line_at k most s at)
  unfolding line_at
  line_bad e = rw (none_read (separated_at k most s at) e)

  pub line_last : (m : ℕ) → place_of (separated_at k most s at) ≡ Some m → field most 10 s m ≡ last_of (line_at k most s at)
  unfolding line_at
  line_last m e = rw (all_read (separated_at k most s at) m e) (go (field most 10 s m))
    where
      go : (p : Option Number) → p ≡ last_of (with_last (numbers_read (separated_at k most s at)) p)
      go (Some p) = refl
      go None = refl

  pub place_within : (m : ℕ) → at ≤ length s → place_of (separated_at k most s at) ≡ Some m → m ≤ length s
  place_within m h e = within (separated_read (all_read (separated_at k most s at) m e)).stands h

-- the row of a caller: where all is read, it is the numbers

row_full : (k most : ℕ) (s : List ℕ) (at : ℕ) (row ns : List ℕ) (next : ℕ) → length row ≡ k → separated_at k most s at ≡ whole ns next
    → row_after (separated_at k most s at) row ≡ ns
row_full k most s at row ns next l e =
    let c = (separated_read {k = k} e).count in
    rw (e, drop_of_length-le row {i = length ns} (omega arith), append-nil)

pub row_read : (k most : ℕ) (s : List ℕ) (at : ℕ) (row : List ℕ) (next : ℕ) → length row ≡ k → place_of (separated_at k most s at) ≡ Some next
    → separated_at k most s at ≡ whole (row_after (separated_at k most s at) row) next
row_read k most s at row next l e =
    let w = all_read (separated_at k most s at) next e in
    w ∙ rw (row_full k most s at row (numbers_read (separated_at k most s at)) next l w)

pub line_row : (k most : ℕ) (s : List ℕ) (at : ℕ) (row : List ℕ) (last next : ℕ) → length row ≡ k → last_of (line_at k most s at) ≡ some_number last next
    → line_at k most s at ≡ values (row_after (separated_at k most s at) row) last next
unfolding line_at
line_row k most s at row last next l = go (separated_at k most s at) refl
  where
    ends : (ns : List ℕ) (p : Option Number) → last_of (with_last ns p) ≡ some_number last next → with_last ns p ≡ values ns last next
    ends ns (Some p) e = cc
    ends ns None e = let z : ◌≡◌ {A = ℕ} 0 1 = cc in absurd (omega arith)

    go : (x : Numbers) → separated_at k most s at ≡ x → last_of (then_last x (field most 10 s)) ≡ some_number last next
        → then_last x (field most 10 s) ≡ values (row_after x row) last next
    go (upto ns) q e = let z : ◌≡◌ {A = ℕ} 0 1 = cc in absurd (omega arith)
    go (whole ns x) q e = ends ns (field most 10 s x) e ∙ ap (λ (r : List ℕ). values r last next) (sym (rw q at (row_full k most s at row ns x l q)))

-- lengths and the first byte of texts

pub separated_short : (most : ℕ) (ns : List ℕ) → AllShort most ns → length (separated ns) ≤ (most + 1) * length ns
unfolding separated
separated_short most [] h = omega arith
separated_short most (n ∷ ns) h =
    let m : (most + 1) * suc (length ns) ≡ (most + 1) * length ns + (most + 1) = mul-suc (most + 1) (length ns) in
    rw (length-append, m) (omega (arith, length_ended 44 n, separated_short most ns h.1, h.0))

pub line_first : (n : ℕ) (ns : List ℕ) (last : ℕ) (ys : List ℕ) → get_or (line (n ∷ ns) last ++ ys) 0 0 ≤ 57
unfolding line separated
line_first n ns last ys = simp append_assoc (rw (open_up 44 n) (first_digit n _).1)
