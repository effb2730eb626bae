-- Where a text goes wrong behind lines that are right: one law for every kind of line, and the total's two lines.
-- Assumes nothing.
use Prim.Native.Nat.{ℕ, zero, suc, ◌≤◌, ◌+◌}
use native.Mathlib.Omega.{arith}
use native.Mathlib.Numerals.{add-one}
use mathlib.Core.Path.{◌≡◌, sym, ap, ◌∙◌}
use mathlib.Core.Logic.{inr}
use mathlib.Core.Bool.{true, false}
use mathlib.Core.List.{List, [], ◌++◌, append_assoc, append-nil}
use lib.ListN.{length, take, drop, take-append-drop, drop_of_length-le, length-take}
use lib.Seq.{take_at, drop_at, length-take-le}
use lib.Dec.{lit<}
use Rattle.answers.proofs.Decides.{true_false}
use Rattle.text.specs.Digits.{ended}
use Rattle.text.specs.Fixed.{starts_with}
use Rattle.text.specs.declared.Number.{Number}
use Rattle.text.specs.Reading.{some_number, field}
use Rattle.text.specs.Standing.{Stands}
use Rattle.text.proofs.Fixed.{starts_with_lem, starts_is}
use Rattle.text.proofs.Reading.{within, stand, join, parted, field_read, field_write, end_no_digit}
use Rattle.day.specs.Day.{flight_count, total_of}
use Rattle.plan_text.specs.PlanText.{plan_names, total_name, plan_line, plan_text}
use Rattle.plan_text.proofs.Placing.{line_is, no_lines, length_total_name}
use Rattle.plan_reader.specs.PlanReading.{LineEnds, WholeLines}
use Rattle.plan_reader.specs.Loop.{wrong_at, front_lines, Diverges, CanEnd, EndRead}
use Rattle.std.specs.Prelude.{Ok, Some, None, Option}
use Rattle.plan_reader.proofs.Ends.{OneLine, names_line, total_name_line, number_line, values_line, same_front, line_ends, line_more}
use Rattle.plan_reader.proofs.Fronts.{front_next, text_end}

-- ---- what stands at the front

pub front_is : {a s : List ℕ} {at : ℕ} → Stands a s 0 at → take at s ≡ a
front_is {a} {s} {at} w = rw w.text (take_at a (drop at s) at (omega (arith, w.place)))

pub front_inside : {a s : List ℕ} {at : ℕ} → Stands a s 0 at → at ≤ length s
front_inside w = within w (omega arith)

pub plan_line_lem : (f h : List ℕ) (i : ℕ) → OneLine (plan_line f h i)
plan_line_lem f h i = rw (line_is f h i) (values_line _ _)

-- the front of a plan's text ends in a line
pub front_ends : (f h : List ℕ) (m : ℕ) {s : List ℕ} {at : ℕ} → Stands (front_lines f h m) s 0 at → LineEnds s at
front_ends f h zero {s} {at} w = line_ends names_line (names w) (omega arith)
  where
    names : Stands (front_lines f h 0) s 0 at → Stands plan_names s 0 at
    names w = rw (no_lines f h, append-nil) at w
front_ends f h (suc m) {s} {at} w =
    let p = parted {t = front_lines f h m} {u = plan_line f h m} (next w) in
    line_ends (plan_line_lem f h m) p.1 (front_inside p.0)
  where
    next : Stands (front_lines f h (suc m)) s 0 at → Stands (front_lines f h m ++ plan_line f h m) s 0 at
    next w = let e = rw add-one at (front_next f h m) in rw e at w

-- fixed bytes that are found stand there
pub fixed_stands : (s w : List ℕ) (at : ℕ) → starts_with (drop at s) w ≡ true → Stands w s at (at + length w)
fixed_stands s w at e = stand s w (drop (length w) (drop at s)) at (sym (take-append-drop (length w) (drop at s)) ∙ rw (starts_is (drop at s) w e))

-- ---- one law

-- Where t has a line l behind a, and the text has a but not l behind it, the text goes wrong there.
pub goes_wrong : (t s a l r : List ℕ) (at : ℕ) → t ≡ a ++ (l ++ r) → OneLine l → Stands a s 0 at → WholeLines s at
    → ((next : ℕ) → Stands l s at next → ⊥) → Diverges t s at
goes_wrong t s a l r at is o w whole not-here = record {
  whole = whole;
  before = rw (front_is w, is) (starts_with_lem a (l ++ r));
  beyond = λ next b ends e. not-here _ (behind (line_more t s a l r next is o ends (same_front t s next ends.inside e) (omega (arith, w.place))).1);
  other = λ e. not-here _ (stand s l r at (ap (drop at) (e ∙ is) ∙ drop_at a (l ++ r) at (omega (arith, w.place))));
}
  where
    behind : Stands l s (length a) (length a + length l) → Stands l s at (at + length l)
    behind p = let z : length a ≡ at = omega (arith, w.place) in rw z at p

-- where the text has all of t and more, it goes wrong behind it
pub goes_past : (t s : List ℕ) (at : ℕ) → Stands t s 0 at → LineEnds s at → (at ≡ length s → ⊥) → Diverges t s at
goes_past t s at w ends more = record {
  whole = inr ends;
  before = rw (front_is w) (let e = starts_with_lem t [] in rw append-nil at e);
  beyond = λ next b e same. omega (arith, w.place, length-take next t, length-take-le next s e.inside, ap length (same_front t s next e.inside same));
  other = λ e. more (omega (arith, w.place, ap length e));
}

-- ---- the total's lines

abbrev number_in : Option Number → ℕ
number_in (Some p) = p.n
number_in None = 0

module _ {f s h : List ℕ} {at : ℕ} (c : CanEnd f s h at) where
  abbrev n : ℕ
  n = flight_count f

  -- the text by its last lines
  by_name : plan_text f h ≡ front_lines f h n ++ (total_name ++ ended 10 (total_of f h))
  by_name = text_end f h

  by_number : plan_text f h ≡ (front_lines f h n ++ total_name) ++ (ended 10 (total_of f h) ++ [])
  by_number = by_name ∙ rw append-nil (sym (append_assoc (front_lines f h n) total_name (ended 10 (total_of f h))))

  here : at ≡ length (front_lines f h n)
  here = omega (arith, c.stands.place)

  pub end_inside : at ≤ length s
  end_inside = front_inside c.stands

  pub end_no_name : starts_with (drop at s) total_name ≡ false → EndRead f s h (wrong_at at)
  end_no_name e = (
    goes_wrong (plan_text f h) s (front_lines f h n) total_name (ended 10 (total_of f h)) at by_name total_name_line c.stands (inr (front_ends f h n c.stands))
        (λ next w. let q = starts_with_lem total_name (drop next s) in let y : starts_with (drop at s) total_name ≡ true = rw w.text q in true_false (sym y ∙ e)),
    omega (arith, here),
  )

  module _ (name : starts_with (drop at s) total_name ≡ true) where
    name_stands : Stands total_name s at (at + 6)
    name_stands = let w = fixed_stands s total_name at name in rw length_total_name at w

    -- the front with the total's name
    front : Stands (front_lines f h n ++ total_name) s 0 (at + 6)
    front = join c.stands name_stands

    pub number_inside : at + 6 ≤ length s
    number_inside = front_inside front

    wrong_number : ((next : ℕ) → Stands (ended 10 (total_of f h)) s (at + 6) next → ⊥) → EndRead f s h (wrong_at (at + 6))
    wrong_number other = (
      goes_wrong (plan_text f h) s (front_lines f h n ++ total_name) (ended 10 (total_of f h)) [] (at + 6) by_number (number_line (total_of f h)) front
          (inr (line_ends total_name_line name_stands end_inside)) other,
      omega (arith, here),
    )

    total_read : (next : ℕ) → Stands (ended 10 (total_of f h)) s (at + 6) next → field 9 10 s (at + 6) ≡ some_number (total_of f h) next
    total_read next w = field_write end_no_digit (record { short = c.short; stands = w })

    pub end_no_number : field 9 10 s (at + 6) ≡ None → EndRead f s h (wrong_at (at + 6))
    end_no_number e = wrong_number (λ next w. let q = sym e ∙ total_read next w in let z : ◌≡◌ {A = ℕ} 0 1 = cc in omega (arith, z))

    module _ {v next : ℕ} (e : field 9 10 s (at + 6) ≡ some_number v next) where
      pub end_other : {t : ℕ} → t ≡ total_of f h → (v ≡ t → ⊥) → EndRead f s h (wrong_at (at + 6))
      end_other is differ = wrong_number (λ x w. let q : some_number v next ≡ some_number (total_of f h) x = sym e ∙ total_read x w in differ (ap number_in q ∙ sym is))

      module _ {t : ℕ} (is : t ≡ total_of f h) (same : v ≡ t) where
        all : Stands (plan_text f h) s 0 next
        all =
            let w = (field_read (lit< tt) e).stands in
            let y : v ≡ total_of f h = same ∙ is in
            let p = join front (rw y at w) in
            rw (← (rw append-nil at by_number)) at p

        pub end_past : (next ≡ length s → ⊥) → EndRead f s h (wrong_at next)
        end_past more = (
          goes_past (plan_text f h) s next all (line_ends (number_line v) (field_read (lit< tt) e).stands number_inside) more,
          omega (arith, here, (field_read (lit< tt) e).stands.place),
        )

        pub end_whole : next ≡ length s → EndRead f s h (Ok t)
        end_whole stop = (
          all.text ∙ rw (drop_of_length-le s {i = next} (omega arith), append-nil),
          is,
        )
