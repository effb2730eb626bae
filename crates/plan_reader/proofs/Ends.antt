-- Lines and their end bytes: a text that begins as another one does, beyond some line and up to the end of a line, goes on with that one's
-- next line, whole.
-- Assumes nothing.
use Prim.Native.Nat.{ℕ, zero, suc, ◌≤◌, ◌<◌, ◌+◌, ◌-◌, ◌/◌, ◌%◌}
use native.Mathlib.Omega.{arith}
use mathlib.Core.Path.{◌≡◌, refl, sym, ap, ◌∙◌}
use mathlib.Core.Logic.{inl, inr}
use mathlib.Core.Bool.{Bool, true, false, not, ◌&&◌}
use mathlib.Core.List.{List, [], ◌∷◌, ◌++◌, append_assoc}
use lib.ListN.{length, get_or, take, drop, length-append, length-take, take-append-drop, get_or-append}
use lib.Seq.{length-take-le, get_or-take, take-take, take_at, drop-append_seam, get_or-append-add, get_or-drop, get_or_at}
use lib.Dec.{eqb}
use borrow.Author.Tests.{ne_eqb, eq-eqb}
use Rattle.answers.proofs.Decides.{true_false}
use Rattle.assignment.proofs.Tests.{true_and, lt?}
use Rattle.text.specs.Digits.{digits, ended, separated, line}
use Rattle.text.specs.Fixed.{starts_with}
use Rattle.text.specs.Standing.{Stands}
use Rattle.text.proofs.Digits.{by_digits, digits_short, digits_long}
use Rattle.text.proofs.Fixed.{starts_is}
use Rattle.text.proofs.Reading.{and_true, within}
use Rattle.plan_text.specs.PlanText.{plan_names, total_name}
use Rattle.plan_reader.specs.PlanReading.{LineEnds}

-- ---- bytes without an end byte

unfoldable pub plain : List ℕ → Bool
plain [] = true
plain (x ∷ xs) = not (eqb x 10) && plain xs

plain_one : (x : ℕ) → (x ≡ 10 → ⊥) → plain (x ∷ []) ≡ true
unfolding plain
plain_one x d = rw (ne_eqb x 10 d)

plain_append : (xs ys : List ℕ) → plain xs ≡ true → plain ys ≡ true → plain (xs ++ ys) ≡ true
unfolding plain
plain_append [] ys p q = q
plain_append (x ∷ xs) ys p q = let t = and_true (not (eqb x 10)) (plain xs) p in true_and t.0 (plain_append xs ys t.1 q)

plain_at : (l : List ℕ) (k : ℕ) → plain l ≡ true → k < length l → get_or l k 0 ≡ 10 → ⊥
unfolding plain
plain_at [] k p h e = omega arith
plain_at (x ∷ xs) zero p h e = let t : ◌≡◌ {A = Bool} false true = rw (eq-eqb x 10 e) at (and_true (not (eqb x 10)) (plain xs) p).0 in true_false (sym t)
plain_at (x ∷ xs) (suc k) p h e = plain_at xs k (and_true (not (eqb x 10)) (plain xs) p).1 (omega arith) e

plain_digits : (n : ℕ) → plain (digits n) ≡ true
plain_digits n = by_digits (λ n. plain (digits n) ≡ true) one more n
  where
    one : (n : ℕ) → n < 10 → plain (digits n) ≡ true
    one n h = rw (digits_short n h) (plain_one (48 + n) (λ e. omega arith))

    more : (n : ℕ) → 10 ≤ n → plain (digits (n / 10)) ≡ true → plain (digits n) ≡ true
    more n h p = rw (digits_long n h) (plain_append (digits (n / 10)) ((48 + n % 10) ∷ []) p (plain_one (48 + n % 10) (λ e. omega arith)))

plain_separated : (ns : List ℕ) → plain (separated ns) ≡ true
unfolding separated plain ended
plain_separated [] = refl
plain_separated (n ∷ ns) =
    plain_append (digits n ++ (44 ∷ [])) (separated ns) (plain_append (digits n) (44 ∷ []) (plain_digits n) refl) (plain_separated ns)

-- ---- lines

-- bytes whose only end byte is their last
pub record OneLine (l : List ℕ) : Type 0 where
  pub body : List ℕ
  pub no_end : plain body ≡ true
  pub is : l ≡ body ++ (10 ∷ [])

pub names_line : OneLine plan_names
unfolding plan_names plain
names_line = record { body = take 26 plan_names; no_end = refl; is = refl }

pub total_name_line : OneLine total_name
unfolding total_name plain
total_name_line = record { body = take 5 total_name; no_end = refl; is = refl }

pub number_line : (n : ℕ) → OneLine (ended 10 n)
unfolding ended
number_line n = record { body = digits n; no_end = plain_digits n; is = refl }

pub values_line : (ns : List ℕ) (last : ℕ) → OneLine (line ns last)
unfolding line ended
values_line ns last = record {
  body = separated ns ++ digits last;
  no_end = plain_append (separated ns) (digits last) (plain_separated ns) (plain_digits last);
  is = sym (append_assoc (separated ns) (digits last) (10 ∷ []));
}

pub line_pos : {l : List ℕ} → OneLine l → 1 ≤ length l
line_pos o = omega (arith, ap length o.is ∙ length-append o.body (10 ∷ []))

-- ---- texts that begin alike

-- bytes that a text begins with, up to a place of another
pub same_front : (t s : List ℕ) (next : ℕ) → next ≤ length s → starts_with t (take next s) ≡ true → take next t ≡ take next s
same_front t s next h e = let l = length-take-le next s h in rw l at (starts_is t (take next s) e)

front_fits : (t s : List ℕ) (next : ℕ) → next ≤ length s → take next t ≡ take next s → next ≤ length t
front_fits t s next h e = omega (arith, length-take next t, length-take-le next s h, ap length e)

-- a line that stands in a text ends there
pub line_ends : {l s : List ℕ} {at next : ℕ} → OneLine l → Stands l s at next → at ≤ length s → LineEnds s next
line_ends {l} {s} {at} {next} o a h =
    let n = length o.body in
    let long : length l ≡ n + 1 = ap length o.is ∙ length-append o.body (10 ∷ []) in
    let e : drop at s ≡ o.body ++ (10 ∷ drop next s) = a.text ∙ rw o.is (append_assoc o.body (10 ∷ []) (drop next s)) in
    let z : next - 1 ≡ at + n = omega (arith, a.place) in
    record {
      some = omega (arith, a.place);
      inside = within a h;
      end_byte = rw z (sym (get_or-drop at s n 0) ∙ rw e (get_or_at o.body 10 (drop next s) 0 n refl));
    }

-- Where a text has lines up to `next` as t has them, and t has a line l behind a, then the text has all of l behind a if it has anything
-- there: its byte before `next` is an end byte, and the only end byte of l is its last.
module _ (t s a l r : List ℕ) (next : ℕ) (is : t ≡ a ++ (l ++ r)) (o : OneLine l) (ends : LineEnds s next) (same : take next t ≡ take next s)
    (beyond : length a < next) where
  long : length l ≡ length o.body + 1
  long = ap length o.is ∙ length-append o.body (10 ∷ [])

  inside : (k : ℕ) → length a + k ≡ next - 1 → k < length o.body → get_or o.body k 0 ≡ 10
  inside k e h =
      let b : get_or t (next - 1) 0 ≡ get_or (l ++ r) k 0 = rw (is, ← e) (get_or-append-add a (l ++ r) k 0) in
      let c : get_or (l ++ r) k 0 ≡ get_or o.body k 0 = rw (o.is, append_assoc) (get_or-append o.body ((10 ∷ []) ++ r) 0 k h) in
      let f : get_or t (next - 1) 0 ≡ get_or s (next - 1) 0 =
      sym (get_or-take next t (next - 1) 0 (omega arith)) ∙ (ap (λ (x : List ℕ). get_or x (next - 1) 0) same ∙ get_or-take next s (next - 1) 0 (omega arith))
      in
      sym c ∙ (sym b ∙ (f ∙ ends.end_byte))

  line_within : length a + length l ≤ next
  line_within = elim (lt? next (length a + length l)) [
    | inr h ↦ h
    | inl h ↦ absurd (at (next - 1 - length a) (omega arith) (omega (arith, long)))
  ]
    where
      at : (k : ℕ) → length a + k ≡ next - 1 → k < length o.body → ⊥
      at k e h = plain_at o.body k o.no_end h (inside k e h)

  pub line_more : (length a + length l ≤ next) × Stands l s (length a) (length a + length l)
  line_more = (line_within, record { text = stands; place = refl })
    where
      m : ℕ
      m = length a + length l

      front : take m s ≡ a ++ l
      front =
          sym (take-take m next s line_within) ∙ (ap (take m) (sym same) ∙ (take-take m next t line_within
          ∙ rw (is, ← (append_assoc a l r)) (take_at (a ++ l) r m (length-append a l))))

      stands : drop (length a) s ≡ l ++ drop m s
      stands =
          let e : s ≡ a ++ (l ++ drop m s) = sym (take-append-drop m s) ∙ rw (front, append_assoc) in
          ap (drop (length a)) e ∙ drop-append_seam a (l ++ drop m s)
