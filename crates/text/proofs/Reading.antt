-- A number read is the number written, and back, at any place of a text; and one law for each way through the reading functions.
-- Assumes nothing.
use Prim.Native.Nat.{ℕ, zero, suc, ◌≤◌, ◌<◌, ◌+◌, ◌-◌, ◌*◌, ◌/◌, ◌%◌, ◌^◌}
use native.Mathlib.Omega.{arith}
use native.Mathlib.Numerals.{add-one}
use native.Mathlib.Nat.{pow-suc, pow-le-pow_right, mul-le-mul_right}
use mathlib.Core.Path.{◌≡◌, refl, ap, sym, ◌∙◌}
use mathlib.Core.List.{List, [], ◌∷◌, ◌++◌, append_assoc, append-nil}
use mathlib.Core.Logic.{inl, inr}
use mathlib.Core.Bool.{Bool, true, false, cond, ◌&&◌, ◌||◌}
use lib.ListN.{length, get_or, take, drop, take-append-drop, length-append, length-drop, drop_of_length-le, get_or-eq_default}
use lib.Seq.{take_at, drop-cons, drop-drop, drop-append_seam, get_or-drop, get_or_at}
use lib.Dec.{ltb, leb, eqb, lit<}
use borrow.Author.Tests.{le-leb, leb-true, leb-false, ltb-false, eq-eqb, ne_eqb, eqb-true, eqb-false, lt-ltb, le-ltb}
use Rattle.text.specs.Digits.{digits, ended}
use Rattle.text.specs.Reading.{run, value, zero_first, some_number, number_of, number, ended_by, field}
use Rattle.text.specs.Standing.{Stands, FieldHere}
use Rattle.text.specs.Loops.{dec}
use Rattle.text.specs.declared.Number.{Number}
use Rattle.std.specs.Prelude.{Option, Some, None, EachIndex}
use Rattle.std.specs.List.{prefix_len, between}
use Rattle.std.specs.Char.{is_ascii_digit, IsAsciiDigit}
use Rattle.std.proofs.Math.Bool.{or-true}
use Rattle.std.proofs.lemmas.List.{take_rest}
use Rattle.std.proofs.lemmas.List.Sums.{take_while-cons}
use Rattle.std.proofs.lemmas.List.Folds.{length-prefix_len}
use Rattle.std.proofs.lemmas.Option.{same_Some}
use Rattle.text.proofs.Digits.{split, digits_short, digits_long, by_digits, count_short, count_pos, count_is, first_pos, digits_dec, length_ended}

-- runs of digits

run_step : (d : ℕ) (ys : List ℕ) → run (d ∷ ys) ≡ cond (is_ascii_digit d) (d ∷ run ys) []
unfolding run
run_step d ys = take_while-cons is_ascii_digit d ys

pos_pick : (b : Bool) (l : List ℕ) → 0 < length (cond b l []) → b ≡ true
pos_pick true l h = refl
pos_pick false l h = absurd (omega arith)

pub run_pos : (l : List ℕ) → 0 < length (run l) → (0 < length l) × (get_or (run l) 0 0 ≡ get_or l 0 0)
unfolding run
run_pos [] h = absurd (omega arith)
run_pos (x ∷ xs) h = let e = run_step x xs in rw e (omega arith, rw (pos_pick (is_ascii_digit x) (x ∷ run xs) (rw e at h)))

pub and_true : (a b : Bool) → a && b ≡ true → (a ≡ true) × (b ≡ true)
and_true true b e = (refl, e)
and_true false b e = (e, cc)

and_false : (b : Bool) → b && false ≡ false
and_false true = refl
and_false false = refl

digit_bounds : (d : ℕ) → is_ascii_digit d ≡ true → (48 ≤ d) × (d ≤ 57)
digit_bounds d e = let p = and_true (leb 48 d) (leb d 57) e in (leb-true 48 d p.0, leb-true d 57 p.1)

digit_lem : (d : ℕ) → 48 ≤ d → d ≤ 57 → is_ascii_digit d ≡ true
digit_lem d p q = rw (le-leb 48 d p, le-leb d 57 q)

run_cons : (d : ℕ) (ys : List ℕ) → is_ascii_digit d ≡ true → run (d ∷ ys) ≡ d ∷ run ys
run_cons d ys e = rw (run_step, e)

run_stop : (x : ℕ) (ys : List ℕ) → is_ascii_digit x ≡ false → run (x ∷ ys) ≡ []
run_stop x ys e = rw (run_step, e)

run_digits : (n : ℕ) (ys : List ℕ) → run (digits n ++ ys) ≡ digits n ++ run ys
run_digits n = by_digits (λ n. (ys : List ℕ) → run (digits n ++ ys) ≡ digits n ++ run ys) one more n
  where
    one : (n : ℕ) → n < 10 → (ys : List ℕ) → run (digits n ++ ys) ≡ digits n ++ run ys
    one n h ys = rw (digits_short n h) (run_cons (48 + n) ys (digit_lem (48 + n) (omega arith) (omega arith)))

    more : (n : ℕ) → 10 ≤ n → ((ys : List ℕ) → run (digits (n / 10) ++ ys) ≡ digits (n / 10) ++ run ys) → (ys : List ℕ) → run (digits n ++ ys) ≡ digits n ++ run ys
    more n h ih ys =
        rw (digits_long n h, append_assoc (digits (n / 10)) ((48 + n % 10) ∷ []) ys, append_assoc (digits (n / 10)) ((48 + n % 10) ∷ []) (run ys))
        (ih ((48 + n % 10) ∷ ys) ∙ rw (run_cons (48 + n % 10) ys (digit_lem (48 + n % 10) (omega arith) (omega arith))))

value_snoc : (acc : ℕ) (xs : List ℕ) (d : ℕ) → value acc (xs ++ (d ∷ [])) ≡ value acc xs * 10 + (d - 48)
unfolding value
value_snoc acc [] d = refl
value_snoc acc (x ∷ xs) d = value_snoc (acc * 10 + (x - 48)) xs d

-- digits write their number
value_digits : (n : ℕ) → value 0 (digits n) ≡ n
unfolding value
value_digits n = by_digits (λ n. value 0 (digits n) ≡ n) (λ n h. rw (digits_short n h) (omega arith)) more n
  where
    more : (n : ℕ) → 10 ≤ n → value 0 (digits (n / 10)) ≡ n / 10 → value 0 (digits n) ≡ n
    more n h ih = rw (digits_long n h, value_snoc, ih) (omega arith)

no_zero : (n : ℕ) → zero_first (digits n) ≡ false
unfolding zero_first
no_zero n = elim (split n 10) [ inl h ↦ short h | inr h ↦ rw (ne_eqb (get_or (digits n) 0 0) 48 (λ e. omega (arith, rw append-nil at (first_pos n (omega arith) [])))) ]
  where
    short : n < 10 → eqb (get_or (digits n) 0 0) 48 && ltb 1 (length (digits n)) ≡ false
    short h = rw (count_short n h) (and_false (eqb (get_or (digits n) 0 0) 48))

-- digits at a place, and no digit behind them, are read as their number
number_digits : (most : ℕ) (s : List ℕ) (at n x : ℕ) (ys : List ℕ) → length (digits n) ≤ most → is_ascii_digit x ≡ false → drop at s ≡ digits n ++ (x ∷ ys)
    → number most s at ≡ some_number n (at + length (digits n))
unfolding number number_of
number_digits most s at n x ys h d e =
    rw (
      e,
      run_digits n (x ∷ ys),
      run_stop x ys d,
      append-nil,
      ne_eqb (length (digits n)) 0 (λ z. omega (arith, count_pos n)),
      le-ltb most (length (digits n)) h,
      no_zero n,
      value_digits n,
    )

-- the other way round

-- bytes that are digits
abbrev all_digits : List ℕ → Type 0
all_digits [] = Unit {0}
all_digits (d ∷ ds) = (48 ≤ d) × (d ≤ 57) × all_digits ds

run_all : (l : List ℕ) → all_digits (run l)
unfolding run
run_all [] = tt
run_all (x ∷ xs) = rw run_step (go (is_ascii_digit x) refl (run_all xs))
  where
    go : (b : Bool) → is_ascii_digit x ≡ b → all_digits (run xs) → all_digits (cond b (x ∷ run xs) [])
    go true e r = let p = digit_bounds x e in (p.0, p.1, r)
    go false e r = tt

run_front : (l : List ℕ) → l ≡ run l ++ drop (length (run l)) l
unfolding run
run_front l = rw length-prefix_len (sym (take-append-drop (prefix_len is_ascii_digit l) l))

dec_push : (k acc d : ℕ) → 48 ≤ d → d ≤ 57 → dec (suc k) (acc * 10 + (d - 48)) ≡ dec k acc ++ (d ∷ [])
unfolding dec
dec_push k acc d lo hi =
    let q : (acc * 10 + (d - 48)) / 10 ≡ acc = omega arith in
    let r : 48 + (acc * 10 + (d - 48)) % 10 ≡ d = omega arith in
    rw (q, r)

dec_value : (k acc : ℕ) (r : List ℕ) → all_digits r → dec (k + length r) (value acc r) ≡ dec k acc ++ r
unfolding value
dec_value k acc [] a = let z : k + 0 ≡ k = omega arith in rw (append-nil, z)
dec_value k acc (d ∷ ds) a =
    let ih = dec_value (suc k) (acc * 10 + (d - 48)) ds a.2 in
    let e : k + suc (length ds) ≡ suc k + length ds = omega arith in
    rw e (ih ∙ rw (dec_push k acc d a.0 a.1, append_assoc))

value_lt : (acc : ℕ) (r : List ℕ) → all_digits r → value acc r < (acc + 1) * 10 ^ length r
unfolding value
value_lt acc [] a = omega arith
value_lt acc (d ∷ ds) a =
    let ih = value_lt (acc * 10 + (d - 48)) ds a.2 in
    let p : 10 ^ suc (length ds) ≡ 10 ^ length ds * 10 = pow-suc 10 (length ds) in
    let m : (acc * 10 + (d - 48) + 1) * 10 ^ length ds ≤ ((acc + 1) * 10) * 10 ^ length ds = mul-le-mul_right (10 ^ length ds) (omega (arith, a.1)) in
    rw p (omega arith)

value_ge : (acc : ℕ) (r : List ℕ) → acc * 10 ^ length r ≤ value acc r
unfolding value
value_ge acc [] = omega arith
value_ge acc (d ∷ ds) =
    let ih = value_ge (acc * 10 + (d - 48)) ds in
    let p : 10 ^ suc (length ds) ≡ 10 ^ length ds * 10 = pow-suc 10 (length ds) in
    let m : (acc * 10) * 10 ^ length ds ≤ (acc * 10 + (d - 48)) * 10 ^ length ds = mul-le-mul_right (10 ^ length ds) (omega arith) in
    rw p (omega arith)

not_zero : (d : ℕ) (ds : List ℕ) → zero_first (d ∷ ds) ≡ false → 0 < length ds → d ≡ 48 → ⊥
unfolding zero_first
not_zero d ds z h e = let q : ◌≡◌ {A = Bool} true false = rw (eq-eqb d 48 e, lt-ltb 1 (suc (length ds)) (omega arith)) at z in let w : ◌≡◌ {A = ℕ} 0 1 = cc in omega arith

count_value : (r : List ℕ) → all_digits r → 0 < length r → zero_first r ≡ false → length (digits (value 0 r)) ≡ length r
unfolding value
count_value [] a p z = absurd (omega arith)
count_value (d ∷ []) a p z = count_short (0 * 10 + (d - 48)) (omega (arith, a.0, a.1))
count_value (d ∷ x ∷ ds) a p z = count_is v (length (d ∷ x ∷ ds)) (omega (arith, ge, pos)) (omega (arith, value_lt 0 (d ∷ x ∷ ds) a)) (omega (arith, ge, pow))
  where
    v : ℕ
    v = value 0 (d ∷ x ∷ ds)

    n : d ≡ 48 → ⊥
    n = not_zero d (x ∷ ds) z (omega arith)

    ge : 1 * 10 ^ length (x ∷ ds) ≤ v
    ge =
        let q : d ≡ 48 → ⊥ = n in
        let m : 1 * 10 ^ length (x ∷ ds) ≤ (0 * 10 + (d - 48)) * 10 ^ length (x ∷ ds) = mul-le-mul_right (10 ^ length (x ∷ ds)) (omega (arith, a.0)) in
        omega (arith, value_ge (0 * 10 + (d - 48)) (x ∷ ds))

    pow : 10 ^ length (d ∷ x ∷ ds) ≡ 10 ^ length (x ∷ ds) * 10
    pow = pow-suc 10 (length (x ∷ ds))

    pos : 10 ^ 0 ≤ 10 ^ length (x ∷ ds)
    pos = pow-le-pow_right {n = 10} (lit< tt) {i = 0} {j = length (x ∷ ds)} (omega arith)

digits_value : (r : List ℕ) → all_digits r → 0 < length r → zero_first r ≡ false → digits (value 0 r) ≡ r
unfolding dec
digits_value r a p z =
    let q : 0 + length r ≡ length r = omega arith in
    digits_dec (value 0 r) ∙ rw (count_value r a p z) (rw q at (dec_value 0 0 r a))

-- what is read is one number and one place
pub same_read : {m x n y : ℕ} → some_number m x ≡ some_number n y → (m ≡ n) × (x ≡ y)
same_read e = let q = same_Some _ _ e in (ap (λ (p : Number). p.n) q, ap (λ (p : Number). p.next) q)

parts : (a b c : Bool) (v n x y : ℕ) → cond (a || b || c) None (some_number v x) ≡ some_number n y → (a ≡ false) × (b ≡ false) × (c ≡ false) × (v ≡ n) × (x ≡ y)
parts true b c v n x y e = let z : ◌≡◌ {A = ℕ} 0 1 = cc in absurd (omega arith)
parts false true c v n x y e = let z : ◌≡◌ {A = ℕ} 0 1 = cc in absurd (omega arith)
parts false false true v n x y e = let z : ◌≡◌ {A = ℕ} 0 1 = cc in absurd (omega arith)
parts false false false v n x y e = let p = same_read e in (refl, refl, refl, p.0, p.1)

-- what was read as a number are its digits
record Parsed (most : ℕ) (s : List ℕ) (at n next : ℕ) : Type 0 where
  short : length (digits n) ≤ most
  text : drop at s ≡ digits n ++ drop next s
  place : next ≡ at + length (digits n)

parsed : (most : ℕ) (s : List ℕ) (at n next : ℕ) → number most s at ≡ some_number n next → Parsed most s at n next
unfolding number number_of
parsed most s at n next e =
    let r = run (drop at s) in
    let p = parts (eqb (length r) 0) (ltb most (length r)) (zero_first r) (value 0 r) n (at + length r) next e in
    go (run_all (drop at s)) (eqb-false (length r) 0 p.0) (ltb-false most (length r) p.1) p.2 p.3 p.4
  where
    go : all_digits (run (drop at s)) → (length (run (drop at s)) ≡ 0 → ⊥) → length (run (drop at s)) ≤ most → zero_first (run (drop at s)) ≡ false
        → value 0 (run (drop at s)) ≡ n → at + length (run (drop at s)) ≡ next → Parsed most s at n next
    go a ne le z v x =
        let pos : 0 < length (run (drop at s)) = omega arith in
        let d : digits n ≡ run (drop at s) = rw v at (digits_value (run (drop at s)) a pos z) in
        record { short = rw d le; text = rw (d, ← x, ← drop-drop) (run_front (drop at s)); place = rw d (sym x) }

-- fields

-- what stands behind a front part
pub past : (s : List ℕ) (at : ℕ) (xs ys : List ℕ) → drop at s ≡ xs ++ ys → drop (at + length xs) s ≡ ys
past s at xs ys e = rw (← drop-drop, e) (drop-append_seam xs ys)

pub at_place : (s : List ℕ) (at k : ℕ) (xs : List ℕ) → drop at s ≡ xs → get_or s (at + k) 0 ≡ get_or xs k 0
at_place s at k xs e = rw (← get_or-drop, e)

pub there : (s : List ℕ) (x : ℕ) → 0 < get_or s x 0 → x < length s
there s x h = go (leb (length s) x) refl
  where
    go : (b : Bool) → leb (length s) x ≡ b → x < length s
    go true e = absurd (omega (arith, get_or-eq_default s 0 {n = x} (leb-true _ _ e)))
    go false e = leb-false _ _ e

pub within : {t s : List ℕ} {at next : ℕ} → Stands t s at next → at ≤ length s → next ≤ length s
within {t} {s} {at} {next} a h = omega (arith, a.place, length-drop at s, simp length-append at (ap length a.text))

-- bytes in front of others stand at their place
pub stand : (s t u : List ℕ) (at : ℕ) → drop at s ≡ t ++ u → Stands t s at (at + length t)
stand s t u at e = record { text = e ∙ rw (past s at t u e); place = refl }

pub join : {s t u : List ℕ} {at m next : ℕ} → Stands t s at m → Stands u s m next → Stands (t ++ u) s at next
join a b = record { text = a.text ∙ rw (b.text, append_assoc); place = simp length-append (omega (arith, a.place, b.place)) }

-- a text of two parts, each at its place
pub parted : {s t u : List ℕ} {at next : ℕ} → Stands (t ++ u) s at next → Stands t s at (at + length t) × Stands u s (at + length t) next
parted {s} {t} {u} {at} {next} a =
    let e : drop at s ≡ t ++ (u ++ drop next s) = a.text ∙ append_assoc t u (drop next s) in
    let d : drop (at + length t) s ≡ u ++ drop next s = past s at t (u ++ drop next s) e in
    (stand s t (u ++ drop next s) at e, record { text = d; place = omega (arith, a.place, length-append t u) })

pub picked : (b : Bool) (m x n next : ℕ) → cond b (some_number m x) None ≡ some_number n next → (b ≡ true) × (m ≡ n) × (x ≡ next)
picked true m x n next e = let p = same_read e in (refl, p.0, p.1)
picked false m x n next e = let z : ◌≡◌ {A = ℕ} 0 1 = cc in absurd (omega arith)

pub open_up : (e n : ℕ) (ys : List ℕ) → ended e n ++ ys ≡ digits n ++ (e ∷ ys)
unfolding ended
open_up e n ys = append_assoc (digits n) (e ∷ []) ys

pub end_no_digit : is_ascii_digit 10 ≡ false
end_no_digit = refl

pub comma_no_digit : is_ascii_digit 44 ≡ false
comma_no_digit = refl

-- a field read at a place is a number of at most `most` digits, written there with its end byte, and back

pub field_read : {most e : ℕ} {s : List ℕ} {at n next : ℕ} → 0 < e → field most e s at ≡ some_number n next → FieldHere most e s at n next
unfolding field ended
field_read {most} {e} {s} {at} {n} {next} pos = go (number most s at) refl
  where
    go : (p : Option Number) → number most s at ≡ p → ended_by e s p ≡ some_number n next → FieldHere most e s at n next
    go None q r = let z : ◌≡◌ {A = ℕ} 0 1 = cc in absurd (omega arith)
    go (Some p) q r =
        let k = picked (eqb (get_or s p.next 0) e) p.n (p.next + 1) n next r in
        let g : get_or s p.next 0 ≡ e = eqb-true _ _ k.0 in
        let d = parsed most s at p.n p.next q in
        let t : p.next < length s = there s p.next (omega arith) in
        let l = rw k.1 at (length_ended e p.n) in
        let c : drop p.next s ≡ e ∷ drop next s = rw (← k.2, add-one) (drop-cons s p.next 0 t ∙ rw g) in
        record {
          short = rw k.1 at d.short;
          stands = record { text = d.text ∙ rw (k.1, c, append_assoc); place = omega (arith, rw k.1 at d.place) };
        }

pub field_write : {most e : ℕ} {s : List ℕ} {at n next : ℕ} → is_ascii_digit e ≡ false → FieldHere most e s at n next → field most e s at ≡ some_number n next
unfolding field
field_write {most} {e} {s} {at} {n} {next} d f =
    let q : drop at s ≡ digits n ++ (e ∷ drop next s) = f.stands.text ∙ open_up e n (drop next s) in
    let w = length (digits n) in
    let g : get_or s (at + w) 0 ≡ e = at_place s at w _ q ∙ get_or_at (digits n) e (drop next s) 0 w refl in
    let l : at + w + 1 ≡ next = omega (arith, f.stands.place, length_ended e n) in
    rw (number_digits most s at n e (drop next s) f.short d q, eq-eqb _ _ g, l)

-- numbers that a byte other than a digit ends: the same bytes, the same numbers and the same rest
pub same_number : (e m n : ℕ) (xs ys : List ℕ) → is_ascii_digit e ≡ false → ended e m ++ xs ≡ ended e n ++ ys → (m ≡ n) × (xs ≡ ys)
same_number e m n xs ys d q =
    let a : digits m ++ (e ∷ xs) ≡ digits n ++ (e ∷ ys) = sym (open_up e m xs) ∙ (q ∙ open_up e n ys) in
    let r : digits m ≡ digits n = sym (front m xs) ∙ (ap run a ∙ front n ys) in
    let v : m ≡ n = sym (value_digits m) ∙ (ap (value 0) r ∙ value_digits n) in
    (v, sym (drop-append_seam (ended e m) xs) ∙ (ap (drop (length (ended e m))) q ∙ rw v (drop-append_seam (ended e n) ys)))
  where
    front : (m : ℕ) (xs : List ℕ) → run (digits m ++ (e ∷ xs)) ≡ digits m
    front m xs = run_digits m (e ∷ xs) ∙ rw (run_stop e xs d, append-nil)

-- how many digits stand at a place, counted in the slice that starts there; and the slice that holds them
pub counted : (s : List ℕ) (at : ℕ) {k : ℕ} → k ≡ length (run (between at (length s) s)) → k ≡ length (run (drop at s))
counted s at e = e ∙ ap (λ (l : List ℕ). length (run l)) (take_rest s at)

pub digits_here : (s : List ℕ) (at k : ℕ) → k ≡ length (run (drop at s)) → between at (at + k) s ≡ run (drop at s)
digits_here s at k e =
    let z : at + k - at ≡ k = omega arith in
    let f : drop at s ≡ run (drop at s) ++ drop (length (run (drop at s))) (drop at s) = run_front (drop at s) in
    rw (z, e) (ap (take (length (run (drop at s)))) f ∙ take_at (run (drop at s)) _ _ refl)

pub run_within : (l : List ℕ) → length (run l) ≤ length l
run_within l = omega (arith, rw length-append at (ap length (run_front l)))

each_digit : (l : List ℕ) → all_digits l → EachIndex l (λ k. IsAsciiDigit (get_or l k 0))
each_digit [] a k h = absurd (omega arith)
each_digit (x ∷ xs) a zero h = (a.0, a.1)
each_digit (x ∷ xs) a (suc k) h = each_digit xs a.2 k (omega arith)

pub run_digits_each : (l : List ℕ) → EachIndex (run l) (λ k. IsAsciiDigit (get_or (run l) k 0))
run_digits_each l = each_digit (run l) (run_all l)

-- a turn of the loop over digits
module _ (ds : List ℕ) (i n : ℕ) (h : i < length ds) (few : length ds ≤ 9) (small : n < 10 ^ i) where
  pub below : n < 100000000
  below = let p : 10 ^ i ≤ 10 ^ 8 = pow-le-pow_right {n = 10} (lit< tt) {i = i} {j = 8} (omega arith) in omega arith

  pub turn : IsAsciiDigit (get_or ds i 0) → (total : ℕ) → value n (drop i ds) ≡ total
      → (n * 10 + (get_or ds i 0 - 48) < 10 ^ (i + 1)) × (value (n * 10 + (get_or ds i 0 - 48)) (drop (i + 1) ds) ≡ total)
  unfolding value
  turn d total q =
      let p : 10 ^ (i + 1) ≡ 10 ^ i * 10 = rw add-one (pow-suc 10 i) in
      (omega arith, rw (drop-cons ds i 0, ← add-one) at q)

pub done : (n i : ℕ) (ds : List ℕ) → length ds ≤ i → value n (drop i ds) ≡ n
unfolding value
done n i ds h = rw (drop_of_length-le ds h)

module _ (most : ℕ) (s : List ℕ) (at k : ℕ) (e : k ≡ length (run (drop at s))) where
  run_first : 0 < k → get_or (run (drop at s)) 0 0 ≡ get_or s at 0
  run_first h = let z : at + 0 ≡ at = omega arith in (run_pos (drop at s) (omega arith)).1 ∙ rw (get_or-drop, z)

  pub number_none : k ≡ 0 → None ≡ number most s at
  unfolding number number_of
  number_none h = rw (← e, h)

  pub number_long : most < k → None ≡ number most s at
  unfolding number number_of
  number_long h = rw (← e, ne_eqb k 0 (λ z. omega arith), lt-ltb most k h)

  pub number_zero : 1 < k → get_or s at 0 ≡ 48 → None ≡ number most s at
  unfolding number number_of zero_first
  number_zero h z = let p : 0 < k = omega arith in rw (← e, ne_eqb k 0 (λ z. omega arith), run_first p, eq-eqb _ _ z, lt-ltb 1 k h, or-true)

  value_when : zero_first (run (drop at s)) ≡ false → 0 < k → k ≤ most → some_number (value 0 (run (drop at s))) (at + k) ≡ number most s at
  unfolding number number_of
  value_when q h g = rw (q, ← e, ne_eqb k 0 (λ z. omega arith), le-ltb most k g)

  pub number_one : k ≤ 1 → 0 < k → k ≤ most → some_number (value 0 (run (drop at s))) (at + k) ≡ number most s at
  unfolding zero_first
  number_one o h g = value_when (rw (← e, le-ltb 1 k o) (and_false (eqb (get_or (run (drop at s)) 0 0) 48))) h g

  pub number_more : 1 < k → k ≤ most → (get_or s at 0 ≡ 48 → ⊥) → some_number (value 0 (run (drop at s))) (at + k) ≡ number most s at
  unfolding zero_first
  number_more o g z = let p : 0 < k = omega arith in value_when (rw (run_first p, ne_eqb _ _ z)) p g

-- one law for each way through the reader of a field
module _ (most e : ℕ) (s : List ℕ) (at : ℕ) where
  pub field_bad : number most s at ≡ None → None ≡ field most e s at
  unfolding field
  field_bad q = rw q

  pub field_end : (p : Number) → number most s at ≡ Some p → 0 < e → length s ≤ p.next → None ≡ field most e s at
  unfolding field
  field_end p q h g = let r = get_or-eq_default s 0 {n = p.next} g in rw (q, ne_eqb (get_or s p.next 0) e (λ z. omega arith))

  pub field_miss : (p : Number) → number most s at ≡ Some p → (get_or s p.next 0 ≡ e → ⊥) → None ≡ field most e s at
  unfolding field
  field_miss p q g = rw (q, ne_eqb (get_or s p.next 0) e g)

  pub field_hit : (p : Number) → number most s at ≡ Some p → get_or s p.next 0 ≡ e → some_number p.n (p.next + 1) ≡ field most e s at
  unfolding field
  field_hit p q g = rw (q, eq-eqb (get_or s p.next 0) e g)
