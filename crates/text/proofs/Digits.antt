-- Laws of decimal digits: how they grow, how many there are, and that they write their number.
-- Assumes nothing.
use Prim.Native.Nat.{ℕ, zero, suc, ◌≤◌, ◌<◌, ◌+◌, ◌*◌, ◌/◌, ◌%◌, ◌^◌}
use native.Mathlib.Omega.{arith}
use native.Mathlib.Numerals.{add-one}
use native.Mathlib.Nat.{pow-suc, pow-le-pow_right}
use mathlib.Core.Path.{◌≡◌, refl, ap, sym, ◌∙◌}
use mathlib.Core.Logic.{◌⊎◌, inl, inr}
use mathlib.Core.List.{List, [], ◌∷◌, ◌++◌, append_assoc, append-nil}
use mathlib.Core.Bool.{Bool, true, false}
use lib.ListN.{length, get_or, length-append}
use lib.Dec.{ltb, lit<}
use borrow.Author.Tests.{lt-ltb, le-ltb, ltb-true, ltb-false}
use Rattle.text.specs.Digits.{digits_in, digits, ended, separated}
use Rattle.text.specs.Loops.{dec}

pub split : (a b : ℕ) → (a < b) ⊎ (b ≤ a)
split a b = go (ltb a b) refl
  where
    go : (t : Bool) → ltb a b ≡ t → (a < b) ⊎ (b ≤ a)
    go true e = inl (ltb-true a b e)
    go false e = inr (ltb-false a b e)

short_in : (k n : ℕ) → n < 10 → digits_in k n ≡ (48 + n) ∷ []
unfolding digits_in
short_in zero n h = refl
short_in (suc k) n h = rw (lt-ltb n 10 h)

long_in : (k n : ℕ) → 10 ≤ n → digits_in (suc k) n ≡ digits_in k (n / 10) ++ ((48 + n % 10) ∷ [])
unfolding digits_in
long_in k n h = rw (le-ltb n 10 h)

enough : (k j n : ℕ) → n ≤ k → n ≤ j → digits_in k n ≡ digits_in j n
enough zero j n p q = short_in zero n (omega arith) ∙ sym (short_in j n (omega arith))
enough (suc k) zero n p q = short_in (suc k) n (omega arith) ∙ sym (short_in zero n (omega arith))
enough (suc k) (suc j) n p q = elim (split n 10) [
  | inl h ↦ short_in (suc k) n h ∙ sym (short_in (suc j) n h)
  | inr h ↦ long_in k n h ∙ (ap (λ (l : List ℕ). l ++ ((48 + n % 10) ∷ [])) (enough k j (n / 10) (omega arith) (omega arith)) ∙ sym (long_in j n h))
]

pub digits_short : (n : ℕ) → n < 10 → digits n ≡ (48 + n) ∷ []
unfolding digits
digits_short n h = short_in n n h

pub digits_long : (n : ℕ) → 10 ≤ n → digits n ≡ digits (n / 10) ++ ((48 + n % 10) ∷ [])
unfolding digits
digits_long zero h = absurd (omega arith)
digits_long (suc n) h = long_in n (suc n) h ∙ rw (enough n (suc n / 10) (suc n / 10) (omega arith) (omega arith))

-- what holds of numbers of one digit, and of a number if it holds of all but its last digit, holds of all
module _ (P : ℕ → Type 0) (one : (n : ℕ) → n < 10 → P n) (more : (n : ℕ) → 10 ≤ n → P (n / 10) → P n) where
  upto : (k n : ℕ) → n ≤ k → P n
  upto zero n h = one n (omega arith)
  upto (suc k) n h = elim (split n 10) [ inl l ↦ one n l | inr g ↦ more n g (upto k (n / 10) (omega arith)) ]

  pub by_digits : (n : ℕ) → P n
  by_digits n = upto n n (omega arith)

pub count_short : (n : ℕ) → n < 10 → length (digits n) ≡ 1
count_short n h = rw (digits_short n h)

pub count_long : (n : ℕ) → 10 ≤ n → length (digits n) ≡ length (digits (n / 10)) + 1
count_long n h = rw (digits_long n h) (length-append (digits (n / 10)) ((48 + n % 10) ∷ []))

pub count_pos : (n : ℕ) → 0 < length (digits n)
count_pos n = by_digits (λ n. 0 < length (digits n)) (λ n h. omega (arith, count_short n h)) (λ n h ih. omega (arith, count_long n h)) n

-- n is below 10 to the number of its digits ..
below_power : (n : ℕ) → n < 10 ^ length (digits n)
below_power n = by_digits (λ n. n < 10 ^ length (digits n)) one more n
  where
    one : (n : ℕ) → n < 10 → n < 10 ^ length (digits n)
    one n h = rw (count_short n h) (omega arith)

    more : (n : ℕ) → 10 ≤ n → n / 10 < 10 ^ length (digits (n / 10)) → n < 10 ^ length (digits n)
    more n h ih = rw (count_long n h, add-one, pow-suc) (omega arith)

-- .. and not below a tenth of that
above_power : (n : ℕ) → 0 < n → 10 ^ length (digits n) ≤ n * 10
above_power n = by_digits (λ n. 0 < n → 10 ^ length (digits n) ≤ n * 10) one more n
  where
    one : (n : ℕ) → n < 10 → 0 < n → 10 ^ length (digits n) ≤ n * 10
    one n h p = rw (count_short n h) (omega arith)

    more : (n : ℕ) → 10 ≤ n → (0 < n / 10 → 10 ^ length (digits (n / 10)) ≤ (n / 10) * 10) → 0 < n → 10 ^ length (digits n) ≤ n * 10
    more n h ih p = let q = ih (omega arith) in rw (count_long n h, add-one, pow-suc) (omega arith)

power_lt : (a b : ℕ) → 10 ^ a < 10 ^ b * 10 → a ≤ b
power_lt a b h = elim (split b a) [
  | inl l ↦ absurd (omega (arith, pow-le-pow_right {n = 10} (lit< tt) {i = suc b} {j = a} (omega arith), pow-suc 10 b))
  | inr g ↦ g
]

pub count_is : (n d : ℕ) → 0 < n → n < 10 ^ d → 10 ^ d ≤ n * 10 → length (digits n) ≡ d
count_is n d p h g =
    let a = power_lt (length (digits n)) d (omega (arith, above_power n p)) in
    let b = power_lt d (length (digits n)) (omega (arith, below_power n)) in
    omega arith

-- a number below 10 ^ d has at most d digits
pub count_le : (n d : ℕ) → 0 < d → n < 10 ^ d → length (digits n) ≤ d
count_le n d p h = elim (split n 10) [
  | inl l ↦ omega (arith, count_short n l)
  | inr g ↦ power_lt (length (digits n)) d (omega (arith, above_power n (omega arith)))
]

-- the first byte of a number is a digit, and not 48 but for 0
pub first_digit : (n : ℕ) (ys : List ℕ) → (48 ≤ get_or (digits n ++ ys) 0 0) × (get_or (digits n ++ ys) 0 0 ≤ 57)
first_digit n = by_digits (λ n. (ys : List ℕ) → (48 ≤ get_or (digits n ++ ys) 0 0) × (get_or (digits n ++ ys) 0 0 ≤ 57)) one more n
  where
    one : (n : ℕ) → n < 10 → (ys : List ℕ) → (48 ≤ get_or (digits n ++ ys) 0 0) × (get_or (digits n ++ ys) 0 0 ≤ 57)
    one n h ys = rw (digits_short n h) (omega arith, omega arith)

    more : (n : ℕ) → 10 ≤ n → ((ys : List ℕ) → (48 ≤ get_or (digits (n / 10) ++ ys) 0 0) × (get_or (digits (n / 10) ++ ys) 0 0 ≤ 57))
        → (ys : List ℕ) → (48 ≤ get_or (digits n ++ ys) 0 0) × (get_or (digits n ++ ys) 0 0 ≤ 57)
    more n h ih ys = rw (digits_long n h, append_assoc) (ih ((48 + n % 10) ∷ ys))

pub first_pos : (n : ℕ) → 0 < n → (ys : List ℕ) → 48 < get_or (digits n ++ ys) 0 0
first_pos n = by_digits (λ n. 0 < n → (ys : List ℕ) → 48 < get_or (digits n ++ ys) 0 0) one more n
  where
    one : (n : ℕ) → n < 10 → 0 < n → (ys : List ℕ) → 48 < get_or (digits n ++ ys) 0 0
    one n h p ys = rw (digits_short n h) (omega arith)

    more : (n : ℕ) → 10 ≤ n → (0 < n / 10 → (ys : List ℕ) → 48 < get_or (digits (n / 10) ++ ys) 0 0) → 0 < n → (ys : List ℕ) → 48 < get_or (digits n ++ ys) 0 0
    more n h ih p ys = rw (digits_long n h, append_assoc) (ih (omega arith) ((48 + n % 10) ∷ ys))

pub length_dec : (k n : ℕ) → length (dec k n) ≡ k
unfolding dec
length_dec zero n = refl
length_dec (suc k) n = simp (length-append, length_dec k) (add-one k)

pub digits_dec : (n : ℕ) → digits n ≡ dec (length (digits n)) n
unfolding dec
digits_dec n = by_digits (λ n. digits n ≡ dec (length (digits n)) n) one more n
  where
    one : (n : ℕ) → n < 10 → digits n ≡ dec (length (digits n)) n
    one n h = let e : n % 10 ≡ n = omega arith in rw (count_short n h, digits_short n h, e)

    more : (n : ℕ) → 10 ≤ n → digits (n / 10) ≡ dec (length (digits (n / 10))) (n / 10) → digits n ≡ dec (length (digits n)) n
    more n h ih = rw (count_long n h, add-one, ← ih) (digits_long n h)

pub length_ended : (e n : ℕ) → length (ended e n) ≡ length (digits n) + 1
unfolding ended
length_ended e n = length-append (digits n) (e ∷ [])

pub separated_snoc : (ns : List ℕ) (n : ℕ) → separated (ns ++ (n ∷ [])) ≡ separated ns ++ ended 44 n
unfolding separated
separated_snoc [] n = append-nil (ended 44 n)
separated_snoc (m ∷ ns) n = rw (separated_snoc ns n, append_assoc)

-- a 64-bit number has at most 20 digits
pub ended_le : (e n : ℕ) → n < 2 ^ 64 → length (ended e n) ≤ 21
ended_le e n h = omega (arith, length_ended e n, count_le n 20 (lit< tt) (omega arith))

-- a number of 7 digits or less and its end byte
pub ended_short : (e n : ℕ) → n < 10000000 → length (ended e n) ≤ 8
ended_short e n h = omega (arith, length_ended e n, count_le n 7 (lit< tt) (omega arith))
