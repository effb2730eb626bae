-- The laws of the words of marks: their bits, and their counts of ones.
-- Assumes nothing.
use Prim.Native.Nat.{ℕ, zero, suc, ◌≤◌, ◌<◌, ◌+◌, ◌-◌, ◌*◌, ◌/◌, ◌%◌, ◌^◌, min}
use native.Mathlib.Omega.{arith}
use native.Mathlib.Numerals.{one-add}
use native.Mathlib.Nat.{one-mul, zero-mul, pow-suc, zero-add, add-zero}
use mathlib.Core.Path.{◌≡◌, refl, ap, sym, ◌∙◌}
use mathlib.Core.Logic.{inl, inr}
use mathlib.Core.Bool.{Bool, true, false, cond}
use lib.Dec.{ltb, eqb, lit<}
use lib.Bits.{bit_or, or_shifted_r, block_half, block_odd}
use lib.Pow.{high, shr-shr}
use lib.Count.{ones, ones_cat}
use borrow.Author.Tests.{lt-ltb, le-ltb}
use Rattle.assignment.specs.Sum.{gate, sum}
use Rattle.assignment.proofs.Tests.{eq?, lt?}
use Rattle.assignment.proofs.Sums.{sum_ext, sum_split}
use Rattle.period_card.specs.PeriodCard.{word, marks, size}

gate_most : (b : Bool) (p : ℕ) → gate b p ≤ p
gate_most true p = omega arith
gate_most false p = omega arith

module _ (e : ℕ → Bool) where
  word_lt : (from n : ℕ) → word e from n < 2 ^ n
  unfolding word
  word_lt from zero = lit< tt
  word_lt from (suc n) = omega (arith, word_lt from n, gate_most (e (from + n)) (2 ^ n), pow-suc 2 n)

  word_on : (from n : ℕ) → e (from + n) ≡ true → bit_or (word e from n) (2 ^ n) ≡ word e from (suc n)
  unfolding word
  word_on from n q = rw q (simp one-mul at (or_shifted_r 1 n (word e from n) (word_lt from n)))

  word_off : (from n : ℕ) → e (from + n) ≡ false → word e from n ≡ word e from (suc n)
  unfolding word
  word_off from n q = rw q (sym (zero-add (word e from n)))

  module _ (i : ℕ) where
    pub lo_on : i < 64 → e i ≡ true → bit_or (word e 0 (min i 64)) (2 ^ i) ≡ word e 0 (min (i + 1) 64)
    lo_on h q =
        let m : min i 64 ≡ i = omega arith in
        let k : min (i + 1) 64 ≡ suc i = omega arith in
        rw (m, k) (word_on 0 i (rw zero-add q))

    pub hi_on : 64 ≤ i → e i ≡ true → bit_or (word e 64 (i - 64)) (2 ^ (i - 64)) ≡ word e 64 (i + 1 - 64)
    hi_on h q =
        let m : 64 + (i - 64) ≡ i = omega arith in
        let k : i + 1 - 64 ≡ suc (i - 64) = omega arith in
        rw k (word_on 64 (i - 64) (rw m q))

    pub lo_past : 64 ≤ i → word e 0 (min i 64) ≡ word e 0 (min (i + 1) 64)
    lo_past h = let m : min i 64 ≡ min (i + 1) 64 = omega arith in ap (word e 0) m

    pub hi_before : i < 64 → word e 64 (i - 64) ≡ word e 64 (i + 1 - 64)
    hi_before h = let m : i - 64 ≡ i + 1 - 64 = omega arith in ap (word e 64) m

    pub lo_off : e i ≡ false → word e 0 (min i 64) ≡ word e 0 (min (i + 1) 64)
    lo_off q = elim (lt? i 64) [ inl h ↦ below h | inr h ↦ lo_past h ]
      where
        below : i < 64 → word e 0 (min i 64) ≡ word e 0 (min (i + 1) 64)
        below h =
            let m : min i 64 ≡ i = omega arith in
            let k : min (i + 1) 64 ≡ suc i = omega arith in
            rw (m, k) (word_off 0 i (rw zero-add q))

    pub hi_off : e i ≡ false → word e 64 (i - 64) ≡ word e 64 (i + 1 - 64)
    hi_off q = elim (lt? i 64) [ inl h ↦ hi_before h | inr h ↦ past h ]
      where
        past : 64 ≤ i → word e 64 (i - 64) ≡ word e 64 (i + 1 - 64)
        past h =
            let m : 64 + (i - 64) ≡ i = omega arith in
            let k : i + 1 - 64 ≡ suc (i - 64) = omega arith in
            rw k (word_off 64 (i - 64) (rw m q))

  pub marks_none : (word e 0 0 ≡ 0) × (word e 64 0 ≡ 0)
  unfolding word
  marks_none = (refl, refl)

-- ---- how many

ones_one : ones 1 ≡ 1
unfolding ones
ones_one = refl

ones_zero : ones 0 ≡ 0
unfolding ones
ones_zero = refl

ones_top : (b : Bool) (n w : ℕ) → w < 2 ^ n → ones (gate b (2 ^ n) + w) ≡ ones w + gate b 1
ones_top true n w h =
    let e : ones (1 * 2 ^ n + w) ≡ ones 1 + ones w = ones_cat n 1 w h in
    let f : ones (2 ^ n + w) ≡ ones 1 + ones w = simp one-mul at e in
    omega (arith, ones_one)
ones_top false n w h = rw (zero-add, add-zero)

ones_word : (e : ℕ → Bool) (from n : ℕ) → ones (word e from n) ≡ sum n (λ i. gate (e (from + i)) 1)
unfolding word sum
ones_word e from zero = ones_zero
ones_word e from (suc n) = rw (← ones_word e from n) (ones_top (e (from + n)) n (word e from n) (word_lt e from n))

pub size_of : (e : ℕ → Bool) (n : ℕ) → ones (marks e n).low + ones (marks e n).high ≡ size e n
unfolding marks size sum
size_of e n = rw (ones_word e 0 (min n 64), ones_word e 64 (n - 64), sum_ext (min n 64) (λ i. gate (e (0 + i)) 1) (λ i. gate (e i) 1) (λ i l. ap (λ k. gate (e k) 1) (zero-add i)))
    (elim (lt? 64 n) [
      | inl h ↦ let m : min n 64 ≡ 64 = omega arith in let k : 64 + (n - 64) ≡ n = omega arith in
          rw m (sym (sum_split 64 (n - 64) (λ i. gate (e i) 1)) ∙ ap (λ z. sum z (λ i. gate (e i) 1)) k)
      | inr h ↦ let m : min n 64 ≡ n = omega arith in let k : n - 64 ≡ 0 = omega arith in rw (m, k) (add-zero (sum n (λ i. gate (e i) 1)))
    ])

-- ---- who

half_of : (w i : ℕ) → w / 2 / 2 ^ i ≡ w / 2 ^ suc i
half_of w i = rw one-add at (shr-shr w 1 i)

-- a bit below n does not see what stands from n on
bit_below : (c n w i : ℕ) → i < n → (c * 2 ^ n + w) / 2 ^ i % 2 ≡ w / 2 ^ i % 2
bit_below c zero w i h = absurd (omega arith)
bit_below c (suc m) w zero h =
    let e : (c * 2 ^ suc m + w) / 1 ≡ c * 2 ^ suc m + w = omega arith in
    let f : w / 1 ≡ w = omega arith in
    rw (e, f) (block_odd c m w)
bit_below c (suc m) w (suc i) h =
    rw (← half_of (c * 2 ^ suc m + w) i, ← half_of w i, block_half c m w) (bit_below c m (w / 2) i (omega arith))

by_one : (b : Bool) (p : ℕ) → gate b p ≡ gate b 1 * p
by_one true p = sym (one-mul p)
by_one false p = sym (zero-mul p)

small_bit : (b : Bool) → gate b 1 % 2 ≡ gate b 1
small_bit true = refl
small_bit false = refl

is_one : (b : Bool) → eqb (gate b 1) 1 ≡ b
is_one true = refl
is_one false = refl

word_bit : (e : ℕ → Bool) (from n i : ℕ) → i < n → word e from n / 2 ^ i % 2 ≡ gate (e (from + i)) 1
unfolding word
word_bit e from zero i h = absurd (omega arith)
word_bit e from (suc n) i h = rw (by_one (e (from + n)) (2 ^ n)) (elim (eq? i n) [
  | inl q ↦ rw (q, high (gate (e (from + n)) 1) n (word_lt e from n)) (small_bit (e (from + n)))
  | inr d ↦ bit_below (gate (e (from + n)) 1) n (word e from n) i (omega arith) ∙ word_bit e from n i (omega arith)
])

-- whether bit i mod 64 of word i/64 is set
abbrev pub is_marked : ℕ → ℕ → ℕ → Bool
is_marked low high i = cond (ltb i 64) (eqb (low / 2 ^ i % 2) 1) (eqb (high / 2 ^ (i - 64) % 2) 1)

-- who is marked is who is in the set
pub marked : (e : ℕ → Bool) (n i : ℕ) → i < n → is_marked (marks e n).low (marks e n).high i ≡ e i
unfolding marks
marked e n i h = elim (lt? i 64) [
  | inl l ↦ rw (lt-ltb i 64 l, word_bit e 0 (min n 64) i (omega arith), is_one, zero-add)
  | inr l ↦ let k : 64 + (i - 64) ≡ i = omega arith in rw (le-ltb i 64 l, word_bit e 64 (n - 64) (i - 64) (omega arith), is_one, k)
]

-- ---- equal sets

word_ext : (a b : ℕ → Bool) (from n : ℕ) → ((i : ℕ) → i < from + n → a i ≡ b i) → word a from n ≡ word b from n
unfolding word
word_ext a b from zero h = refl
word_ext a b from (suc n) h = rw (h (from + n) (omega arith), word_ext a b from n (λ i l. h i (omega arith)))

word_ext_hi : (a b : ℕ → Bool) (n : ℕ) → ((i : ℕ) → i < n → a i ≡ b i) → word a 64 (n - 64) ≡ word b 64 (n - 64)
word_ext_hi a b n h = elim (lt? 64 n) [
  | inl l ↦ word_ext a b 64 (n - 64) (λ i m. h i (omega arith))
  | inr l ↦ let k : n - 64 ≡ 0 = omega arith in rw k ((marks_none a).1 ∙ sym (marks_none b).1)
]

pub marks_ext : (a b : ℕ → Bool) (n : ℕ) → ((i : ℕ) → i < n → a i ≡ b i) → marks a n ≡ marks b n
unfolding marks
marks_ext a b n h = rw (word_ext a b 0 (min n 64) (λ i l. h i (omega arith)), word_ext_hi a b n h)
