-- Tests taken apart, and the terms of a sum that a test lets through.
-- Assumes nothing.
use mathlib.Core.Path.{◌≡◌, refl, sym, ap}
use mathlib.Core.Logic.{◌⊎◌, inl, inr, ◌≢◌}
use mathlib.Core.Bool.{Bool, true, false, not, cond, ◌&&◌, ◌||◌}
use Prim.Native.Nat.{ℕ, ◌*◌, ◌≤◌, ◌<◌, zero-le}
use native.Mathlib.Omega.{arith}
use lib.Dec.{T, ltb, eqb, ltb→lt, lt→ltb, nltb→le, eqb→eq, eqb_refl, not_T}
use Rattle.assignment.specs.Sum.{gate}

pub gate_on : (b : Bool) (x : ℕ) → T b → gate b x ≡ x
gate_on true x t = refl
gate_on false x t = absurd t

pub gate_off : (b : Bool) (x : ℕ) → T (not b) → gate b x ≡ 0
gate_off true x t = absurd t
gate_off false x t = refl

pub gate_le : (b : Bool) (x y : ℕ) → (T b → x ≤ y) → gate b x ≤ y
gate_le true x y h = h tt
gate_le false x y h = zero-le

pub gate_mul_le : (b : Bool) (x y : ℕ) → (T b → x ≤ y) → gate b 1 * x ≤ gate b y
gate_mul_le true x y h = omega (arith, h tt)
gate_mul_le false x y h = omega arith

pub gate_mul_ge : (b : Bool) (x y : ℕ) → (T b → y ≤ x) → gate b y ≤ gate b 1 * x
gate_mul_ge true x y h = omega (arith, h tt)
gate_mul_ge false x y h = zero-le

pub cond_on : (b : Bool) (x y : ℕ) → T b → cond b x y ≡ x
cond_on true x y t = refl
cond_on false x y t = absurd t

pub cond_off : (b : Bool) (x y : ℕ) → T (not b) → cond b x y ≡ y
cond_off true x y t = absurd t
cond_off false x y t = refl

pub and_t : (a b : Bool) → T (a && b) → T a × T b
and_t true b t = (tt, t)
and_t false b t = absurd t

pub T_and : (a b : Bool) → T a → T b → T (a && b)
T_and true b s t = t
T_and false b s t = s

-- the same of tests that are said to come out true
pub and_true : {a b : Bool} → (a && b) ≡ true → (a ≡ true) × (b ≡ true)
and_true {a} {b} e = both a b e
  where
    both : (a b : Bool) → (a && b) ≡ true → (a ≡ true) × (b ≡ true)
    both true b e = (refl, e)
    both false b e = (e, absurd (omega (arith, ap {B = ℕ} (λ b. cond b 1 0) e)))

pub true_and : {a b : Bool} → a ≡ true → b ≡ true → (a && b) ≡ true
true_and e f = rw (e, f)

pub and_assoc : (a b c : Bool) → (a && (b && c)) ≡ (a && b && c)
and_assoc true b c = refl
and_assoc false b c = refl

pub and_false : (a : Bool) → (a && false) ≡ false
and_false true = refl
and_false false = refl

pub or_t : (a b : Bool) → T (a || b) → T a ⊎ T b
or_t true b t = inl tt
or_t false b t = inr t

pub T-or-l : (a b : Bool) → T a → T (a || b)
T-or-l true b t = tt
T-or-l false b t = absurd t

pub T-or-r : (a b : Bool) → T b → T (a || b)
T-or-r true b t = tt
T-or-r false b t = t

pub is_true : (b : Bool) → T b → b ≡ true
is_true true t = refl
is_true false t = absurd t

pub is_false : (b : Bool) → (T b → ⊥) → b ≡ false
is_false true t = absurd (t tt)
is_false false t = refl

pub same_test : (a b : Bool) → (T a → T b) → (T b → T a) → a ≡ b
same_test true b f g = sym (is_true b (f tt))
same_test false b f g = sym (is_false b g)

pub test : (b : Bool) → T b ⊎ T (not b)
test true = inl tt
test false = inr tt

pub lt? : (a b : ℕ) → (a < b) ⊎ (b ≤ a)
lt? a b = go (ltb a b) refl
  where
    go : (t : Bool) → ltb a b ≡ t → (a < b) ⊎ (b ≤ a)
    go true e = inl (ltb→lt a b (rw e tt))
    go false e = inr (nltb→le a b (rw e tt))

pub eq? : (a b : ℕ) → (a ≡ b) ⊎ (a ≢ b)
eq? a b = elim (lt? a b) [ inl l ↦ inr (omega arith) | inr g ↦ elim (lt? b a) [ inl l ↦ inr (omega arith) | inr h ↦ inl (omega arith) ] ]

-- a gate that a comparison opens or shuts
module _ (a b x : ℕ) where
  pub gate_lt : a < b → gate (ltb a b) x ≡ x
  gate_lt h = gate_on (ltb a b) x (lt→ltb a b h)

  pub gate_ge : b ≤ a → gate (ltb a b) x ≡ 0
  gate_ge h = gate_off (ltb a b) x (not_T (ltb a b) (λ t. omega (arith, ltb→lt a b t)))

  pub gate_eq : a ≡ b → gate (eqb a b) x ≡ x
  gate_eq h = gate_on (eqb a b) x (rw h (eqb_refl b))

  pub gate_ne : a ≢ b → gate (eqb a b) x ≡ 0
  gate_ne h = gate_off (eqb a b) x (not_T (eqb a b) (λ t. h (eqb→eq a b t)))
