-- What each finding of the check says of the day and its hold row.
-- Assumes nothing.
use mathlib.Core.Path.{◌≡◌, refl, sym, ◌∙◌}
use mathlib.Core.Bool.{Bool, true, false, cond}
use mathlib.Core.List.{List}
use Prim.Native.Nat.{ℕ}
use native.Mathlib.Omega.{arith}
use Rattle.std.specs.Prelude.{Result, Ok, Err}
use lib.ListN.{length}
use lib.Dec.{eqb}
use borrow.Author.Tests.{eq-eqb, eqb-true}
use Rattle.day.specs.Day.{Day, N, total, valid}
use Rattle.day.specs.Plan.{Legal, first_break}
use Rattle.day.proofs.Valid.{valid_means}
use Rattle.legality.specs.Check.{plan_check, walked}
use Rattle.answers.specs.declared.Refusal.{Refusal}
use Rattle.answers.specs.declared.Refusal.TheVariants.{BadDay, BadLength, NotLegal}
use Rattle.legality.proofs.Meaning.{walk_means}

pub record LegalFound (d : Day) (h : List ℕ) (t : ℕ) : Type 0 where
  pub good : valid d ≡ true
  pub legal : Legal d h
  pub total_is : t ≡ total d h

-- the check, with its three tests laid open
tests : (d : Day) (h : List ℕ) (v l w : Bool) → Result ℕ Refusal
tests d h v l w = cond v (cond l (cond w (Ok (total d h)) (Err (NotLegal (first_break d h)))) (Err (BadLength (N d)))) (Err BadDay)

module _ (d : Day) (h : List ℕ) where
  opened : plan_check d h ≡ tests d h (valid d) (eqb (length h) (N d)) (eqb (first_break d h) (N d))
  unfolding plan_check walked tests
  opened = refl

  legal_at : (v l w : Bool) → valid d ≡ v → eqb (length h) (N d) ≡ l → eqb (first_break d h) (N d) ≡ w → {t : ℕ} → tests d h v l w ≡ Ok t
      → LegalFound d h t
  unfolding tests
  legal_at true true true v l w e = record {
    good = v;
    legal = (walk_means (valid_means v) (eqb-true (length h) (N d) l)).0 (eqb-true (first_break d h) (N d) w);
    total_is = cc;
  }
  legal_at true true false v l w e = absurd (let z : ◌≡◌ {A = ℕ} 0 1 = cc in omega (arith, z))
  legal_at true false _ v l w e = absurd (let z : ◌≡◌ {A = ℕ} 0 1 = cc in omega (arith, z))
  legal_at false _ _ v l w e = absurd (let z : ◌≡◌ {A = ℕ} 0 1 = cc in omega (arith, z))

  pub found_legal : {t : ℕ} → plan_check d h ≡ Ok t → LegalFound d h t
  found_legal e = legal_at _ _ _ refl refl refl (sym opened ∙ e)

  -- a legal plan of a valid day is found legal
  pub legal_found : valid d ≡ true → Legal d h → plan_check d h ≡ Ok (total d h)
  unfolding plan_check walked
  legal_found good legal =
      rw (good, eq-eqb (length h) (N d) legal.each, eq-eqb (first_break d h) (N d) ((walk_means (valid_means good) legal.each).1 legal))

  -- where the check refuses, there is nothing legal
  pub found_refused : {a : Refusal} → plan_check d h ≡ Err a → valid d ≡ true → Legal d h → ⊥
  found_refused e good legal = let f = legal_found good legal in let z : ◌≡◌ {A = ℕ} 0 1 = cc in omega (arith, z)
