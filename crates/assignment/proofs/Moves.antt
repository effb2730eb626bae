-- One flight moved: what it does to counts, totals and windows.
-- Assumes nothing.
use mathlib.Core.Path.{◌≡◌, ap}
use mathlib.Core.Logic.{inl, inr}
use Prim.Native.Nat.{ℕ, ◌+◌, ◌<◌}
use native.Mathlib.Omega.{arith}
use lib.Dec.{eqb, eqb_refl, eqb→eq, not_T}
use Rattle.assignment.specs.Sum.{gate, count}
use Rattle.assignment.specs.Assignment.{Instance, In, Plan, total}
use Rattle.assignment.specs.Moves.{Moved, put, Settled}
use Rattle.assignment.proofs.Tests.{eq?, cond_on, cond_off}
use Rattle.assignment.proofs.Sums.{count_move, sum_set}

module _ (d : Instance) {x y : Plan} {i k : ℕ} (v : Moved x y i k) (l : i < d.n) where
  pub moved_count : (j : ℕ) → count d.n y j + gate (eqb (x i) j) 1 ≡ count d.n x j + gate (eqb k j) 1
  moved_count j = rw v.here at (count_move d.n i x y l (λ o b e. v.others o e) j)

  pub moved_total : total d y + d.cost i (x i) ≡ total d x + d.cost i k
  unfolding total
  moved_total = rw v.here at (sum_set d.n i (λ o. d.cost o (x o)) (λ o. d.cost o (y o)) l (λ o b e. ap (d.cost o) (v.others o e)))

  pub moved_window : In d i k → ((o : ℕ) → o < d.n → In d o (x o)) → (o : ℕ) → o < d.n → In d o (y o)
  moved_window fits w o b = elim (eq? o i) [ inl e ↦ rw (e, v.here) fits | inr e ↦ rw (v.others o e) (w o b) ]

  -- at a tie nobody is the worse for it
  pub moved_settled : {p : ℕ → ℕ} → In d i k → d.cost i k + p k ≡ d.cost i (x i) + p (x i) → Settled d x p → Settled d y p
  moved_settled {p} fits tie s = record {
    window = moved_window fits s.window;
    best = λ o j b w. elim (eq? o i) [
      | inl e ↦ rw (e, v.here) (omega (arith, tie, s.best i j l (rw e at w)))
      | inr e ↦ rw (v.others o e) (s.best o j b w)
    ];
  }

pub put_moved : (x : Plan) (i k : ℕ) → Moved x (put x i k) i k
unfolding put
put_moved x i k = record {
  here = cond_on (eqb i i) k (x i) (eqb_refl i);
  others = λ o e. cond_off (eqb o i) k (x o) (not_T (eqb o i) (λ t. e (eqb→eq o i t)));
}
