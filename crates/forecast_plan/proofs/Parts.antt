-- A row in parts of equal size: what a part has, and what the row has once a part is put back.
-- Assumes nothing.
use mathlib.Core.Path.{◌≡◌, ap, sym, ◌∙◌}
use mathlib.Core.Logic.{◌≢◌, inl, inr}
use mathlib.Core.List.{List, ◌++◌}
use Prim.Native.Nat.{ℕ, ◌+◌, ◌-◌, ◌*◌, ◌≤◌, ◌<◌}
use native.Mathlib.Nat.{mul-le-mul_right}
use native.Mathlib.Omega.{arith}
use lib.ListN.{length, take, drop, length-drop, get_or-append}
use lib.Seq.{get_or-take, get_or-drop, get_or-append-add, length-take-le}
use Rattle.assignment.specs.Rows.{el}
use Rattle.assignment.proofs.Tests.{lt?}
use Rattle.forecast_plan.specs.Forecast.{forecast_at}
use Rattle.forecast_plan.specs.Loop.{Parted}

-- part s of n parts of p entries is in the row, and has p entries
module _ (p n : ℕ) (rows : List ℕ) (whole : length rows ≡ n * p) (s : ℕ) (l : s < n) where
  part_in : s * p + p ≤ length rows
  part_in = omega (arith, whole, mul-le-mul_right {m = s + 1} {n = n} p (omega arith))

  pub part_length : length (take p (drop (s * p) rows)) ≡ p
  part_length = length-take-le p (drop (s * p) rows) (rw length-drop (omega (arith, part_in)))

-- the parts of the forecasts, and of the row in which who waits is kept
module _ {p n : ℕ} {rows waits : List ℕ} (r : Parted p n rows waits) {s : ℕ} (l : s < n) where
  pub parted_days : length (forecast_at p rows s) ≡ p
  parted_days = part_length p n rows r.whole s l

  pub parted_waits : s * 98 + 98 ≤ length waits
  parted_waits = part_in 98 8 waits r.sizes s (omega (arith, r.forecasts))

  pub parted_part : length (take 98 (drop (s * 98) waits)) ≡ 98
  parted_part = part_length 98 8 waits r.sizes s (omega (arith, r.forecasts))

-- the size of a part of that row, as the program names its end
pub part_size : (s : ℕ) → s * 98 + 98 - s * 98 ≡ 98
part_size s = omega arith

-- entry k of the part of n entries from a on
pub part_at : (a n : ℕ) (l : List ℕ) (k : ℕ) → k < n → el (take n (drop a l)) k ≡ el l (a + k)
part_at a n l k b = get_or-take n (drop a l) k 0 b ∙ get_or-drop a l k 0

-- the row with another part put there
module _ (a n : ℕ) (l part : List ℕ) (fits : a + n ≤ length l) (size : length part ≡ n) where
  front : length (take a l) ≡ a
  front = length-take-le a l (omega arith)

  pub put_here : (k : ℕ) → k < n → el (take a l ++ (part ++ drop n (drop a l))) (a + k) ≡ el part k
  put_here k b =
      ap (λ z. el (take a l ++ (part ++ drop n (drop a l))) (z + k)) (sym front)
      ∙ get_or-append-add (take a l) (part ++ drop n (drop a l)) k 0
      ∙ get_or-append part (drop n (drop a l)) 0 k (omega (arith, size))

  pub put_before : (q : ℕ) → q < a → el (take a l ++ (part ++ drop n (drop a l))) q ≡ el l q
  put_before q b = get_or-append (take a l) (part ++ drop n (drop a l)) 0 q (omega (arith, front)) ∙ get_or-take a l q 0 b

  pub put_behind : (k : ℕ) → el (take a l ++ (part ++ drop n (drop a l))) (a + (n + k)) ≡ el l (a + (n + k))
  put_behind k =
      ap (λ z. el (take a l ++ (part ++ drop n (drop a l))) (z + (n + k))) (sym front)
      ∙ get_or-append-add (take a l) (part ++ drop n (drop a l)) (n + k) 0
      ∙ ap (λ z. el (part ++ drop n (drop a l)) (z + k)) (sym size)
      ∙ get_or-append-add part (drop n (drop a l)) k 0
      ∙ get_or-drop n (drop a l) k 0
      ∙ get_or-drop a l (n + k) 0

-- the other parts of the same size stay
pub put_others : (n s t : ℕ) (l part : List ℕ) → s * n + n ≤ length l → length part ≡ n → t ≢ s → (k : ℕ) → k < n
    → el (take (s * n) l ++ (part ++ drop n (drop (s * n) l))) (t * n + k) ≡ el l (t * n + k)
put_others n s t l part fits size other k b = elim (lt? t s) [
  | inl l-t ↦ put_before (s * n) n l part fits size (t * n + k) (omega (arith, mul-le-mul_right {m = t + 1} {n = s} n (omega arith)))
  | inr l-s ↦
      let more = mul-le-mul_right {m = s + 1} {n = t} n (omega arith) in
      let at : t * n + k ≡ s * n + (n + (t * n + k - (s * n + n))) = omega (arith, more) in
      rw at (put_behind (s * n) n l part fits size (t * n + k - (s * n + n)))
]
