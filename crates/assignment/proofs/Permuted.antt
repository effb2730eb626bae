-- Flights taken in another order: a row of places that has every place once only renames them.
-- Assumes nothing.
use mathlib.Core.Path.{◌≡◌, refl, sym, ap, ◌∙◌}
use mathlib.Core.Logic.{inl, inr, ◌≢◌}
use mathlib.Core.Bool.{◌&&◌}
use Prim.Native.Nat.{ℕ, zero, suc, ◌+◌, ◌-◌, ◌*◌, ◌≤◌, ◌<◌}
use native.Mathlib.Omega.{arith}
use lib.Dec.{leb, eqb}
use Rattle.assignment.specs.Sum.{gate, sum, count}
use Rattle.assignment.specs.Assignment.{Instance, In, total, Accepted, must_land, room, Short}
use Rattle.assignment.specs.Moves.{put}
use Rattle.assignment.specs.Orders.{Permuted, Swapped}
use Rattle.assignment.specs.Instances.{ordered}
use Rattle.assignment.specs.Insertion.{Link, Sound}
use Rattle.assignment.proofs.Tests.{eq?, lt?, gate_eq, gate_ne}
use Rattle.assignment.proofs.Sums.{sum_ext, sum_grow, sum_member, exchange_all, count_ext, count_move}
use Rattle.assignment.proofs.Moves.{put_moved}

-- a place that is there stands somewhere
pub record Stands (n : ℕ) (π : ℕ → ℕ) (i : ℕ) : Type 0 where
  pub at : ℕ
  pub in_row : at < n
  pub is : π at ≡ i

stands : (n : ℕ) (π : ℕ → ℕ) (i : ℕ) → 1 ≤ count n π i → Stands n π i
unfolding count sum
stands zero π i some = absurd (omega arith)
stands (suc n) π i some = elim (eq? (π n) i) [
  | inl e ↦ record { at = n; in_row = omega arith; is = e }
  | inr e ↦
      let s = stands n π i (omega (arith, gate_ne (π n) i 1 e)) in
      record { at = s.at; in_row = omega (arith, s.in_row); is = s.is }
]

-- two terms of a sum
two : (n t s : ℕ) → t < n → s < t → (f : ℕ → ℕ) → f t + f s ≤ sum n f
unfolding sum
two zero t s l less f = absurd (omega arith)
two (suc n) t s l less f = elim (eq? t n) [
  | inl e ↦ rw e (omega (arith, sum_member n s f (omega arith)))
  | inr e ↦ omega (arith, two n t s (omega arith) less f)
]

pub permuted_ext : {n : ℕ} {π ρ : ℕ → ℕ} → ((s : ℕ) → s < n → ρ s ≡ π s) → Permuted n π → Permuted n ρ
permuted_ext {n} {π} {ρ} e q = record { below = λ s l. rw (e s l) (q.below s l); once = λ i l. count_ext n π ρ e i ∙ q.once i l }

module _ {n : ℕ} {π : ℕ → ℕ} (q : Permuted n π) where
  pub permuted_stands : (i : ℕ) → i < n → Stands n π i
  permuted_stands i l = stands n π i (omega (arith, q.once i l))

  -- a sum over the flights, in either order
  pub permuted_sum : (g : ℕ → ℕ) → sum n (λ s. g (π s)) ≡ sum n g
  permuted_sum g = exchange_all n n π g q.below ∙ sum_ext n (λ i. g i * count n π i) g (λ i l. rw (q.once i l) (omega arith))

  pub permuted_count : (x : ℕ → ℕ) (k : ℕ) → count n (λ s. x (π s)) k ≡ count n x k
  unfolding count
  permuted_count x k = permuted_sum (λ i. gate (eqb (x i) k) 1)

  -- no place stands twice
  pub permuted_apart : (s t : ℕ) → s < t → t < n → π s ≢ π t
  unfolding count
  permuted_apart s t less l e = omega (
    arith,
    q.once (π t) (q.below t l),
    two n t s l less (λ o. gate (eqb (π o) (π t)) 1),
    gate_eq (π t) (π t) 1 refl,
    gate_eq (π s) (π t) 1 e,
  )

  pub permuted_other : (s t : ℕ) → s < n → t < n → s ≢ t → π s ≢ π t
  permuted_other s t l m e f = elim (lt? s t) [
    | inl less ↦ permuted_apart s t less m f
    | inr more ↦ permuted_apart t s (omega arith) l (sym f)
  ]

-- each at its own place
same_none : (n i : ℕ) → n ≤ i → count n (λ s. s) i ≡ 0
unfolding count sum
same_none zero i l = refl
same_none (suc n) i l = omega (arith, gate_ne n i 1 (omega arith), same_none n i (omega arith))

same_once : (n i : ℕ) → i < n → count n (λ s. s) i ≡ 1
unfolding count sum
same_once zero i l = absurd (omega arith)
same_once (suc n) i l = elim (eq? n i) [
  | inl e ↦ omega (arith, gate_eq n i 1 e, same_none n i (omega arith))
  | inr e ↦ omega (arith, gate_ne n i 1 e, same_once n i (omega arith))
]

pub permuted_same : (n : ℕ) → Permuted n (λ s. s)
permuted_same n = record { below = λ s l. l; once = same_once n }

module _ (d : Instance) {π : ℕ → ℕ} (q : Permuted d.n π) where
  abbrev d' : Instance
  d' = ordered d π d.n

  -- y says in the order π what x says in table order
  module _ (y x : ℕ → ℕ) (same : (s : ℕ) → s < d.n → y s ≡ x (π s)) where
    pub permuted_total : total d' y ≡ total d x
    unfolding total
    permuted_total =
        sum_ext d.n (λ s. d.cost (π s) (y s)) (λ s. d.cost (π s) (x (π s))) (λ s l. ap (d.cost (π s)) (same s l))
        ∙ permuted_sum q (λ i. d.cost i (x i))

    counts : (k : ℕ) → count d.n y k ≡ count d.n x k
    counts k = count_ext d.n (λ s. x (π s)) y same k ∙ permuted_count q x k

    renamed : {s k : ℕ} → In d' s k → In d (π s) k
    renamed w = record { from = w.from; to = w.to }

    permuted_accepted : {p : ℕ → ℕ} → Accepted d' y p → Accepted d x p
    permuted_accepted {p} said = record {
      legal = record {
        window = λ i l.
            let h = permuted_stands q i l in
            rw h.is at (renamed (rw (same h.at h.in_row) at (said.legal.window h.at h.in_row)));
        room = λ k. omega (arith, said.legal.room k, counts k);
      };
      unsold = λ k free. said.unsold k (omega (arith, counts k));
      best = λ i k l w.
          let h = permuted_stands q i l in
          rw h.is at (pays h.at k h.in_row (rw (← h.is) at w));
    }
      where
        pays : (s k : ℕ) → s < d.n → In d (π s) k → d.cost (π s) (x (π s)) + p (x (π s)) ≤ d.cost (π s) k + p k
        pays s k l w = rw (same s l) at (said.best s k l (record { from = w.from; to = w.to }))

    pub permuted_sound : {p : ℕ → ℕ} → Sound d' y p → Sound d x p
    permuted_sound {p} s = record {
      accepted = permuted_accepted s.accepted;
      height = s.height;
      held = λ k. elim (s.held k) [
        | inl none ↦ inl none
        | inr a ↦ inr (record {
          by = π a.by;
          who = q.below a.by a.who;
          fits = renamed a.fits;
          lower = rw (same a.by a.who) at a.lower;
          tie = rw (same a.by a.who) at a.tie;
        })
      ];
    }

  -- a stretch that is short for some of the flights is short
  pub permuted_short : {n a b : ℕ} → n ≤ d.n → Short (ordered d π n) a b → Short d a b
  unfolding must_land room
  permuted_short {n} {a} {b} l s = record {
    short = omega (arith, s.short, permuted_sum q must, prefix n d.n l (λ s. must (π s)));
  }
    where
      must : ℕ → ℕ
      must i = gate (leb a (d.lo i) && leb (d.hi i) b) 1

      prefix : (n m : ℕ) → n ≤ m → (f : ℕ → ℕ) → sum n f ≤ sum m f
      prefix n m l f = let e : (m - n) + n ≡ m = omega arith in rw e at (sum_grow n (m - n) f)

module _ {n : ℕ} {π π₂ : ℕ → ℕ} {a b : ℕ} (q : Permuted n π) (in-a : a < n) (in_b : b < n) (apart : a ≢ b) (v : Swapped π π₂ a b) where
  pub swapped : Permuted n π₂
  swapped = record {
    below = λ s l. elim (eq? s a) [
      | inl e ↦ rw (e, v.here) (q.below b in_b)
      | inr e ↦ elim (eq? s b) [ inl f ↦ rw (f, v.there) (q.below a in-a) | inr f ↦ rw (v.others s e f) (q.below s l) ]
    ];
    once = λ i l. omega (
      arith,
      q.once i l,
      count_move n a π (put π a (π b)) in-a (λ s _ e. (put_moved π a (π b)).others s e) i,
      count_move n b (put π a (π b)) π₂ in_b (λ s _ e. stays s e) i,
      ap (λ z. gate (eqb z i) 1) (put_moved π a (π b)).here,
      ap (λ z. gate (eqb z i) 1) ((put_moved π a (π b)).others b (λ e. apart (sym e))),
      ap (λ z. gate (eqb z i) 1) v.there,
    );
  }
    where
      stays : (s : ℕ) → s ≢ b → π₂ s ≡ put π a (π b) s
      stays s e = elim (eq? s a) [
        | inl f ↦ rw f (v.here ∙ sym (put_moved π a (π b)).here)
        | inr f ↦ v.others s f e ∙ sym ((put_moved π a (π b)).others s f)
      ]

-- the first n flights of an order, taken in another order σ of their own: the plan is as sound and costs as much
module _ (d : Instance) {n : ℕ} {σ : ℕ → ℕ} (π π₂ x y : ℕ → ℕ) (q : Permuted n σ) (same : (s : ℕ) → s < n → π₂ s ≡ π (σ s))
    (lands : (s : ℕ) → s < n → y s ≡ x (σ s)) where
  pub reordered_total : total (ordered d π₂ n) y ≡ total (ordered d π n) x
  unfolding total
  reordered_total =
      sum_ext n (λ s. d.cost (π₂ s) (y s)) (λ s. d.cost (π (σ s)) (x (σ s))) (λ s l. rw (same s l, lands s l) refl)
      ∙ permuted_sum q (λ s. d.cost (π s) (x s))

  as_many : (k : ℕ) → count n y k ≡ count n x k
  as_many k = count_ext n (λ s. x (σ s)) y lands k ∙ permuted_count q x k

  -- each flight has the window and the costs that it had
  module _ {i j : ℕ} (l : i < n) (is : σ i ≡ j) where
    flight : π₂ i ≡ π j
    flight = same i l ∙ ap π is

    place : y i ≡ x j
    place = lands i l ∙ ap x is

    from : d.lo (π₂ i) ≡ d.lo (π j)
    from = ap d.lo flight

    to : d.hi (π₂ i) ≡ d.hi (π j)
    to = ap d.hi flight

    costs : (k : ℕ) → d.cost (π₂ i) k ≡ d.cost (π j) k
    costs k = ap (λ o. d.cost o k) flight

    pays : (p : ℕ → ℕ) → d.cost (π₂ i) (y i) + p (y i) ≡ d.cost (π j) (x j) + p (x j)
    pays p = rw (flight, place) refl

  pub reordered_sound : {p : ℕ → ℕ} → Sound (ordered d π n) x p → Sound (ordered d π₂ n) y p
  reordered_sound {p} s = record {
    accepted = record {
      legal = record {
        window = λ i l.
            let w = s.accepted.legal.window (σ i) (q.below i l) in
            record { from = omega (arith, w.from, from l refl, place l refl); to = omega (arith, w.to, to l refl, place l refl) };
        room = λ k. omega (arith, as_many k, s.accepted.legal.room k);
      };
      unsold = λ k free. s.accepted.unsold k (omega (arith, as_many k));
      best = λ i k l w. omega (
        arith,
        pays l refl p,
        costs l refl k,
        s.accepted.best (σ i) k (q.below i l) (record { from = omega (arith, w.from, from l refl); to = omega (arith, w.to, to l refl) }),
      );
    };
    height = s.height;
    held = λ k. elim (s.held k) [
      | inl none ↦ inl none
      | inr a ↦ inr (linked a (permuted_stands q a.by a.who))
    ];
  }
    where
      linked : {k : ℕ} (a : Link (ordered d π n) x p s.height k) → Stands n σ a.by → Link (ordered d π₂ n) y p s.height k
      linked {k} a h = record {
        by = h.at;
        who = h.in_row;
        fits = record { from = omega (arith, a.fits.from, from h.in_row h.is); to = omega (arith, a.fits.to, to h.in_row h.is) };
        lower = rw (place h.in_row h.is) a.lower;
        tie = omega (arith, a.tie, costs h.in_row h.is k, pays h.in_row h.is p);
      }
