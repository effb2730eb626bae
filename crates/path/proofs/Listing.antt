-- The list of the periods that are not reached and the queue of those that are equally near: how the list is filled, what goes from it to the
-- queue, and that together they have all of them.
-- Assumes nothing.
use mathlib.Core.Path.{◌≡◌, refl, sym, ap, ◌∙◌}
use mathlib.Core.Logic.{◌⊎◌, inl, inr, ◌≢◌}
use mathlib.Core.List.{List}
use Prim.Native.Nat.{ℕ, zero, suc, ◌+◌, ◌-◌, ◌≤◌, ◌<◌}
use native.Mathlib.Omega.{arith}
use lib.ListN.{get_or, length, set, length-set}
use Rattle.assignment.specs.Rows.{el}
use Rattle.assignment.specs.Moves.{Moved}
use Rattle.assignment.proofs.Tests.{eq?, lt?}
use Rattle.assignment.proofs.Rows.{set_moved}
use Rattle.day.specs.Day.{period_row, of_period}
use Rattle.path.specs.Path.{far, away, InList, Gap, At, Waits, Waiting, Lined, CanList, Filled, Removed, CanNear, NearestIn, Levelled, CanLevel, NextLevel, Nearest}
use Rattle.path.proofs.Rows.{as_read}

-- ---- what stands in the list

module _ {list : List ℕ} {left target : ℕ} (o : InList list left target) where
  pub list_to : (y : ℕ) → y ≤ left → el list y ≤ target
  list_to y l = elim (eq? y left) [
    | inl e ↦ omega (arith, ap (el list) e, o.ends)
    | inr e ↦ omega (arith, o.rising y left (omega arith) (omega arith), o.ends)
  ]

  pub list_apart : (y z : ℕ) → y ≤ left → z ≤ left → y ≢ z → el list y ≢ el list z
  list_apart y z a b e f = elim (lt? y z) [
    | inl l ↦ omega (arith, o.rising y z l b)
    | inr l ↦ omega (arith, o.rising z y (omega arith) a)
  ]

  -- a gap is no place
  pub gap_apart : {j : ℕ} → Gap list left j → (y : ℕ) → y ≤ left → el list y ≢ j
  gap_apart g y a e = elim (lt? y g.place) [
    | inl l ↦ omega (arith, g.above y l)
    | inr l ↦ elim (eq? y g.place) [
      | inl f ↦ omega (arith, g.below, ap (el list) f)
      | inr f ↦ omega (arith, g.below, o.rising g.place y (omega arith) a)
    ]
  ]

  pub list_before : (y : ℕ) → y < left → el list y < target
  list_before y l = omega (arith, o.rising y left l (omega arith), o.ends)

  -- a period up to the target stands at a place, or in a gap
  pub record Place (j : ℕ) : Type 0 where
    pub place : ℕ
    pub to : place ≤ left
    pub is : el list place ≡ j

  seek : (j m : ℕ) → m ≤ left + 1 → Place j ⊎ (Gap list left j ⊎ ((z : ℕ) → z < m → el list z < j))
  seek j zero l = inr (inr (λ z b. absurd (omega arith)))
  seek j (suc m) l = elim (seek j m (omega arith)) [
    | inl a ↦ inl a
    | inr q ↦ elim q [
      | inl g ↦ inr (inl g)
      | inr up ↦ elim (eq? (el list m) j) [
        | inl e ↦ inl (record { place = m; to = omega arith; is = e })
        | inr e ↦ elim (lt? j (el list m)) [
          | inl b ↦ inr (inl (record { place = m; to = omega arith; below = b; above = up }))
          | inr b ↦ inr (inr (λ z c. elim (eq? z m) [ inl f ↦ rw f (omega arith) | inr f ↦ up z (omega arith) ]))
        ]
      ]
    ]
  ]

  pub place_or_gap : (j : ℕ) → j ≤ target → Place j ⊎ Gap list left j
  place_or_gap j l = elim (seek j (left + 1) (omega arith)) [
    | inl a ↦ inl a
    | inr q ↦ elim q [ inl g ↦ inr g | inr up ↦ absurd (omega (arith, up left (omega arith), o.ends)) ]
  ]

-- ---- list_periods

-- the open periods before k are listed
pub record Filling (capacities list₀ list : List ℕ) (first target left k : ℕ) : Type 0 where
  pub can : CanList list₀ first target
  pub same : length list ≡ length list₀
  pub from : first + left ≤ k
  pub to : k ≤ target
  pub low : (y : ℕ) → y < left → (first ≤ el list y) × (el list y < k)
  pub rising : (y z : ℕ) → y < z → z < left → el list y < el list z
  pub some : (y : ℕ) → y < left → 0 < of_period capacities (el list y)
  pub all : (j : ℕ) → first ≤ j → j < k → 0 < of_period capacities j → At list left j

module _ {capacities list₀ list : List ℕ} {first target left k : ℕ} (s : Filling capacities list₀ list first target left k) where
  pub filling_room : (left < length list) × (left < period_row)
  filling_room = omega (arith, s.from, s.to, s.same, s.can.row, s.can.within)

  -- k is stored behind those
  module _ (v : ℕ) where
    put_last : Moved (el list) (el (set list left v)) left v
    put_last = set_moved list left v filling_room.0

    before : (y : ℕ) → y < left → el (set list left v) y ≡ el list y
    before y l = put_last.others y (omega arith)

    rises : (e : k ≤ v) (y z : ℕ) → y < z → z < left + 1 → el (set list left v) y < el (set list left v) z
    rises e y z a l = elim (eq? z left) [
      | inl f ↦ rw (f, put_last.here, before y (omega arith)) (omega (arith, s.low y (omega arith)))
      | inr f ↦ rw (before y (omega arith), before z (omega arith)) (s.rising y z a (omega arith))
    ]

  module _ (l : k < target) {c : ℕ} (c-is : c ≡ of_period capacities k) where
    pub filling_pass : c ≤ 0 → Filling capacities list₀ list first target left (k + 1)
    filling_pass none = record {
      can = s.can;
      same = s.same;
      from = omega (arith, s.from);
      to = omega arith;
      low = λ y b. omega (arith, s.low y b);
      rising = s.rising;
      some = s.some;
      all = λ j a b some. elim (eq? j k) [
        | inl e ↦ absurd (omega (arith, ap (of_period capacities) e))
        | inr e ↦ s.all j a (omega arith) some
      ];
    }

    pub filling_next : 0 < c → Filling capacities list₀ (set list left k) first target (left + 1) (k + 1)
    filling_next some = record {
      can = s.can;
      same = length-set list left k ∙ s.same;
      from = omega (arith, s.from);
      to = omega arith;
      low = λ y b. elim (eq? y left) [
        | inl e ↦ rw (e, (put_last k).here) (omega (arith, s.from))
        | inr e ↦ rw (before k y (omega arith)) (omega (arith, s.low y (omega arith)))
      ];
      rising = rises k (omega arith);
      some = λ y b. elim (eq? y left) [
        | inl e ↦ rw (e, (put_last k).here) (omega arith)
        | inr e ↦ rw (before k y (omega arith)) (s.some y (omega arith))
      ];
      all = λ j a b open-j. elim (eq? j k) [
        | inl e ↦ record { place = left; to = omega arith; is = (put_last k).here ∙ sym e }
        | inr e ↦
            let p = s.all j a (omega arith) open-j in
            record { place = p.place; to = omega (arith, p.to); is = before k p.place p.to ∙ p.is }
      ];
    }

  pub filling_end : target ≤ k → Filled capacities (set list left target) first target left
  filling_end l = record {
    short = filling_room.1;
    ends = (put_last target).here;
    rising = λ y z a b. rises target s.to y z a (omega arith);
    low = λ y b. elim (eq? y left) [
      | inl e ↦ rw (e, (put_last target).here) s.can.before
      | inr e ↦ rw (before target y (omega arith)) (s.low y (omega arith)).0
    ];
    some = λ y b. rw (before target y b) (s.some y b);
    gaps = λ j g from. elim (eq? (of_period capacities j) 0) [
      | inl none ↦ none
      | inr some ↦ absurd (not_in j g (s.all j from (below j g) (omega arith)))
    ];
  }
    where
      up : (y z : ℕ) → y ≤ z → z ≤ left → el (set list left target) y ≤ el (set list left target) z
      up y z a b = elim (eq? y z) [ inl e ↦ rw e (omega arith) | inr e ↦ omega (arith, rises target s.to y z (omega arith) (omega arith)) ]

      below : (j : ℕ) → Gap (set list left target) left j → j < k
      below j g = omega (arith, g.below, up g.place left g.to (omega arith), (put_last target).here, l)

      not_in : (j : ℕ) → Gap (set list left target) left j → At list left j → ⊥
      not_in j g p = elim (lt? p.place g.place) [
        | inl a ↦ omega (arith, g.above p.place a, before target p.place p.to, p.is)
        | inr a ↦ omega (arith, g.below, up g.place p.place a (omega (arith, p.to)), before target p.place p.to, p.is)
      ]

-- ---- take_level

-- of the places before z, those that stay stand before `kept`, and those that go before `end` in the queue
pub record Levelling (dist list₀ list queue₀ queue : List ℕ) (at left target queued level kept end z : ℕ) : Type 0 where
  pub can : CanLevel dist list₀ queue₀ at left target queued
  pub level_is : level ≡ away dist (el list₀ at)
  pub same_l : length list ≡ length list₀
  pub same_q : length queue ≡ length queue₀
  pub upto : z ≤ left
  pub from : at ≤ kept
  pub counts : end + kept ≡ queued + z
  pub room : kept ≤ z
  pub more : at < z → kept < z
  pub rest : (y : ℕ) → z ≤ y → el list y ≡ el list₀ y
  pub rising : (y x : ℕ) → y < x → x < kept → el list y < el list x
  pub stays : (y : ℕ) → y < kept → At list₀ z (el list y)
  pub goes : (y : ℕ) → queued ≤ y → y < end → At list₀ z (el queue y) × (away dist (el queue y) ≡ level)
  pub apart : (y x : ℕ) → queued ≤ y → y < x → x < end → el queue y ≢ el queue x
  pub out : (y x : ℕ) → queued ≤ y → y < end → x < kept → el queue y ≢ el list x
  pub all : (j : ℕ) → At list₀ z j → At list kept j ⊎ Waits queue queued end j

module _ {dist list queue : List ℕ} {at left target queued : ℕ} (c : CanLevel dist list queue at left target queued) where
  pub level_room : (at < length list) × (el list at < length dist) × (at < period_row) × (el list at < period_row)
  level_room = omega (arith, c.shape.row, c.shape.short, c.before, c.dists, c.within, list_to c.shape at (omega (arith, c.before)))

module _ {dist list₀ list queue₀ queue : List ℕ} {at left target queued level kept end z : ℕ}
    (s : Levelling dist list₀ list queue₀ queue at left target queued level kept end z) where
  -- what stands before place z is less than what stands there
  before_less : z ≤ left → {j : ℕ} → At list₀ z j → j < el list₀ z
  before_less l p = omega (arith, p.is, s.can.shape.rising p.place z p.to l)

  at_more : {j : ℕ} → At list₀ z j → At list₀ (z + 1) j
  at_more p = record { place = p.place; to = omega (arith, p.to); is = p.is }

  pub last_room : (kept < length list) × (kept < period_row)
  last_room = omega (arith, s.room, s.upto, s.same_l, s.can.shape.row, s.can.shape.short)

  module _ (l : z < left) where
    pub levelling_room : (z < length list) × (z < period_row) × (kept < length list) × (end < length queue) × (end < period_row)
    levelling_room = omega (
      arith,
      s.room,
      s.counts,
      s.same_l,
      s.same_q,
      s.can.shape.row,
      s.can.shape.short,
      s.can.queue_row,
      s.can.room,
      s.from,
    )

    module _ {k : ℕ} (k-is : k ≡ get_or list z 0) where
      k_at : k ≡ el list₀ z
      k_at = k-is ∙ s.rest z (omega arith)

      pub levelling_read : (k < length dist) × (k < period_row)
      levelling_read = omega (arith, k_at, list_to s.can.shape z (omega arith), s.can.within, s.can.dists)

      same : get_or dist k 0 ≡ away dist k
      same = as_read dist k levelling_read.0

      here : At list₀ (z + 1) k
      here = record { place = z; to = omega arith; is = sym k_at }

      other : {j : ℕ} → At list₀ z j → j ≢ k
      other p e = omega (arith, before_less (omega arith) p, k_at)

      -- a place before z + 1 is one before z, or z
      split : (j : ℕ) → At list₀ (z + 1) j → At list₀ z j ⊎ (j ≡ k)
      split j p = elim (eq? p.place z) [
        | inl e ↦ inr (sym p.is ∙ ap (el list₀) e ∙ sym k_at)
        | inr e ↦ inl (record { place = p.place; to = omega (arith, p.to); is = p.is })
      ]

      pub levelling_go : get_or dist k 0 ≡ level → Levelling dist list₀ list queue₀ (set queue end k) at left target queued level kept (end + 1) (z + 1)
      levelling_go e = record {
        can = s.can;
        level_is = s.level_is;
        same_l = s.same_l;
        same_q = length-set queue end k ∙ s.same_q;
        upto = omega arith;
        from = s.from;
        counts = omega (arith, s.counts);
        room = omega (arith, s.room);
        more = λ _. omega (arith, s.room);
        rest = λ y b. s.rest y (omega arith);
        rising = s.rising;
        stays = λ y b. at_more (s.stays y b);
        goes = λ y a b. elim (eq? y end) [
          | inl f ↦ rw (f, v.here) (here, sym same ∙ e)
          | inr f ↦ let g = s.goes y a (omega arith) in rw (v.others y f) (at_more g.0, g.1)
        ];
        apart = λ y x a b c. elim (eq? x end) [
          | inl f ↦ rw (f, v.here, v.others y (omega arith)) (other (s.goes y a (omega arith)).0)
          | inr f ↦ rw (v.others x f, v.others y (omega arith)) (s.apart y x a b (omega arith))
        ];
        out = λ y x a b c. elim (eq? y end) [
          | inl f ↦ rw (f, v.here) (λ g. other (s.stays x c) (sym g))
          | inr f ↦ rw (v.others y f) (s.out y x a (omega arith) c)
        ];
        all = λ j p. elim (split j p) [
          | inr f ↦ inr (record { place = end; from = omega (arith, s.counts, s.room); to = omega arith; is = v.here ∙ sym f })
          | inl q ↦ elim (s.all j q) [
            | inl a ↦ inl a
            | inr w ↦ inr (record { place = w.place; from = w.from; to = omega (arith, w.to); is = v.others w.place (omega (arith, w.to)) ∙ w.is })
          ]
        ];
      }
        where
          v : Moved (el queue) (el (set queue end k)) end k
          v = set_moved queue end k levelling_room.3

      pub levelling_stay : get_or dist k 0 ≢ level → Levelling dist list₀ (set list kept k) queue₀ queue at left target queued level (kept + 1) end (z + 1)
      levelling_stay e = record {
        can = s.can;
        level_is = s.level_is;
        same_l = length-set list kept k ∙ s.same_l;
        same_q = s.same_q;
        upto = omega arith;
        from = omega (arith, s.from);
        counts = omega (arith, s.counts);
        room = omega (arith, s.room);
        more = λ _. omega (arith, passed);
        rest = λ y b. v.others y (omega (arith, s.room)) ∙ s.rest y (omega arith);
        rising = λ y x a b. elim (eq? x kept) [
          | inl f ↦ rw (f, v.here, v.others y (omega arith)) (omega (arith, before_less (omega arith) (s.stays y (omega arith)), k_at))
          | inr f ↦ rw (v.others x f, v.others y (omega arith)) (s.rising y x a (omega arith))
        ];
        stays = λ y b. elim (eq? y kept) [
          | inl f ↦ rw (f, v.here) here
          | inr f ↦ rw (v.others y f) (at_more (s.stays y (omega arith)))
        ];
        goes = λ y a b. let g = s.goes y a b in (at_more g.0, g.1);
        apart = s.apart;
        out = λ y x a b c. elim (eq? x kept) [
          | inl f ↦ rw (f, v.here) (other (s.goes y a b).0)
          | inr f ↦ rw (v.others x f) (s.out y x a b (omega arith))
        ];
        all = λ j p. elim (split j p) [
          | inr f ↦ inl (record { place = kept; to = omega arith; is = v.here ∙ sym f })
          | inl q ↦ elim (s.all j q) [
            | inl a ↦ inl (record { place = a.place; to = omega (arith, a.to); is = v.others a.place (omega (arith, a.to)) ∙ a.is })
            | inr w ↦ inr w
          ]
        ];
      }
        where
          v : Moved (el list) (el (set list kept k)) kept k
          v = set_moved list kept k levelling_room.2

          -- the first of them goes
          passed : kept < z
          passed = elim (eq? z at) [
            | inl f ↦ absurd (e (same ∙ ap (away dist) (k_at ∙ ap (el list₀) f) ∙ sym s.level_is))
            | inr f ↦ s.more (omega (arith, s.from, s.room))
          ]

  pub levelling_end : left ≤ z → (kept < left) × Levelled dist list₀ (set list kept target) queue₀ queue left kept queued level
  levelling_end l = (
    omega (arith, s.more (omega (arith, s.can.before)), s.upto),
    record {
      short = omega (arith, s.room, s.upto);
      ends = v.here ∙ sym s.can.shape.ends;
      rising = λ y x a b. rw (old y (omega arith), old x b) (s.rising y x a b);
      stays = λ y b. rw (old y b) (whole (s.stays y b));
      goes = λ y a b. let g = s.goes y a (omega (arith, as_many)) in (whole g.0, g.1);
      apart = λ y x a b c. s.apart y x a b (omega (arith, as_many));
      out = λ y x a b c. rw (old x c) (s.out y x a (omega (arith, as_many)) c);
      all = λ j p. elim (s.all j (record { place = p.place; to = omega (arith, p.to); is = p.is })) [
        | inl a ↦ inl (record { place = a.place; to = a.to; is = old a.place a.to ∙ a.is })
        | inr w ↦ inr (record { place = w.place; from = w.from; to = omega (arith, w.to, as_many); is = w.is })
      ];
    },
  )
    where
      v : Moved (el list) (el (set list kept target)) kept target
      v = set_moved list kept target last_room.0

      old : (y : ℕ) → y < kept → el (set list kept target) y ≡ el list y
      old y b = v.others y (omega arith)

      as_many : end ≡ queued + (left - kept)
      as_many = omega (arith, s.counts, s.upto, s.room)

      whole : {j : ℕ} → At list₀ z j → At list₀ left j
      whole p = record { place = p.place; to = omega (arith, p.to, s.upto); is = p.is }

-- ---- take_nearest

-- one period goes
module _ {list list₂ : List ℕ} (queue : List ℕ) {at left target queued k : ℕ} (shape : InList list left target) (b : at < left) (k-is : k ≡ el list at)
    (row : queued < length queue) (h : Removed list list₂ at left) where
  gone : Moved (el queue) (el (set queue queued k)) queued k
  gone = set_moved queue queued k row

  -- a place of the list behind `at` is that of the next
  then : (z : ℕ) → at ≤ z → z < left → el list₂ z ≡ el list (z + 1)
  then = h.behind

  was : (y : ℕ) → y < left - 1 → At list left (el list₂ y) × (el list₂ y ≢ k)
  was y c = elim (lt? y at) [
    | inl e ↦ (record { place = y; to = omega arith; is = sym (h.before y e) }, λ f. omega (arith, h.before y e, shape.rising y at e (omega arith)))
    | inr e ↦ (
      record { place = y + 1; to = omega arith; is = sym (then y e (omega arith)) },
      λ f. omega (arith, then y e (omega arith), shape.rising at (y + 1) (omega arith) (omega arith)),
    )
  ]

  only : (y : ℕ) → queued ≤ y → y < queued + (left - (left - 1)) → y ≡ queued
  only y a c = omega arith

  still : (j : ℕ) → (p : At list left j) → p.place ≢ at → At list₂ (left - 1) j
  still j p e = elim (lt? p.place at) [
    | inl c ↦ record { place = p.place; to = omega arith; is = h.before p.place c ∙ p.is }
    | inr c ↦
        let back : (p.place - 1) + 1 ≡ p.place = omega arith in
        record { place = p.place - 1; to = omega (arith, p.to); is = then (p.place - 1) (omega arith) (omega (arith, p.to)) ∙ ap (el list) back ∙ p.is }
  ]

  pub removed_level : (dist : List ℕ) → Levelled dist list list₂ queue (set queue queued k) left (left - 1) queued (away dist (el list at))
  removed_level dist = record {
    short = omega arith;
    ends = let back : (left - 1) + 1 ≡ left = omega arith in then (left - 1) (omega arith) (omega arith) ∙ ap (el list) back;
    rising = λ y z a c. elim (lt? z at) [
      | inl e ↦ rw (h.before y (omega arith), h.before z e) (shape.rising y z a (omega arith))
      | inr e ↦ elim (lt? y at) [
        | inl f ↦ rw (h.before y f, then z e (omega arith)) (shape.rising y (z + 1) (omega arith) (omega arith))
        | inr f ↦ rw (then y f (omega arith), then z e (omega arith)) (shape.rising (y + 1) (z + 1) (omega arith) (omega arith))
      ]
    ];
    stays = λ y c. (was y c).0;
    goes = λ y a c. rw (only y a c, gone.here, k-is) (record { place = at; to = b; is = refl }, refl);
    apart = λ y z a c e. absurd (omega arith);
    out = λ y z a c e. rw (only y a c, gone.here) (λ f. (was z e).1 (sym f));
    all = λ j p. elim (eq? p.place at) [
      | inl e ↦ inr (record { place = queued; from = omega arith; to = omega arith; is = gone.here ∙ k-is ∙ ap (el list) (sym e) ∙ p.is })
      | inr e ↦ inl (still j p e)
    ];
  }

pub level_some : {dist list list₂ queue queue₂ : List ℕ} {left left₂ target level queued at : ℕ} → CanNear dist list left target level → NearestIn dist list left at
    → at < left → (left₂ < left) × Levelled dist list list₂ queue queue₂ left left₂ queued (away dist (el list at))
    → NextLevel dist list list₂ queue queue₂ left left₂ queued target
level_some {dist} c h b l = record {
  level = _;
  levelled = l.1;
  least = h.least;
  more = λ _. omega (arith, h.nearer b, ap (away dist) c.shape.ends);
  none = λ d. absurd (omega (arith, l.0));
}

-- ---- the list and the queue

module _ {cap : ℕ → ℕ} {dist turn list queue : List ℕ} {left first target level t queued : ℕ}
    (s : Lined cap dist turn list queue left first target level t queued) where
  pub lined_some : 0 < cap target → (y : ℕ) → y ≤ left → 0 < cap (el list y)
  lined_some free y l = elim (eq? y left) [ inl e ↦ rw (e, s.listed.shape.ends) free | inr e ↦ s.listed.some y (omega arith) ]

  -- nothing open that is not reached is nearer than the level
  pub lined_least : (j : ℕ) → first ≤ j → j ≤ target → 0 < cap j → el turn j ≡ 0 → level ≤ away dist j
  lined_least j a b some none = elim (place_or_gap s.listed.shape j b) [
    | inl p ↦ rw p.is at (s.low p.place p.to)
    | inr g ↦ elim (s.listed.gaps j g a some) [
      | inl done ↦ absurd (omega arith)
      | inr w ↦ omega (arith, rw w.is at (s.waits w.place w.from w.to).here)
    ]
  ]

  module _ (l : t < queued) {k : ℕ} (k-is : k ≡ el queue t) where
    next : Waiting cap dist turn first target level k
    next = rw k-is (s.waits t (omega arith) l)

    -- the first of the queue is the nearest
    pub lined_nearest : 0 < cap target → el turn target ≡ 0 → level < far → Nearest cap dist turn first target k
    lined_nearest free fresh near = record {
      from = next.from;
      to = omega (arith, next.before);
      fresh = λ _. next.fresh;
      near = λ _. omega (arith, next.here);
      some = λ _. next.some;
      least = λ j a b some none. omega (arith, next.here, lined_least j a (omega arith) some none);
      target_least = omega (arith, next.here, lined_least target (omega (arith, next.from, next.before)) (omega arith) free fresh);
    }

    pub lined_other : k ≢ target
    lined_other e = omega (arith, next.before)

    pub lined_level : away dist k ≡ level
    lined_level = next.here

    pub lined_open : 0 < cap k
    lined_open = next.some

    -- what stands in no place of the list is no farther than it
    pub lined_passed : ((j : ℕ) → 0 < el turn j → away dist j ≤ away dist k) → (j : ℕ) → Gap list left j → first ≤ j → 0 < cap j → away dist j ≤ away dist k
    lined_passed order j g a some = elim (s.listed.gaps j g a some) [
      | inl done ↦ order j done
      | inr w ↦ omega (arith, next.here, rw w.is at (s.waits w.place w.from w.to).here)
    ]

    -- it is reached: the others are as near as they were
    pub lined_reach : {dist₂ turn₂ : List ℕ} {r : ℕ} → Moved (el turn) (el turn₂) k r → 0 < r → ((j : ℕ) → away dist₂ j ≤ away dist j)
        → ((j : ℕ) → el turn₂ j ≡ 0 → level ≤ away dist₂ j) → el turn₂ target ≡ 0 → Lined cap dist₂ turn₂ list queue left first target level (t + 1) queued
    lined_reach {dist₂} {turn₂} {r} v pos falls least unreached = record {
      listed = record {
        shape = s.listed.shape;
        low = s.listed.low;
        fresh = fresh;
        some = s.listed.some;
        gaps = λ j g a some. elim (eq? j k) [
          | inl e ↦ inl (omega (arith, ap (el turn₂) e, v.here))
          | inr e ↦ elim (s.listed.gaps j g a some) [
            | inl done ↦ inl (omega (arith, v.others j e))
            | inr w ↦ inr (record {
              place = w.place;
              from = later w e;
              to = w.to;
              is = w.is;
            })
          ]
        ];
      };
      low = λ y b. elim (eq? y left) [
        | inl e ↦ rw (e, s.listed.shape.ends) (least target unreached)
        | inr e ↦ least (el list y) (fresh y (omega arith))
      ];
      row = s.row;
      upto = omega arith;
      room = s.room;
      waits = λ y a b.
          let w = s.waits y (omega arith) b in
          let free = v.others (el queue y) (λ e. s.apart t y (omega arith) (omega arith) b (sym k-is ∙ sym e)) ∙ w.fresh in
          record {
            from = w.from;
            before = w.before;
            some = w.some;
            fresh = free;
            here = omega (arith, w.here, falls (el queue y), least (el queue y) free);
          };
      apart = λ y z a b c. s.apart y z (omega arith) b c;
      out = λ y z a b c. s.out y z (omega arith) b c;
    }
      where
        fresh : (y : ℕ) → y < left → el turn₂ (el list y) ≡ 0
        fresh y b = v.others (el list y) (λ e. s.out t y (omega arith) l b (sym k-is ∙ sym e)) ∙ s.listed.fresh y b

        later : {j : ℕ} (w : Waits queue t queued j) → j ≢ k → t + 1 ≤ w.place
        later w e = elim (eq? w.place t) [
          | inl f ↦ absurd (e (sym w.is ∙ ap (el queue) f ∙ sym k-is))
          | inr f ↦ omega (arith, w.from)
        ]

  -- the queue is done, and gets the next level
  module _ (done : queued ≤ t) {list₂ queue₂ : List ℕ} {left₂ : ℕ} (same_l : length list₂ ≡ length list) (same_q : length queue₂ ≡ length queue)
      (h : NextLevel dist list list₂ queue queue₂ left left₂ queued target) where
    g : Levelled dist list list₂ queue queue₂ left left₂ queued h.level
    g = h.levelled

    in_list : (j : ℕ) → At list left j → (first ≤ j) × (j < target) × (0 < cap j) × (el turn j ≡ 0)
    in_list j p = rw (← p.is) (s.listed.low p.place (omega (arith, p.to)), list_before s.listed.shape p.place p.to, s.listed.some p.place p.to, s.listed.fresh p.place p.to)

    ends : el list₂ left₂ ≡ target
    ends = g.ends ∙ s.listed.shape.ends

    rising₂ : (y z : ℕ) → y < z → z ≤ left₂ → el list₂ y < el list₂ z
    rising₂ y z a b = elim (eq? z left₂) [
      | inl e ↦ rw (e, ends) (in_list (el list₂ y) (g.stays y (omega arith))).1
      | inr e ↦ g.rising y z a (omega arith)
    ]

    -- what stood in the list stands in it still, or waits
    gaps₂ : (j : ℕ) → Gap list₂ left₂ j → first ≤ j → 0 < cap j → (0 < el turn j) ⊎ Waits queue₂ queued (queued + (left - left₂)) j
    gaps₂ j o a some = elim (place_or_gap s.listed.shape j (omega (arith, o.below, up o.place o.to))) [
      | inl p ↦ elim (eq? p.place left) [
        | inl e ↦ absurd (omega (arith, o.below, up o.place o.to, p.is, ap (el list) e, s.listed.shape.ends))
        | inr e ↦ elim (g.all j (record { place = p.place; to = omega (arith, p.to); is = p.is })) [
          | inl q ↦ absurd (not_in q)
          | inr w ↦ inr w
        ]
      ]
      | inr old ↦ elim (s.listed.gaps j old a some) [
        | inl reached ↦ inl reached
        | inr w ↦ absurd (omega (arith, w.from, w.to))
      ]
    ]
      where
        up : (y : ℕ) → y ≤ left₂ → el list₂ y ≤ target
        up y b = elim (eq? y left₂) [ inl e ↦ rw e (omega (arith, ends)) | inr e ↦ omega (arith, rising₂ y left₂ (omega arith) (omega arith), ends) ]

        not_in : At list₂ left₂ j → ⊥
        not_in q = elim (lt? q.place o.place) [
          | inl b ↦ omega (arith, o.above q.place b, q.is)
          | inr b ↦ elim (eq? q.place o.place) [
            | inl e ↦ omega (arith, o.below, ap (el list₂) e, q.is)
            | inr e ↦ omega (arith, o.below, q.is, rising₂ o.place q.place (omega arith) (omega (arith, q.to)))
          ]
        ]

    pub lined_next : {queued₂ : ℕ} → queued₂ ≡ queued + (left - left₂) → Lined cap dist turn list₂ queue₂ left₂ first target h.level queued queued₂
    lined_next e = rw e (record {
      listed = record {
        shape = record { row = same_l ∙ s.listed.shape.row; short = omega (arith, g.short, s.listed.shape.short); ends = ends; rising = rising₂ };
        low = λ y b. elim (eq? y left₂) [
          | inl e ↦ rw (e, ends) (rw s.listed.shape.ends at (s.listed.low left (omega arith)))
          | inr e ↦ (in_list (el list₂ y) (g.stays y (omega arith))).0
        ];
        fresh = λ y b. (in_list (el list₂ y) (g.stays y b)).3;
        some = λ y b. (in_list (el list₂ y) (g.stays y b)).2;
        gaps = gaps₂;
      };
      low = λ y b. elim (eq? y left₂) [
        | inl e ↦ rw (e, ends) (rw s.listed.shape.ends at (h.least left (omega arith)))
        | inr e ↦ let p = g.stays y (omega arith) in rw p.is at (h.least p.place (omega (arith, p.to)))
      ];
      row = same_q ∙ s.row;
      upto = omega arith;
      room = omega (arith, s.room, g.short);
      waits = λ y a b.
          let c = g.goes y a b in
          let p = in_list (el queue₂ y) c.0 in
          record { from = p.0; before = p.1; some = p.2; fresh = p.3; here = c.1 };
      apart = g.apart;
      out = g.out;
    })

-- the list at the start has every open period, and nothing waits
pub lined_start : {cap : ℕ → ℕ} {capacities list : List ℕ} (dist turn queue : List ℕ) {left first target : ℕ} → length list ≡ period_row → length queue ≡ period_row
    → ((k : ℕ) → el turn k ≡ 0) → ((k : ℕ) → k < target → cap k ≡ of_period capacities k) → Filled capacities list first target left
    → Lined cap dist turn list queue left first target 0 0 0
lined_start {cap} {capacities} {list} dist turn queue {left} {first} {target} row queue_row none same h = record {
  listed = record {
    shape = shape;
    low = h.low;
    fresh = λ y _. none (el list y);
    some = λ y b. omega (arith, h.some y b, same (el list y) (list_before shape y b));
    gaps = λ j g from some. absurd (omega (arith, h.gaps j g from, same j (omega (arith, g.below, list_to shape g.place g.to))));
  };
  low = λ y _. omega arith;
  row = queue_row;
  upto = omega arith;
  room = omega (arith, h.short);
  waits = λ y a b. absurd (omega arith);
  apart = λ y z a b c. absurd (omega arith);
  out = λ y z a b. absurd (omega arith);
}
  where
    shape : InList list left target
    shape = record { row = row; short = h.short; ends = h.ends; rising = h.rising }
