-- The loops of `expand` and `find_path`.
-- Assumes nothing.
use mathlib.Core.Path.{◌≡◌, refl, sym, ◌∙◌}
use mathlib.Core.Logic.{inl, inr, ◌≢◌}
use mathlib.Core.List.{List}
use Prim.Native.Nat.{ℕ, zero, suc, ◌+◌, ◌-◌, ◌*◌, ◌^◌, ◌≤◌, ◌<◌, min}
use native.Mathlib.Nat.{add-zero}
use native.Mathlib.Omega.{arith}
use lib.ListN.{get_or, length, set, replicate, length-replicate}
use borrow.Author.Tests.{eq-eqb, ne_eqb}
use Rattle.assignment.specs.Assignment.{Instance, In}
use Rattle.assignment.specs.Rows.{el}
use Rattle.assignment.specs.Chains.{Newest}
use Rattle.assignment.specs.Instances.{until, opened}
use Rattle.assignment.specs.Search.{Offered}
use Rattle.assignment.proofs.Tests.{eq?, lt?}
use Rattle.assignment.proofs.Closed.{open_cost, shut_cost}
use Rattle.assignment.proofs.Restricted.{until_near}
use Rattle.assignment.proofs.Rows.{set_moved}
use Rattle.day.specs.declared.Flight.{Flight}
use Rattle.day.specs.Day.{Day, P, N, day, most_flights, period_row, width, of_period, due, hold_cost, latest_of, cost, flight_at, last_of, last}
use Rattle.day.specs.Instance.{instance}
use Rattle.day.proofs.Costs.{takes_in}
use Rattle.day.proofs.Flights.{due_read}
use Rattle.path.specs.declared.Origin.{Origin}
use Rattle.path.specs.Path.{far, away, dearest, dear, room_in, scope, pays, offers_to, Table, Search, Around, InList, Gap, Lined, CanList, Filled, CanNear, NextLevel, Nearest, CanOffer, Offers, Ready, CanExpand, Expanded, CanExpandSome, ExpandedAll, CanSearch, Searched, CanSearchSome, SearchedAll}
use Rattle.path.proofs.Rows.{as_read}
use Rattle.path.proofs.Listing.{place_or_gap, gap_apart, list_to, lined_start, lined_some, lined_least, lined_nearest, lined_other, lined_level, lined_open, lined_passed, lined_reach, lined_next}
use Rattle.path.proofs.Reaching.{search_start, around_pass, around_kept, around_offered, search_near, reach_in, reach_next, search_end}

-- a flight of the day stands in its row
pub stands : {d : Day} {places : List ℕ} (t : Table d places) (i : ℕ) → i < N d → (i + 1) * width ≤ length d.flights
stands t i l = omega (arith, t.valid.whole)

-- ---- the offers of a flight of the day

-- with the closing periods shut
abbrev payment : Day → List ℕ → ℕ → ℕ → ℕ
payment d prices i k = (opened (instance d) dear).cost i k + of_period prices k

-- a missing limit may as well end with the target
latest_near : (f : Flight) (p target : ℕ) → 1 ≤ target → target ≤ p + 1 → offers_to f target ≡ min (latest_of p f) target
unfolding latest_of
latest_near f p target some l = elim (eq? f.limit 255) [
  | inl e ↦ rw (eq-eqb f.limit 255 e) (omega arith)
  | inr e ↦ rw (ne_eqb f.limit 255 e) refl
]

module _ (d : Day) {f : Flight} (i : ℕ) (f_is : f ≡ flight_at d.flights i) where
  due_is : f.due ≡ due d i
  due_is = due_read f d.flights i f_is

  -- the window, up to the target
  pub window_to : (target : ℕ) → target ≤ P d + 1 → 1 ≤ due d i → due d i ≤ target → offers_to f target ≡ until target (due d i) (last d i)
  unfolding last_of
  window_to target within pos l =
      latest_near f (P d) target (omega arith) within ∙ rw f_is (omega (arith, until_near (last d i) l))

  pays_is : (prices : List ℕ) (k : ℕ) → 0 < room_in d k → pays f prices k ≡ payment d prices i k
  unfolding flight_at
  pays_is prices k some =
      let e : hold_cost f (k - f.due) ≡ cost d i (k - due d i) = rw (due_is, f_is) refl in
      omega (arith, e, open_cost (instance d) dear i k some)

  -- periods in which nobody may land, and those that do not stand in the list, are no farther than an offer to them
  pub offered_all : {o : Origin} {prices list dist dist₂ via via₂ : List ℕ} {left target hi : ℕ} → InList list left target → offers_to f target ≡ hi
      → ((y : ℕ) → y ≤ left → 0 < room_in d (el list y))
      → ((j : ℕ) → Gap list left j → due d i ≤ j → j ≤ hi → away dist j + o.base ≤ o.from + payment d prices i j)
      → Offers f o prices list dist dist₂ via via₂ left target
      → Offered (due d i) hi (payment d prices i) o.who o.from o.base (away dist target) (away dist) (away dist₂) (el via) (el via₂)
  offered_all {o} {prices} {list} {dist} {left = left} {target} {hi} shape to some passed h k = elim (lt? target k) [
    | inl out ↦
        let same = h.others k (λ y b e. omega (arith, list_to shape y b)) in
        inr (record { far = same.0; by = same.1; no_nearer = λ a b. absurd (omega (arith, to)) })
    | inr in_List ↦ elim (place_or_gap shape k in_List) [
      | inr g ↦
          let same = h.others k (gap_apart shape g) in
          inr (record { far = same.0; by = same.1; no_nearer = λ a b. omega (arith, passed k g a b) })
      | inl p ↦
          let free : 0 < room_in d k = rw p.is at (some p.place p.to) in
          elim (h.listed p.place p.to) [
            | inl t ↦ inl (record {
              from_lo = rw (p.is, due_is) at t.from_lo;
              to_hi = omega (arith, to, rw p.is at t.to_hi);
              less = omega (arith, rw p.is at t.less, pays_is prices k free);
              far = omega (arith, rw p.is at t.far, pays_is prices k free);
              by = rw p.is at t.by;
            })
            | inr q ↦ inr (record {
              far = rw p.is at q.far;
              by = rw p.is at q.by;
              no_nearer = λ a b. omega (arith, rw p.is at (q.no_nearer (rw (p.is, due_is) a) (rw p.is (omega (arith, to)))), pays_is prices k free);
            })
          ]
    ]
  ]

-- ---- expand

-- flights that do not land in k are passed over
passes : {d : Instance} {x p : ℕ → ℕ} {target : ℕ} {dist turn via : List ℕ} {t k r : ℕ} (j : ℕ) → Around d x p target dist turn via t k (r + j)
    → ((s : ℕ) → r ≤ s → s < r + j → x s ≢ k) → Around d x p target dist turn via t k r
passes {r = r} zero a none = rw (add-zero r) at a
passes {r = r} (suc j) a none =
    let next : r + suc j ≡ (r + j) + 1 = omega arith in
    passes j (around_pass (rw next at a) (none (r + j) (omega arith) (omega arith))) (λ s b c. none s b (omega arith))

pass_to : {d : Instance} {x p : ℕ → ℕ} {target : ℕ} {dist turn via : List ℕ} {t k m r : ℕ} → Newest x k m r
    → Around d x p target dist turn via t k m → Around d x p target dist turn via t k r
pass_to {m = m} {r = r} h a =
    let e : m ≡ r + (m - r) = omega (arith, h.before) in
    passes (m - r) (rw e at a) (λ s b c. h.none s b (omega (arith, h.before)))

-- the flights at the places from `next` on that land in k have offered, and the one before `next` is the next of them; `from` is the
-- distance of k
pub record Expanding (d : Day) (x : ℕ → ℕ) (places links prices list : List ℕ) (n left target : ℕ) (dist₀ dist via₀ via : List ℕ) (k from next : ℕ) : Type 0 where
  pub can : CanExpand d x places links prices list dist₀ via₀ n left target k
  pub same_d : length dist ≡ length dist₀
  pub same_v : length via ≡ length via₀
  pub upto : next ≤ n
  pub there : 0 < next → x (next - 1) ≡ k
  pub from_is : from ≡ away dist₀ k
  pub falls : (j : ℕ) → away dist j ≤ away dist₀ j
  pub most : (j : ℕ) → away dist j ≤ far
  pub passed : (j : ℕ) → Gap list left j → due d (el places n) ≤ j → 0 < room_in d j → away dist j ≤ from
  pub keeps : (turn : List ℕ) (t : ℕ)
      → Around (scope d places n target) x (of_period prices) target dist₀ turn via₀ t k n
      → Around (scope d places n target) x (of_period prices) target dist turn via t k next × (from ≡ away dist k)

module _ {d : Day} {x : ℕ → ℕ} {places links prices list dist via : List ℕ} {n left target k : ℕ}
    (c : CanExpand d x places links prices list dist via n left target k) where
  start_room : (k < length dist) × (k < length links) × (k < period_row)
  start_room = omega (arith, c.to, c.ready.scene.within, c.ready.scene.periods, c.dists, c.ready.chained.row)

  starting : Expanding d x places links prices list n left target dist dist via via k (get_or dist k 0) (get_or links k 0)
  starting =
      let h = c.ready.chained.chains.heads k start_room.2 in
      record {
        can = c;
        same_d = refl;
        same_v = refl;
        upto = h.before;
        there = h.there;
        from_is = as_read dist k start_room.0;
        falls = λ j. omega arith;
        most = c.most;
        passed = λ j g a some. omega (arith, c.passed j g a some, as_read dist k start_room.0);
        keeps = λ turn t a. (pass_to h a, as_read dist k start_room.0);
      }

module _ {d : Day} {x : ℕ → ℕ} {places links prices list dist₀ dist via₀ via : List ℕ} {n left target k from next : ℕ}
    (s : Expanding d x places links prices list n left target dist₀ dist via₀ via k from next) where
  ending : next ≤ 0 → Expanded (scope d places n target) x (of_period prices) target dist₀ dist via₀ via k
  ending l =
      let e : next ≡ 0 = omega arith in
      record { keeps = λ turn t a. (rw e at (s.keeps turn t a).0, sym (s.keeps turn t a).1 ∙ s.from_is); falls = s.falls }

  module _ (some : 0 < next) where
    abbrev who : ℕ
    who = next - 1

    l : who < n
    l = omega (arith, s.upto)

    r : Ready d x places links prices n target
    r = s.can.ready

    next_room : (who < length places) × (period_row + who < length links) × (who < most_flights)
    next_room = omega (arith, l, r.table.row, r.upto, r.table.valid.flights_to, r.chained.row)

    newest : Newest x (x who) who (el links (period_row + who))
    newest = r.chained.chains.links who l

    here : x who ≡ k
    here = s.there some

    one_more : next ≡ who + 1
    one_more = omega arith

    window : In (scope d places n target) who k
    window = rw here at (r.scene.sound.accepted.legal.window who l)

    in_table : el places who < N d
    in_table = r.table.permuted.below who (omega (arith, r.upto))

    from_due : 1 ≤ due d (el places who)
    from_due = (r.table.valid.flight (el places who) in_table).due_from

    by_target : due d (el places who) ≤ target
    by_target = omega (arith, window.from, s.can.to)

    module _ {i : ℕ} {f : Flight} (i-is : i ≡ get_or places who 0) (f-read : f ≡ flight_at d.flights i) where
      f_is : f ≡ flight_at d.flights (get_or places who 0)
      f_is = rw i-is at f-read

      to : offers_to f target ≡ (scope d places n target).hi who
      to = window_to d (get_or places who 0) f_is target (omega (arith, r.scene.within)) from_due by_target

      module _ {u : ℕ} (u-is : u ≡ f.due) where
        home : (u ≤ k) × (k - u < 2 ^ 32)
        home = omega (arith, u-is, due_is d (get_or places who 0) f_is, window.from, start_room s.can)

        module _ {b q : ℕ} (b-is : b ≡ hold_cost f (k - u)) (q-is : q ≡ of_period prices k) where
          base_is : b + q ≡ (scope d places n target).cost who k + of_period prices k
          base_is = omega (arith, rw u-is at b-is, q-is, pays_is d (get_or places who 0) f_is prices k s.can.here)

          base_small : b + q ≤ dearest
          base_small = omega (arith, base_is, r.scene.pays who k (omega arith) window s.can.here)

          in_scope : (j : ℕ) → due d (get_or places who 0) ≤ j → j ≤ offers_to f target → In (scope d places n target) who j
          in_scope j a e = record { from = a; to = omega (arith, to) }

          can_offer : {o : Origin} → o.from ≡ from → o.base ≡ b + q → CanOffer f o prices list dist via left target
          can_offer {o} from-o base-o = record {
            shape = s.can.shape;
            within = omega (arith, r.scene.within, r.scene.periods);
            dists = s.same_d ∙ s.can.dists;
            vias = s.same_v ∙ s.can.vias;
            prices_row = r.prices_row;
            free = r.scene.sound.accepted.unsold target r.scene.free;
            from_due = omega (arith, due_is d (get_or places who 0) f_is, from_due);
            by_target = omega (arith, due_is d (get_or places who 0) f_is, by_target);
            low = omega (arith, from-o, s.from_is, s.can.near);
            base_low = omega (arith, base-o, base_small);
            most = s.most target;
            fair = λ y b a e.
                let w = in_scope (el list y) (rw (due_is d (get_or places who 0) f_is) at a) e in
                let best = r.scene.sound.accepted.best who (el list y) l w in
                let least = r.scene.pays who (el list y) (omega arith) w (s.can.some y b) in
                omega (arith, from-o, base-o, rw here at best, least, base_is, pays_is d (get_or places who 0) f_is prices (el list y) (s.can.some y b));
          }

          -- in terms of the day
          module _ {o : Origin} {dist₂ via₂ : List ℕ} (who-o : o.who ≡ who) (from-o : o.from ≡ from) (base-o : o.base ≡ b + q)
              (h : Offers f o prices list dist dist₂ via via₂ left target) where
            passed : (j : ℕ) → Gap list left j → due d (get_or places who 0) ≤ j → j ≤ (scope d places n target).hi who
                → away dist j + o.base ≤ o.from + payment d prices (get_or places who 0) j
            passed j g a e = elim (eq? (room_in d j) 0) [
              | inl none ↦ omega (arith, from-o, base-o, s.most j, base_small, shut_cost (instance d) dear (get_or places who 0) j none)
              | inr some ↦
                  let w : In (scope d places n target) who j = record { from = a; to = e } in
                  let best = r.scene.sound.accepted.best who j l w in
                  omega (
                    arith,
                    from-o,
                    base-o,
                    rw here at best,
                    base_is,
                    s.passed j g (omega (arith, r.scene.floor who l)) (omega arith),
                  )
            ]

            heard : Offered (due d (get_or places who 0)) ((scope d places n target).hi who) (payment d prices (get_or places who 0)) who from (b + q)
                (away dist target) (away dist) (away dist₂) (el via) (el via₂)
            heard = rw (who-o, from-o, base-o) at (offered_all d (get_or places who 0) f_is {o = o} s.can.shape to s.can.some passed h)

            stepped : length dist₂ ≡ length dist → length via₂ ≡ length via
                → Expanding d x places links prices list n left target dist₀ dist₂ via₀ via₂ k from (get_or links (period_row + who) 0)
            stepped sd sv = record {
              can = s.can;
              same_d = sd ∙ s.same_d;
              same_v = sv ∙ s.same_v;
              upto = omega (arith, newest.before, l);
              there = λ b. newest.there b ∙ here;
              from_is = s.from_is;
              falls = λ j. omega (arith, falls j, s.falls j);
              most = λ j. omega (arith, falls j, s.most j);
              passed = λ j g a some. omega (arith, falls j, s.passed j g a some);
              keeps = λ turn t a.
                  let g = s.keeps turn t a in
                  let at_who = rw one_more at g.0 in (
                    pass_to (rw here at newest) (around_offered at_who dist₂ via₂ r.scene l here refl g.1 base_is sd sv heard),
                    omega (arith, g.1, around_kept at_who dist₂ via₂ r.scene l here refl g.1 base_is sd sv heard),
                  );
            }
              where
                falls : (j : ℕ) → away dist₂ j ≤ away dist j
                falls j = elim (heard j) [ inl c ↦ omega (arith, c.less, c.far) | inr c ↦ omega (arith, c.far) ]

-- the same, whatever the day and the plan are
pub record ExpandingAll (flights places links prices list dist₀ dist via₀ via : List ℕ) (left target k from price next : ℕ) : Type 0 where
  pub some : CanExpandSome flights places links prices list dist₀ via₀ left target k
  pub price_is : price ≡ of_period prices k
  pub each : (capacities : List ℕ) (closing : ℕ) (x : ℕ → ℕ) (n : ℕ) → CanExpand (day capacities flights closing) x places links prices list dist₀ via₀ n left target k
      → Expanding (day capacities flights closing) x places links prices list n left target dist₀ dist via₀ via k from next

module _ {flights places links prices list dist via : List ℕ} {left target k : ℕ} (c : CanExpandSome flights places links prices list dist via left target k) where
  pub expanding_start : {q : ℕ} → q ≡ of_period prices k
      → ExpandingAll flights places links prices list dist dist via via left target k (get_or dist k 0) q (get_or links k 0)
  expanding_start e = record { some = c; price_is = e; each = λ capacities closing x n can. starting can }

module _ {flights places links prices list dist₀ dist via₀ via : List ℕ} {left target k from price next : ℕ}
    (s : ExpandingAll flights places links prices list dist₀ dist via₀ via left target k from price next) where
  -- with the day and the plan that there are
  abbrev one : Expanding (day s.some.capacities flights s.some.closing) s.some.x places links prices list s.some.n left target dist₀ dist via₀ via k from next
  one = s.each s.some.capacities s.some.closing s.some.x s.some.n s.some.can

  pub expanding_end : next ≤ 0 → ExpandedAll flights places links prices list dist₀ dist via₀ via left target k
  expanding_end l capacities closing x n can = ending (s.each capacities closing x n can) l

  module _ (l : 0 < next) where
    pub expanding_room : (next - 1 < length places) × (period_row + (next - 1) < length links) × (next - 1 < most_flights)
    expanding_room = next_room one l

    pub expanding_less : get_or links (period_row + (next - 1)) 0 < next
    expanding_less = omega (arith, (newest one l).before)

    module _ {i : ℕ} (i-is : i ≡ get_or places (next - 1) 0) where
      pub expanding_stands : (i + 1) * width ≤ length flights
      expanding_stands = stands one.can.ready.table i (rw i-is (in_table one l))

      module _ {f : Flight} {u : ℕ} (f_is : f ≡ flight_at flights i) (u-is : u ≡ f.due) where
        pub expanding_home : (u ≤ k) × (k - u < 2 ^ 32)
        expanding_home = home one l i-is f_is u-is

        module _ {b : ℕ} (b-is : b ≡ hold_cost f (k - u)) where
          pub expanding_small : b + price ≤ dearest
          expanding_small = base_small one l i-is f_is u-is b-is s.price_is

          pub expanding_can : CanOffer f (record { who = next - 1; from = from; base = b + price }) prices list dist via left target
          expanding_can = can_offer one l i-is f_is u-is b-is s.price_is refl refl

          pub expanding_offered : {dist₂ via₂ : List ℕ} → length dist₂ ≡ length dist → length via₂ ≡ length via
              → Offers f (record { who = next - 1; from = from; base = b + price }) prices list dist dist₂ via via₂ left target
              → ExpandingAll flights places links prices list dist₀ dist₂ via₀ via₂ left target k from price (get_or links (period_row + (next - 1)) 0)
          expanding_offered sd sv h = record {
            some = s.some;
            price_is = s.price_is;
            each = λ capacities closing x n can. stepped (s.each capacities closing x n can) l i-is f_is u-is b-is s.price_is refl refl refl h sd sv;
          }

-- ---- find_path

-- t periods are reached; the other open ones stand in the queue, at distance `level`, or in the list, where none is nearer. Where the queue
-- is done, the target is as near as any
pub record Finding (d : Day) (x : ℕ → ℕ) (places links prices list queue dist via : List ℕ) (n all left target t : ℕ) : Type 0 where
  pub ready : Ready d x places links prices n target
  pub turn : List ℕ
  pub so_far : Search (scope d places n target) x (of_period prices) target dist turn via t 0
  pub whole : left ≤ all
  pub level : ℕ
  pub lined : Lined (room_in d) dist turn list queue left (due d (el places n)) target level t (all - left)
  pub near : t < all - left → level < far
  pub ended : all - left ≤ t → away dist target ≤ level

-- nothing is reached yet
none_yet : List ℕ
none_yet = replicate period_row 0

fresh : (k : ℕ) → el none_yet k ≡ 0
unfolding none_yet
fresh = zeros period_row
  where
    zeros : (m k : ℕ) → el (replicate m 0) k ≡ 0
    zeros zero k = refl
    zeros (suc m) zero = refl
    zeros (suc m) (suc k) = zeros m k

turns : length none_yet ≡ period_row
unfolding none_yet
turns = length-replicate {A = ℕ} period_row 0

module _ {d : Day} {x : ℕ → ℕ} {places links prices dist via : List ℕ} {n target : ℕ} (c : CanSearch d x places links prices dist via n target) where
  in_day : el places n < N d
  in_day = c.ready.table.permuted.below n c.ready.upto

  new_due : 1 ≤ due d (el places n)
  new_due = (c.ready.table.valid.flight (el places n) in_day).due_from

  module _ {i : ℕ} {f : Flight} (i-is : i ≡ get_or places n 0) (f-read : f ≡ flight_at d.flights i) where
    new_is : f ≡ flight_at d.flights (get_or places n 0)
    new_is = rw i-is at f-read

    new_to : offers_to f target ≡ (scope d places n target).hi n
    new_to = window_to d (get_or places n 0) new_is target (omega (arith, c.ready.scene.within)) new_due c.ready.scene.before

    module _ {first : ℕ} (first-is : first ≡ f.due) where
      first_at : first ≡ due d (get_or places n 0)
      first_at = first-is ∙ due_is d (get_or places n 0) new_is

      can_list : {list₀ : List ℕ} → length list₀ ≡ period_row → CanList list₀ first target
      can_list row = record {
        row = row;
        before = omega (arith, first_at, c.ready.scene.before);
        within = omega (arith, c.ready.scene.within, c.ready.scene.periods);
      }

      module _ {list : List ℕ} (queue : List ℕ) {all : ℕ} (row : length list ≡ period_row) (queue_row : length queue ≡ period_row) (h : Filled d.capacities list first target all) where
        lined_first : (dist₁ : List ℕ) → Lined (room_in d) dist₁ none_yet list queue all (due d (el places n)) target 0 0 0
        lined_first dist₁ = rw first_at at (lined_start dist₁ none_yet queue row queue_row fresh (λ k b. takes_in d.capacities d.closing k (omega (arith, c.ready.scene.within))) h)

        free_list : (y : ℕ) → y ≤ all → 0 < room_in d (el list y)
        free_list = lined_some (lined_first dist) (omega (arith, c.ready.scene.free))

        first_offer : CanOffer f (record { who = n; from = 0; base = 0 }) prices list dist via all target
        first_offer = record {
          shape = (lined_first dist).listed.shape;
          within = omega (arith, c.ready.scene.within, c.ready.scene.periods);
          dists = c.dists;
          vias = c.vias;
          prices_row = c.ready.prices_row;
          free = c.ready.scene.sound.accepted.unsold target c.ready.scene.free;
          from_due = omega (arith, first-is, first_at, new_due);
          by_target = omega (arith, first-is, first_at, c.ready.scene.before);
          low = omega arith;
          base_low = omega arith;
          most = omega (arith, c.all_far target);
          fair = λ y b a e.
              let w : In (scope d places n target) n (el list y) = record { from = rw (due_is d (get_or places n 0) new_is) at a; to = omega (arith, new_to) } in
              omega (arith, c.ready.scene.pays n (el list y) (omega arith) w (free_list y b), pays_is d (get_or places n 0) new_is prices (el list y) (free_list y b));
        }

        module _ {dist₁ via₁ : List ℕ} (same_d : length dist₁ ≡ length dist) (same_v : length via₁ ≡ length via)
            (o : Offers f (record { who = n; from = 0; base = 0 }) prices list dist dist₁ via via₁ all target) where
          begun : Search (scope d places n target) x (of_period prices) target dist₁ none_yet via₁ 0 0
          begun = search_start dist dist₁ none_yet via via₁ c.ready.scene refl (same_d ∙ c.dists) (same_v ∙ c.vias) c.all_far fresh turns
              (offered_all d (get_or places n 0) new_is {o = record { who = n; from = 0; base = 0 }} (lined_first dist).listed.shape new_to free_list passed o)
            where
              passed : (j : ℕ) → Gap list all j → due d (get_or places n 0) ≤ j → j ≤ (scope d places n target).hi n → away dist j + 0 ≤ 0 + payment d prices (get_or places n 0) j
              passed j g a b = elim (eq? (room_in d j) 0) [
                | inl none ↦ omega (arith, c.all_far j, shut_cost (instance d) dear (get_or places n 0) j none)
                | inr some ↦ elim ((lined_first dist).listed.gaps j g a (omega arith)) [
                  | inl reached ↦ absurd (omega (arith, fresh j))
                  | inr w ↦ absurd (omega (arith, w.to))
                ]
              ]

          beginning : {list₂ queue₂ : List ℕ} {left : ℕ} → length list₂ ≡ length list → length queue₂ ≡ length queue
              → NextLevel dist₁ list list₂ queue queue₂ all left 0 target
              → Finding d x places links prices list₂ queue₂ dist₁ via₁ n all left target 0
          beginning same_l same_q g = record {
            ready = c.ready;
            turn = none_yet;
            so_far = begun;
            whole = g.levelled.short;
            level = g.level;
            lined = lined_next (lined_first dist₁) (omega arith) same_l same_q g (omega arith);
            near = λ b. omega (arith, g.more (omega arith), begun.most target);
            ended = λ b. g.none (omega (arith, g.levelled.short));
          }

module _ {d : Day} {x : ℕ → ℕ} {places links prices list queue dist via : List ℕ} {n all left target t : ℕ}
    (s : Finding d x places links prices list queue dist via n all left target t) where
  free : 0 < room_in d target
  free = omega (arith, s.ready.scene.free)

  target_fresh : el s.turn target ≡ 0
  target_fresh = elim (lt? 0 (el s.turn target)) [ inl some ↦ absurd (omega (arith, s.so_far.reached target some)) | inr none ↦ omega arith ]

  found : all - left ≤ t → Searched (scope d places n target) x (of_period prices) target dist via
  found e = search_end s.so_far s.ready.scene refl (record {
    from = omega (arith, s.ready.scene.before);
    to = omega arith;
    fresh = λ f. absurd (f refl);
    near = λ f. absurd (f refl);
    some = λ f. absurd (f refl);
    least = λ j a b some none. omega (arith, s.ended e, lined_least s.lined j a (omega arith) some none);
    target_least = omega arith;
  }) refl

  module _ (l : t < all - left) {k : ℕ} (k-is : k ≡ get_or queue t 0) where
    nearest_one : Nearest (room_in d) dist s.turn (due d (el places n)) target k
    nearest_one = lined_nearest s.lined l k-is free target_fresh (s.near l)

    other : k ≢ target
    other = lined_other s.lined l k-is

    reached : (k < target) × (k < period_row) × (t < period_row) × (k < length s.turn) × (away dist k ≤ period_row * dearest)
    reached = reach_in s.so_far s.ready.scene refl nearest_one other

    abbrev turn₂ : List ℕ
    turn₂ = set s.turn k (t + 1)

    around : Around (scope d places n target) x (of_period prices) target dist turn₂ via (t + 1) k n
    around = reach_next s.so_far s.ready.scene refl nearest_one other

    next_expand : CanExpand d x places links prices list dist via n left target k
    next_expand = record {
      ready = s.ready;
      dists = s.so_far.rows.dists;
      vias = s.so_far.rows.vias;
      to = reached.0;
      near = reached.4;
      most = s.so_far.most;
      shape = s.lined.listed.shape;
      here = lined_open s.lined l k-is;
      some = lined_some s.lined free;
      passed = λ j g a some. lined_passed s.lined l k-is (λ o done. s.so_far.near.order o k done (nearest_one.fresh other)) j g a some;
    }

    module _ {dist₂ via₂ : List ℕ} (h : Expanded (scope d places n target) x (of_period prices) target dist dist₂ via via₂ k) where
      after : Around (scope d places n target) x (of_period prices) target dist₂ turn₂ via₂ (t + 1) k 0
      after = (h.keeps turn₂ (t + 1) around).0

      level_is : away dist₂ k ≡ s.level
      level_is = (h.keeps turn₂ (t + 1) around).1 ∙ lined_level s.lined l k-is

      level_room : (k < length dist₂) × (target < length dist₂) × (target < period_row)
      level_room = omega (arith, reached.1, after.so_far.rows.dists, s.ready.scene.within, s.ready.scene.periods)

      read : get_or dist₂ k 0 ≡ s.level
      read = as_read dist₂ k level_room.0 ∙ level_is

      -- what is not reached is no nearer than what was reached last
      least : (j : ℕ) → el turn₂ j ≡ 0 → s.level ≤ away dist₂ j
      least j none = omega (arith, level_is, after.so_far.near.order k j (omega (arith, after.here)) none)

      unreached : el turn₂ target ≡ 0
      unreached = (set_moved s.turn k (t + 1) reached.3).others target (λ f. other (sym f)) ∙ target_fresh

      -- the target is as near
      stopped : get_or dist₂ target 0 ≤ get_or dist₂ k 0 → Searched (scope d places n target) x (of_period prices) target dist₂ via₂
      stopped e =
          let at_target = as_read dist₂ target level_room.1 in
          record {
            turn = turn₂;
            t = t + 1;
            so_far = after.so_far;
            least = λ j none. omega (arith, least j none, read, at_target);
            near = omega (arith, read, at_target, s.near l);
          }

      lined₂ : Lined (room_in d) dist₂ turn₂ list queue left (due d (el places n)) target s.level (t + 1) (all - left)
      lined₂ = lined_reach s.lined l k-is (set_moved s.turn k (t + 1) reached.3) (omega arith) h.falls least unreached

      on : t + 1 ≢ all - left → Finding d x places links prices list queue dist₂ via₂ n all left target (t + 1)
      on e = record {
        ready = s.ready;
        turn = turn₂;
        so_far = after.so_far;
        whole = s.whole;
        level = s.level;
        lined = lined₂;
        near = λ _. s.near l;
        ended = λ b. absurd (omega arith);
      }

      module _ (e : t + 1 ≡ all - left) where
        again : CanNear dist₂ list left target (get_or dist₂ k 0) × ((length queue ≡ period_row) × ((t + 1) + left < period_row))
        again = (
          search_near after.so_far s.ready.scene s.lined.listed.shape (λ y b. omega (arith, lined₂.low y b, read)),
          (s.lined.row, omega (arith, s.lined.room)),
        )

        levelled : {list₂ queue₂ : List ℕ} {left₂ : ℕ} → length list₂ ≡ length list → length queue₂ ≡ length queue
            → NextLevel dist₂ list list₂ queue queue₂ left left₂ (t + 1) target
            → Finding d x places links prices list₂ queue₂ dist₂ via₂ n all left₂ target (t + 1)
        levelled same_l same_q g = record {
          ready = s.ready;
          turn = turn₂;
          so_far = after.so_far;
          whole = omega (arith, g.levelled.short, s.whole);
          level = g.level;
          lined = lined_next (rw (← e) at lined₂) (omega arith) same_l same_q g (omega (arith, g.levelled.short, s.whole));
          near = λ b. omega (arith, g.more (omega (arith, g.levelled.short, s.whole)), after.so_far.most target);
          ended = λ b. g.none (omega (arith, g.levelled.short, s.whole));
        }

-- the same, whatever the plan is
pub record FindingAll (d : Day) (places links prices list queue dist via : List ℕ) (n all left target t : ℕ) : Type 0 where
  pub x : ℕ → ℕ
  pub ready : Ready d x places links prices n target
  pub each : (x : ℕ → ℕ) → Ready d x places links prices n target → Finding d x places links prices list queue dist via n all left target t

module _ {d : Day} {places links prices dist via : List ℕ} {n target : ℕ} (c : CanSearchSome d places links prices dist via n target) where
  -- another plan, with the same rows
  other_plan : (x : ℕ → ℕ) → Ready d x places links prices n target → CanSearch d x places links prices dist via n target
  other_plan x ready = record { ready = ready; dists = c.can.dists; vias = c.can.vias; all_far = c.can.all_far }

  module _ {i : ℕ} (i-is : i ≡ get_or places n 0) where
    module _ {f : Flight} {first : ℕ} (f_is : f ≡ flight_at d.flights i) (first-is : first ≡ f.due) where
      pub find_list : {list₀ : List ℕ} → length list₀ ≡ period_row → CanList list₀ first target
      find_list = can_list c.can i-is f_is first-is

      module _ {list : List ℕ} (queue : List ℕ) {all : ℕ} (row : length list ≡ period_row) (queue_row : length queue ≡ period_row) (h : Filled d.capacities list first target all) where
        pub find_offer : CanOffer f (record { who = n; from = 0; base = 0 }) prices list dist via all target
        find_offer = first_offer c.can i-is f_is first-is queue row queue_row h

        module _ {dist₁ via₁ : List ℕ} (same_d : length dist₁ ≡ length dist) (same_v : length via₁ ≡ length via)
            (o : Offers f (record { who = n; from = 0; base = 0 }) prices list dist dist₁ via via₁ all target) where
          pub finding_start : {list₂ queue₂ : List ℕ} {left : ℕ} → length list₂ ≡ length list → length queue₂ ≡ length queue
              → NextLevel dist₁ list list₂ queue queue₂ all left 0 target
              → FindingAll d places links prices list₂ queue₂ dist₁ via₁ n all left target 0
          finding_start same_l same_q g = record {
            x = c.x;
            ready = c.can.ready;
            each = λ x ready. beginning (other_plan x ready) i-is f_is first-is queue row queue_row h same_d same_v o same_l same_q g;
          }

module _ {d : Day} {places links prices list queue dist via : List ℕ} {n all left target t : ℕ}
    (s : FindingAll d places links prices list queue dist via n all left target t) where
  abbrev plan : Finding d s.x places links prices list queue dist via n all left target t
  plan = s.each s.x s.ready

  pub finding_end : {dist₀ via₀ : List ℕ} → all - left ≤ t → SearchedAll d places links prices dist₀ dist via₀ via n target
  finding_end e x can = found (s.each x can.ready) e

  module _ (l : t < all - left) where
    module _ {k : ℕ} (k-is : k ≡ get_or queue t 0) where
      pub finding_expand : CanExpandSome d.flights places links prices list dist via left target k
      finding_expand = record { capacities = d.capacities; closing = d.closing; x = s.x; n = n; can = next_expand plan l k-is }

      module _ {dist₂ via₂ : List ℕ} (h : ExpandedAll d.flights places links prices list dist dist₂ via via₂ left target k) where
        each_plan : (x : ℕ → ℕ) (ready : Ready d x places links prices n target)
            → Expanded (scope d places n target) x (of_period prices) target dist dist₂ via via₂ k
        each_plan x ready = h d.capacities d.closing x n (next_expand (s.each x ready) l k-is)

        pub finding_stop : {dist₀ via₀ : List ℕ} → get_or dist₂ target 0 ≤ get_or dist₂ k 0 → SearchedAll d places links prices dist₀ dist₂ via₀ via₂ n target
        finding_stop e x can = stopped (s.each x can.ready) l k-is (each_plan x can.ready) e

        pub finding_on : t + 1 ≢ all - left → FindingAll d places links prices list queue dist₂ via₂ n all left target (t + 1)
        finding_on e = record { x = s.x; ready = s.ready; each = λ x ready. on (s.each x ready) l k-is (each_plan x ready) e }

        module _ (e : t + 1 ≡ all - left) where
          pub finding_again : CanNear dist₂ list left target (get_or dist₂ k 0) × ((length queue ≡ period_row) × ((t + 1) + left < period_row))
          finding_again = again plan l k-is (each_plan s.x s.ready) e

          pub finding_next : {list₂ queue₂ : List ℕ} {left₂ : ℕ} → length list₂ ≡ length list → length queue₂ ≡ length queue
              → NextLevel dist₂ list list₂ queue queue₂ left left₂ (t + 1) target
              → FindingAll d places links prices list₂ queue₂ dist₂ via₂ n all left₂ target (t + 1)
          finding_next same_l same_q g = record {
            x = s.x;
            ready = s.ready;
            each = λ x ready. levelled (s.each x ready) l k-is (each_plan x ready) e same_l same_q g;
          }
