-- What `add_place` does, and the loops of `first_with_room`, `walk` and `raise`.
-- Assumes nothing.
use mathlib.Core.Path.{◌≡◌, refl, sym, ap, ◌∙◌}
use mathlib.Core.Logic.{inl, inr, ◌≢◌}
use mathlib.Core.List.{List}
use Prim.Native.Nat.{ℕ, zero, suc, ◌+◌, ◌-◌, ◌*◌, ◌≤◌, ◌<◌}
use native.Mathlib.Omega.{arith}
use mathlib.Core.Bool.{cond}
use lib.Dec.{eqb}
use borrow.Author.Tests.{eq-eqb, ne_eqb}
use lib.ListN.{get_or, length, set, length-set, take, drop, replicate}
use borrow.Rule.Slice.PartMut.{put_mid}
use Rattle.std.proofs.Common.{rules}
use Rattle.std.proofs.lemmas.List.{places}
use Rattle.std.proofs.lemmas.Grind.{common_steps}
use Rattle.std.specs.List.{swap}
use Rattle.std.proofs.lemmas.List.Edits.{swapped_from_swap, length-swap}
use Rattle.assignment.specs.Sum.{gate, count}
use Rattle.assignment.specs.Assignment.{Instance}
use Rattle.assignment.specs.Rows.{el}
use Rattle.assignment.specs.Moves.{Moved, put}
use Rattle.assignment.specs.Orders.{Permuted, Swapped}
use Rattle.assignment.specs.Chains as chains
use Rattle.assignment.specs.Insertion.{Going}
use Rattle.assignment.proofs.Tests.{eq?, lt?, gate_eq, gate_ne}
use Rattle.assignment.proofs.Sums.{count_suc, count_ext}
use Rattle.assignment.proofs.Moves.{put_moved}
use Rattle.assignment.proofs.Chains.{chained_add}
use Rattle.assignment.proofs.Insertion.{going_step}
use Rattle.assignment.proofs.Permuted.{permuted_other, permuted_same, swapped}
use Rattle.assignment.proofs.Rows.{set_moved}
use Rattle.day.specs.Day.{most_flights, period_row, width, column, flight_count, of_period, hold}
use Rattle.path.specs.Path.{far, away, landing, Chained}
use Rattle.insertion.specs.Insertion.{EachOnce, home, Added, Hop, Linked, CanWalk, Walked, CanForget, Forgotten}

-- ---- add_place

-- place n is the newest of those in k
module _ {x y : ℕ → ℕ} {loads loads₂ links links₂ : List ℕ} {n k : ℕ} (c : Chained x links n)
    (in_day : k < period_row) (in_row : n < most_flights) (same : (s : ℕ) → s < n → y s ≡ x s) (here : y n ≡ k) (a : Added loads loads₂ links links₂ n k) where
  abbrev mid : List ℕ
  mid = set links (period_row + n) (el links k)

  mid_length : length mid ≡ length links
  mid_length = length-set links (period_row + n) (el links k)

  -- the place's own entry, then the period's
  first : Moved (el links) (el mid) (period_row + n) (el links k)
  first = set_moved links (period_row + n) (el links k) (omega (arith, c.row))

  second : Moved (el mid) (el links₂) k (n + 1)
  second = rw a.linked (set_moved mid k (n + 1) (omega (arith, mid_length, c.row)))

  pub added_chained : Chained y links₂ (n + 1)
  added_chained = record {
    row = ap length a.linked ∙ length-set mid k (n + 1) ∙ mid_length ∙ c.row;
    chains = chained_add {link₂ = λ s. el links₂ (period_row + s)} (heads_only c.chains) in_day same here
        (record { here = second.here; others = λ o e. second.others o e })
        (record { here = second.others (period_row + n) (omega arith) ∙ first.here ∙ sym (first.others k (omega arith)); others = λ o e. second.others (period_row + o) (omega arith) ∙ first.others (period_row + o) (omega arith) });
  }
    where
      -- the entries of the periods are as they were
      heads_only : chains.Chained x period_row (el links) (λ s. el links (period_row + s)) n → chains.Chained x period_row (el mid) (λ s. el links (period_row + s)) n
      heads_only h = record { heads = λ j b. rw (first.others j (omega arith)) (h.heads j b); links = h.links }

  pub added_loads : length loads ≡ period_row → ((j : ℕ) → j < period_row → el loads j ≡ count n x j) → (j : ℕ) → j < period_row → el loads₂ j ≡ count (n + 1) y j
  added_loads row are j b = elim (eq? j k) [
    | inl e ↦ rw e (omega (arith, u.here, counts k, gate_eq k k 1 refl, are k in_day))
    | inr e ↦ omega (arith, u.others j e, counts j, gate_ne k j 1 (λ z. e (sym z)), are j b)
  ]
    where
      u : Moved (el loads) (el loads₂) k (el loads k + 1)
      u = rw a.counted (set_moved loads k (el loads k + 1) (omega (arith, row)))

      counts : (j : ℕ) → count (n + 1) y j ≡ count n x j + gate (eqb k j) 1
      counts j =
          let e : suc n ≡ n + 1 = omega arith in
          omega (
            arith,
            ap (λ z. count z y j) e,
            count_suc n y j,
            count_ext n x y same j,
            ap (λ z. gate (eqb z j) 1) here,
          )

-- ---- walk

-- the flight at place `who` is held until k: it lands there, and the others where they did
module _ {flights places : List ℕ} (holds : List ℕ) {who i k : ℕ} (t : EachOnce flights places) (l : who < flight_count flights)
    (row : length holds ≡ flight_count flights) (i-is : i ≡ el places who) (due_by_lem : column 1 flights i ≤ k) where
  in_row : i < length holds
  in_row = omega (arith, t.permuted.below who l)

  held_here : landing flights places (set holds i (k - column 1 flights i)) who ≡ k
  held_here = rw (← i-is) (omega (arith, (set_moved holds i (k - column 1 flights i) in_row).here))

  held_other : (s : ℕ) → s < flight_count flights → s ≢ who → landing flights places (set holds i (k - column 1 flights i)) s ≡ landing flights places holds s
  held_other s b e = omega (arith, (set_moved holds i (k - column 1 flights i) in_row).others (el places s) (λ f. permuted_other t.permuted s who b l e (f ∙ i-is)))

put_swapped : (f : ℕ → ℕ) (a b : ℕ) → a ≢ b → Swapped f (put (put f a (f b)) b (f a)) a b
put_swapped f a b apart =
    let v = put_moved f a (f b) in
    let w = put_moved (put f a (f b)) b (f a) in
    record {
      here = w.others a apart ∙ v.here;
      there = w.here;
      others = λ s e g. w.others s g ∙ v.others s e;
    }

-- how many flights are to move, from period `at` back along `via` to the new flight; as many steps as `most` are counted
unfoldable pub hops : (most : ℕ) (x via : ℕ → ℕ) (n at : ℕ) → ℕ
hops zero x via n at = 0
hops (suc most) x via n at = cond (eqb (via at) n) 0 (suc (hops most x via n (x (via at))))

-- the new flight stands at `place`, which is in period `at`; the flight at `from` is to move there. x is the plan by the places at the start,
-- σ says where each flight stood then, and places nearer to the new flight's own have not changed
pub record Walking (flights places₀ places holds₀ holds via : List ℕ) (n target at place from : ℕ) : Type 0 where
  pub can : CanWalk flights places₀ holds₀ via n target
  pub once : EachOnce flights places
  pub same_p : length places ≡ length places₀
  pub same_h : length holds ≡ length holds₀
  pub in_day : at < period_row
  pub some : 0 < el can.turn at
  pub below : el can.turn at ≤ el can.turn target
  pub is : from ≡ el via at
  pub stands : place < suc n
  pub σ : ℕ → ℕ
  pub permuted : Permuted (suc n) σ
  pub moved : (s : ℕ) → s < suc n → el places s ≡ el places₀ (σ s)
  pub beyond : (s : ℕ) → n < s → el places s ≡ el places₀ s
  pub new : σ place ≡ n
  pub here : home flights places₀ holds₀ n target place ≡ at
  pub at_home : (s : ℕ) → s < suc n → s ≢ place → landing flights places holds s ≡ home flights places₀ holds₀ n target s
  pub x : ℕ → ℕ
  pub lands_are : (s : ℕ) → s < suc n → s ≢ place → x (σ s) ≡ home flights places₀ holds₀ n target s
  pub still : (s : ℕ) → s < n → el can.turn (home flights places₀ holds₀ n target s) < el can.turn at → σ s ≡ s
  pub keeps : (i : Instance) (q order : ℕ → ℕ) (u : ℕ) → i.n ≡ n
      → Going i (landing flights places₀ holds₀) (landing flights places₀ holds₀) q order (el via) u target target
      → Going i (landing flights places₀ holds₀) x q order (el via) u target at

module _ {flights places holds via : List ℕ} {n target : ℕ} (c : CanWalk flights places holds via n target) where
  -- more steps than there were turns make no difference
  hops_same : (f g at : ℕ) → at < period_row → 0 < el c.turn at → el c.turn at ≤ el c.turn target → el c.turn at ≤ f → el c.turn at ≤ g
      → hops f (landing flights places holds) (el via) n at ≡ hops g (landing flights places holds) (el via) n at
  unfolding hops
  hops_same zero g at in_day some below a b = absurd (omega arith)
  hops_same (suc f) zero at in_day some below a b = absurd (omega arith)
  hops_same (suc f) (suc g) at in_day some below a b = elim (c.chain at in_day some below).flight [
    | inl new ↦ rw (eq-eqb (el via at) n new) refl
    | inr h ↦ ap (λ z. cond (eqb (el via at) n) 0 (suc z))
        (hops_same f g (landing flights places holds (el via at)) h.in_day h.some (omega (arith, h.lower)) (omega (arith, h.lower)) (omega (arith, h.lower)))
  ]

  hops_less : (most at : ℕ) → el c.turn target ≤ suc most → el c.turn at ≤ el c.turn target → el via at ≢ n → Hop (landing flights places holds) c.turn via n at
      → hops (suc most) (landing flights places holds) (el via) n (landing flights places holds (el via at)) < hops (suc most) (landing flights places holds) (el via) n at
  unfolding hops
  hops_less most at few below other h = rw (ne_eqb (el via at) n other) (omega (
    arith,
    hops_same (suc most) most (landing flights places holds (el via at)) h.in_day h.some (omega (arith, h.lower)) (omega (arith, h.lower)) (omega (arith, h.lower)),
  ))

  placed_home : (s : ℕ) → s ≢ n → home flights places holds n target s ≡ landing flights places holds s
  placed_home s e = (put_moved (landing flights places holds) n target).others s e

  pub walking_start : Walking flights places places holds holds via n target target n (get_or via target 0)
  walking_start = record {
    can = c;
    once = c.once;
    same_p = refl;
    same_h = refl;
    in_day = c.within;
    some = c.some;
    below = omega arith;
    is = refl;
    stands = omega arith;
    σ = λ s. s;
    permuted = permuted_same (suc n);
    moved = λ s _. refl;
    beyond = λ s _. refl;
    new = refl;
    here = (put_moved (landing flights places holds) n target).here;
    at_home = λ s _ e. sym (placed_home s e);
    x = landing flights places holds;
    lands_are = λ s _ e. sym (placed_home s e);
    still = λ s _ _. refl;
    keeps = λ i q order u e g. g;
  }

module _ {flights places₀ places holds₀ holds via : List ℕ} {n target at place from : ℕ}
    (s : Walking flights places₀ places holds₀ holds via n target at place from) where
  linked : Linked flights places₀ (landing flights places₀ holds₀) s.can.turn via n at
  linked = s.can.chain at s.in_day s.some s.below

  row : length holds ≡ flight_count flights
  row = s.same_h ∙ s.can.holds_row

  pub walking_places : (place < length places) × (place < most_flights) × (place < flight_count flights)
  walking_places = omega (arith, s.stands, s.can.upto, s.once.row, s.once.few)

  -- the flight at a place, if it stood at `from` at the start, may be held until `at`
  module _ {o i : ℕ} (l : o < suc n) (was : s.σ o ≡ from) (i-is : i ≡ get_or places o 0) where
    due_by_lem : column 1 flights i ≤ at
    due_by_lem = rw (i-is ∙ s.moved o l ∙ ap (el places₀) (was ∙ s.is)) linked.due_by_lem

    pub walking_hold : (i < length holds) × ((i + 1) * width ≤ length flights) × (column 1 flights i ≤ at) × (i < most_flights) × (at < period_row)
    walking_hold =
        let b = s.once.permuted.below o (omega (arith, s.can.upto)) in (
          omega (arith, b, i-is, row),
          omega (arith, b, i-is, s.once.whole),
          due_by_lem,
          omega (arith, b, i-is, s.once.few),
          s.in_day,
        )

  module _ (e : from ≢ n) where
    hop : Hop (landing flights places₀ holds₀) s.can.turn via n at
    hop = elim linked.flight [ inl new ↦ absurd (e (s.is ∙ new)) | inr h ↦ h ]

    in_plan : from < n
    in_plan = omega (arith, s.is, hop.who)

    home_is : home flights places₀ holds₀ n target from ≡ landing flights places₀ holds₀ from
    home_is = placed_home s.can from e

    lower : el s.can.turn (home flights places₀ holds₀ n target from) < el s.can.turn at
    lower = rw (home_is, s.is) hop.lower

    pub walking_stays : s.σ from ≡ from
    walking_stays = s.still from in_plan lower

    apart : place ≢ from
    apart f = omega (arith, lower, ap (λ z. el s.can.turn (home flights places₀ holds₀ n target z)) f, ap (el s.can.turn) s.here)

    pub walking_room : (from < length places) × (from < most_flights) × (from < suc n) × (from < flight_count flights)
    walking_room = omega (arith, in_plan, s.can.upto, s.once.row, s.once.few)

    module _ {i left : ℕ} (i-is : i ≡ get_or places from 0) (left_is : left ≡ column 1 flights i + hold holds i) where
      left_at : left ≡ home flights places₀ holds₀ n target from
      left_at = rw i-is at left_is ∙ s.at_home from walking_room.2 (λ f. apart (sym f))

      pub walking_left : (left < length via) × (left < period_row)
      walking_left = rw (left_at, home_is, s.is) (omega (arith, hop.in_day, s.can.vias))

      pub walking_less : el s.can.turn left < el s.can.turn at
      walking_less = rw left_at lower

      -- fewer flights are left to move
      pub walking_falls : hops (suc period_row) (landing flights places₀ holds₀) (el via) n left < hops (suc period_row) (landing flights places₀ holds₀) (el via) n at
      walking_falls =
          let to : left ≡ landing flights places₀ holds₀ (el via at) = left_at ∙ home_is ∙ ap (landing flights places₀ holds₀) s.is in
          rw to (hops_less s.can period_row at (omega (arith, s.can.latest)) s.below (λ new. e (s.is ∙ new)) hop)

      swaps : Swapped (el places) (el (swap places place from)) place from
      swaps = let e = swapped_from_swap places (swap places place from) place from 0 walking_places.0 walking_room.0 refl in record { here = e.0; there = e.1; others = e.2 }

      abbrev σ₂ : ℕ → ℕ
      σ₂ = put (put s.σ place (s.σ from)) from (s.σ place)

      turns : Swapped s.σ σ₂ place from
      turns = put_swapped s.σ place from apart

      goes : Moved s.x (put s.x from at) from at
      goes = put_moved s.x from at

      moved₂ : (o : ℕ) → o < suc n → el (swap places place from) o ≡ el places₀ (σ₂ o)
      moved₂ o b = elim (eq? o place) [
        | inl f ↦ rw f (swaps.here ∙ s.moved from walking_room.2 ∙ ap (el places₀) (sym turns.here))
        | inr f ↦ elim (eq? o from) [
          | inl g ↦ rw g (swaps.there ∙ s.moved place s.stands ∙ ap (el places₀) (sym turns.there))
          | inr g ↦ swaps.others o f g ∙ s.moved o b ∙ ap (el places₀) (sym (turns.others o f g))
        ]
      ]

      at_home₂ : (o : ℕ) → o < suc n → o ≢ from
          → landing flights (swap places place from) (set holds i (at - column 1 flights i)) o ≡ home flights places₀ holds₀ n target o
      at_home₂ o b f = elim (eq? o place) [
        | inl g ↦ rw g (ap (λ z. column 1 flights z + hold (set holds i (at - column 1 flights i)) z) swaps.here
            ∙ held_here holds s.once walking_room.3 row i-is (due_by_lem walking_room.2 walking_stays i-is) ∙ sym s.here)
        | inr g ↦ ap (λ z. column 1 flights z + hold (set holds i (at - column 1 flights i)) z) (swaps.others o g f)
            ∙ held_other holds s.once walking_room.3 row i-is (due_by_lem walking_room.2 walking_stays i-is) o (omega (arith, s.can.upto)) f ∙ s.at_home o b g
      ]

      lands₂ : (o : ℕ) → o < suc n → o ≢ from → put s.x from at (σ₂ o) ≡ home flights places₀ holds₀ n target o
      lands₂ o b f = elim (eq? o place) [
        | inl g ↦ rw g (ap (put s.x from at) (turns.here ∙ walking_stays) ∙ goes.here ∙ sym s.here)
        | inr g ↦ ap (put s.x from at) (turns.others o g f)
            ∙ goes.others (s.σ o) (λ h. permuted_other s.permuted o from b walking_room.2 f (h ∙ sym walking_stays)) ∙ s.lands_are o b g
      ]

      still₂ : (o : ℕ) → o < n → el s.can.turn (home flights places₀ holds₀ n target o) < el s.can.turn left → σ₂ o ≡ o
      still₂ o b low = turns.others o
          (λ f. omega (arith, low, walking_less, ap (λ z. el s.can.turn (home flights places₀ holds₀ n target z)) f, ap (el s.can.turn) s.here))
          (λ f. omega (arith, low, ap (λ z. el s.can.turn (home flights places₀ holds₀ n target z)) f, ap (el s.can.turn) left_at))
          ∙ s.still o b (omega (arith, low, walking_less))

      pub walking_step : Walking flights places₀ (swap places place from) holds₀ (set holds i (at - column 1 flights i)) via n target left from (get_or via left 0)
      walking_step = record {
        can = s.can;
        once = record {
          whole = s.once.whole;
          few = s.once.few;
          row = omega (arith, s.once.row, length-swap places place from);
          permuted = swapped s.once.permuted walking_places.2 walking_room.3 apart swaps;
        };
        same_p = length-swap places place from ∙ s.same_p;
        same_h = length-set holds i (at - column 1 flights i) ∙ s.same_h;
        in_day = walking_left.1;
        some = rw (left_at, home_is, s.is) hop.some;
        below = omega (arith, walking_less, s.below);
        is = refl;
        stands = walking_room.2;
        σ = σ₂;
        permuted = swapped s.permuted s.stands walking_room.2 apart turns;
        moved = moved₂;
        beyond = λ o b. swaps.others o (omega (arith, s.stands)) (omega (arith, in_plan)) ∙ s.beyond o b;
        new = turns.there ∙ s.new;
        here = sym left_at;
        at_home = at_home₂;
        x = put s.x from at;
        lands_are = lands₂;
        still = still₂;
        keeps = λ j q order u f g.
            let gone : left ≡ s.x from = left_at ∙ sym (s.lands_are from walking_room.2 (λ h. apart (sym h))) ∙ ap s.x walking_stays in
            rw gone (rw s.is (going_step (s.keeps j q order u f g) (λ new. e (s.is ∙ new ∙ f)) (rw s.is at goes)));
      }

  module _ (e : from ≡ n) {i : ℕ} (i-is : i ≡ get_or places place 0) where
    pub walking_last : (i < length holds) × ((i + 1) * width ≤ length flights) × (column 1 flights i ≤ at) × (i < most_flights) × (at < period_row)
    walking_last = walking_hold s.stands (s.new ∙ sym e) i-is

    home_all : (o : ℕ) → o < suc n → landing flights places (set holds i (at - column 1 flights i)) o ≡ home flights places₀ holds₀ n target o
    home_all o b = elim (eq? o place) [
      | inl f ↦ rw f (held_here holds s.once walking_places.2 row i-is walking_last.2 ∙ sym s.here)
      | inr f ↦ held_other holds s.once walking_places.2 row i-is walking_last.2 o (omega (arith, s.can.upto)) f ∙ s.at_home o b f
    ]

    pub walking_end : Walked flights places₀ places holds₀ (set holds i (at - column 1 flights i)) via n target
    walking_end = record {
      once = s.once;
      σ = s.σ;
      permuted = s.permuted;
      moved = s.moved;
      beyond = s.beyond;
      at_home = home_all;
      y = put s.x n at;
      lands_are = λ o b. home_all o b ∙ sym (plan o b);
      keeps = λ j q order u f g. record {
        at = at;
        x = s.x;
        going = s.keeps j q order u f g;
        new = sym s.is ∙ e ∙ sym f;
        last = rw f (put_moved s.x n at);
      };
    }
      where
        plan : (o : ℕ) → o < suc n → put s.x n at (s.σ o) ≡ home flights places₀ holds₀ n target o
        plan o b = elim (eq? o place) [
          | inl f ↦ rw f (ap (put s.x n at) s.new ∙ (put_moved s.x n at).here ∙ sym s.here)
          | inr f ↦ (put_moved s.x n at).others (s.σ o) (λ h. permuted_other s.permuted o place b s.stands f (h ∙ sym s.new)) ∙ s.lands_are o b f
        ]

-- ---- forget

pub forgotten : {dist row : List ℕ} (first target : ℕ) → CanForget dist first target → first ≤ target → row ≡ replicate (length (take ((target + 1) - first) (drop first dist))) far
    → Forgotten (put_mid first ((target + 1) - first) dist row)
forgotten {dist} {row} first target can from is = record {
  all_far = λ j. elim (lt? j first) [
    | inl a ↦ before j a ∙ can.outside j (inl a)
    | inr a ↦ elim (lt? target j) [ inl b ↦ behind j b ∙ can.outside j (inr b) | inr b ↦ within j a b ]
  ];
}
  where
    rows : row ≡ replicate ((target + 1) - first) far
    rows = let e : length (take ((target + 1) - first) (drop first dist)) ≡ (target + 1) - first = grind (arith, common_steps, can.within, can.dists) in rw e at is

    before : (j : ℕ) → j < first → away (put_mid first ((target + 1) - first) dist row) j ≡ away dist j
    before j a = let l : first ≤ length dist = omega (arith, can.dists, can.within) in search (rules, places)

    within : (j : ℕ) → first ≤ j → j ≤ target → away (put_mid first ((target + 1) - first) dist row) j ≡ far
    within j a b = let l : first ≤ length dist = omega (arith, can.dists, can.within) in rw rows (search (rules, places))

    behind : (j : ℕ) → target < j → away (put_mid first ((target + 1) - first) dist row) j ≡ away dist j
    behind j a = let l : first ≤ length dist = omega (arith, can.dists, can.within) in rw rows (search (rules, places))

-- ---- raise

-- the periods before k have their new prices
pub record Raising (prices₀ prices dist : List ℕ) (first target k : ℕ) : Type 0 where
  pub done : (j : ℕ) → first ≤ j → j < k → of_period prices j ≡ of_period prices₀ j + (away dist target - away dist j)
  pub before : (j : ℕ) → j < first → of_period prices j ≡ of_period prices₀ j
  pub left : (j : ℕ) → k ≤ j → of_period prices j ≡ of_period prices₀ j
